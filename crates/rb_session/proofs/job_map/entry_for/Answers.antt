-- An id has its entry already, or gets one behind the others.
use Rattle.std.proofs.Common.{◌≡◌, ◌+◌, ◌<◌, ◌∷◌, ◌++◌, [], ℕ, List, Option, Some, None, Result, Ok, Err, IsOk, OnOk, is_some, false}
use Rattle.std.proofs.Common.{length, length-append, refl, sym, ap, ◌∙◌, arith, get_or, nat_eq, eqb-true, position, remove}
use Rattle.std.proofs.lemmas.List.{length-map}
use Rattle.std.proofs.lemmas.List.Quantifiers.{position-Some}
use Rattle.std.specs.Map.{keys_of, lookup}
use Rattle.indexmap.proofs.CallerLemmas.{insert_entry-new}
use Rattle.indexmap.proofs.MapLemmas.{some_index}
use Rattle.rb_session.proofs.JobMaps.{Entry, pushed, removed_found, removed_none}
use Rattle.rb_session.proofs.job_map.entry_for.Goals as goal
use Rattle.rb_session.proofs.job_map.entry_for.Goals.{After-unwrap}

-- where an id is found
at_found : (entries : List Entry) (id at : ℕ) → position (nat_eq id) (keys_of entries) ≡ Some at
    → (at < length entries) × (get_or (keys_of entries) at 0 ≡ id)
at_found entries id at found =
    let is = position-Some (nat_eq id) (keys_of entries) at 0 found in
    let long = length-map entries (λ (e : Entry). e.0) in
    (omega (arith, is.0, long), sym (eqb-true id (get_or (keys_of entries) at 0) is.1))

pub returns-in-Some-clause-within : goal.returns-in-Some-clause-within
returns-in-Some-clause-within c =
    (at_found c.args.jobs.now.entries c.args.id c.in-Some.at (sym c.in-Some.ensures)).0

pub returns-in-Some-clause-key : goal.returns-in-Some-clause-key
returns-in-Some-clause-key c =
    (at_found c.args.jobs.now.entries c.args.id c.in-Some.at (sym c.in-Some.ensures)).1

pub returns-in-Some-clause-others : goal.returns-in-Some-clause-others
returns-in-Some-clause-others c =
    sym (removed_found c.args.jobs.now.entries c.args.id c.in-Some.at (sym c.in-Some.ensures))

-- what a call says of its success, where it succeeds
on_ok : {X E : Type 0} (result : Result X E) (P : Type 0) → IsOk result → OnOk result P → P
on_ok (Ok x) P ok holds = holds
on_ok (Err e) P ok holds = absurd (cc)

no_value : {X : Type 0} (found : Option X) → false ≡ is_some found → found ≡ None
no_value None is = refl
no_value (Some x) is = absurd (cc)

absent : (c : After-unwrap) → lookup (nat_eq c.args.id) c.args.jobs.now.entries ≡ None
absent c = no_value _ (ap is_some c.in-None.ensures ∙ some_index (nat_eq c.args.id) c.args.jobs.now.entries)

-- the new entry is behind the others
comes_last : (c : After-unwrap) → c.insert.new.self.entries ≡ c.args.jobs.now.entries ++ (c.args.id, None) ∷ []
comes_last c =
    on_ok c.insert.result _ (c.insert.ensures.succeeds c.requires.room) c.insert.ensures.entries
    ∙ insert_entry-new nat_eq c.args.jobs.now c.args.id None (absent c)

longer : (c : After-unwrap) → length c.insert.new.self.entries ≡ length c.args.jobs.now.entries + 1
longer c = ap length (comes_last c) ∙ length-append c.args.jobs.now.entries ((c.args.id, None) ∷ [])

pub returns-in-None-clause-within : goal.returns-in-None-clause-within
returns-in-None-clause-within c =
    omega (arith, c.len-at.ensures.len, longer (goal.at.returns-in-None-clause-within c).After-unwrap)

pub returns-in-None-clause-key : goal.returns-in-None-clause-key
returns-in-None-clause-key c =
    ap (λ (es : List Entry). get_or (keys_of es) c.len-at.result 0)
    (comes_last (goal.at.returns-in-None-clause-key c).After-unwrap)
    ∙ ap (λ (n : ℕ). get_or (keys_of (c.args.jobs.now.entries ++ (c.args.id, None) ∷ [])) n 0) c.len-at.ensures.len
    ∙ (pushed c.args.jobs.now.entries (c.args.id, None)).0

pub returns-in-None-clause-others : goal.returns-in-None-clause-others
returns-in-None-clause-others c =
    let on = (goal.at.returns-in-None-clause-others c).After-unwrap in
    ap (λ (es : List Entry). remove es c.len-at.result) (comes_last on)
    ∙ ap (remove (c.args.jobs.now.entries ++ (c.args.id, None) ∷ [])) c.len-at.ensures.len
    ∙ (pushed c.args.jobs.now.entries (c.args.id, None)).1
    ∙ sym (removed_none c.args.jobs.now.entries c.args.id (absent on))

pub returns-in-None-clause-room : goal.returns-in-None-clause-room
returns-in-None-clause-room c =
    omega (arith, c.insert.ensures.spare, longer (goal.at.returns-in-None-clause-room c).After-unwrap)
