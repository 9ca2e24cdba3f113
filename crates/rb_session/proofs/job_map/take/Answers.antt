-- The job's entry moves behind the others of the first, and is emptied there.
use Rattle.std.proofs.Common.{◌≡◌, ◌-◌, List, ◌∷◌, ◌++◌, Option, Some, length, sym, ap, subst, ◌∙◌, arith, nat_eq}
use Rattle.std.proofs.Common.{remove, take, drop, slice_get, zero, suc, ℕ, ◌<◌, [], refl}
use Rattle.std.specs.Option.{IsSome}
use Rattle.std.proofs.lemmas.List.{length-map, take-append-drop}
use Rattle.std.proofs.lemmas.List.Edits.{length-remove}
use Rattle.std.proofs.lemmas.Option.{same_Some}
use Rattle.std.specs.Cmp.{nat_eq_equiv}
use Rattle.std.specs.List.{IsDistinct}
use Rattle.std.specs.Map.{keys_of, values_of}
use Rattle.indexmap.specs.IndexMap.{move_index, set_value_at}
use Rattle.indexmap.proofs.CallerLemmas.{index_map_len-with_value_at}
use Rattle.indexmap.proofs.MapLemmas.{absent_before}
use Rattle.rb_delayed.specs.declared.element.Element.{Element}
use Rattle.rb_session.specs.Held.{place_of}
use Rattle.rb_session.specs.JobMap.{filed, held_in}
use Rattle.rb_session.proofs.JobMaps.{Entry, entry, moves_out, emptied, not_held, held_first}
use Rattle.rb_session.proofs.job_map.take.Goals as goal
use Rattle.rb_session.proofs.job_map.take.Goals.{After-take}

-- there is a job at the place
there : (held : List Element) (place : ℕ) → place < length held → (element : Element)
    × (slice_get held place ≡ Some element)
there [] place within = absurd (omega (arith, within))
there (first ∷ held) zero within = (first, refl)
there (first ∷ held) (suc place) within = there held place (omega (arith, within))

module _ (c : After-take) where
  abbrev held : List Element
  held = held_in c.args.jobs.now.entries c.args.count

  abbrev ended : List Entry
  ended = drop c.args.count c.args.jobs.now.entries

  abbrev rest : List Element
  rest = remove held c.args.place

  at : (element : Element) × (slice_get held c.args.place ≡ Some element)
  at = there held c.args.place (omega (arith, c.requires.within, c.requires.filed.counted))

  shorter : c.args.count - 1 ≡ length rest
  shorter =
      let one = length-remove held c.args.place (omega (arith, c.requires.within, c.requires.filed.counted)) in
      omega (arith, one, c.requires.filed.counted)

  moved : c.move_entry.new.jobs.entries ≡ filed rest ++ entry at.0 ∷ ended
  moved =
      let entries : List Entry = c.args.jobs.now.entries in
      let parts : entries ≡ filed held ++ ended =
      sym (take-append-drop c.args.count entries) ∙ ap (λ (es : List Entry). es ++ ended) c.requires.filed.first in
      c.move_entry.ensures.entries
      ∙ ap (λ (es : List Entry). move_index es c.args.place (c.args.count - 1)) parts
      ∙ moves_out held ended c.args.place (c.args.count - 1) at.0 at.1
      (omega (arith, c.requires.within, c.requires.filed.counted))

  empty : (set_value_at c.move_entry.new.jobs.entries (c.args.count - 1) c.take.new.self
      ≡ filed rest ++ (at.0.id, c.take.new.self) ∷ ended) × (c.take.result ≡ Some at.0)
  empty =
      let last = emptied (filed rest) at.0.id (Some at.0) c.take.new.self ended (c.args.count - 1)
      (omega (arith, shorter, length-map rest entry)) in (
        ap (λ (es : List Entry). set_value_at es (c.args.count - 1) c.take.new.self) moved ∙ last.0,
        c.take.ensures.value ∙ same_Some _ _ (sym c.index_mut.ensures.value
            ∙ ap (λ (es : List Entry). slice_get (values_of es) (c.args.count - 1)) moved ∙ last.1),
      )

  front : (take (c.args.count - 1) (set_value_at c.move_entry.new.jobs.entries (c.args.count - 1) c.take.new.self)
      ≡ filed rest)
      × (held_in (set_value_at c.move_entry.new.jobs.entries (c.args.count - 1) c.take.new.self) (c.args.count - 1)
      ≡ rest)
  front = held_first rest ((at.0.id, c.take.new.self) ∷ ended) _ (c.args.count - 1) empty.0 shorter

pub unwrap-job-requires : goal.unwrap-job-requires
unwrap-job-requires c =
    subst (λ (job : Option Element). IsSome job) (sym (empty (goal.at.unwrap-job-requires c).After-take).1) refl

pub drop_ended-requires-clause-first : goal.drop_ended-requires-clause-first
drop_ended-requires-clause-first c =
    let is = front (goal.at.drop_ended-requires-clause-first c).After-take in is.0 ∙ ap filed (sym is.1)

pub drop_ended-requires-clause-counted : goal.drop_ended-requires-clause-counted
drop_ended-requires-clause-counted c =
    let on = (goal.at.drop_ended-requires-clause-counted c).After-take in
    ap length (front on).1 ∙ sym (shorter on)

pub drop_ended-requires-clause-room : goal.drop_ended-requires-clause-room
drop_ended-requires-clause-room c =
    omega (
      arith,
      c.requires.filed.room,
      c.move_entry.ensures.len,
      c.move_entry.ensures.room,
      index_map_len-with_value_at c.move_entry.new.jobs (c.args.count - 1) c.take.new.self,
    )

-- the job that was taken is the one at the place
job : (c : After-take) (result : Element) → c.take.result ≡ Some result → (at c).0 ≡ result
job c result is = same_Some _ _ (sym (empty c).1 ∙ is)

pub returns-clause-job : goal.returns-clause-job
returns-clause-job c =
    let on = (goal.at.returns-clause-job c).After-take in
    (at on).1 ∙ ap Some (job on c.unwrap-job.result c.unwrap-job.ensures)

pub returns-clause-held : goal.returns-clause-held
returns-clause-held c = c.drop_ended.ensures.held ∙ (front (goal.at.returns-clause-held c).After-take).1

pub returns-clause-gone : goal.returns-clause-gone
returns-clause-gone c =
    let on = (goal.at.returns-clause-gone c).After-take in
    let apart = subst (λ (es : List Entry). IsDistinct nat_eq (keys_of es)) (moved on) c.move_entry.ensures.unique in
    ap (λ (h : List Element). place_of h c.unwrap-job.result.id) (c.drop_ended.ensures.held ∙ (front on).1)
    ∙ ap (λ (e : Element). place_of (rest on) e.id) (sym (job on c.unwrap-job.result c.unwrap-job.ensures))
    ∙ not_held (rest on) (at on).0.id (absent_before nat_eq_equiv (filed (rest on)) (ended on) (entry (at on).0) apart)
