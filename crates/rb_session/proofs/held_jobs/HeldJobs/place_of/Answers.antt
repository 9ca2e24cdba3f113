-- Among the first entries an id is found where its job is held.
use Rattle.std.proofs.Common.{◌≡◌, ℕ, ◌++◌, List, Some, None, Bool, cond, sym, ap, ◌∙◌, lt-ltb, le-ltb}
use Rattle.std.proofs.Common.{position, nat_eq, drop}
use Rattle.std.proofs.lemmas.List.{take-append-drop}
use Rattle.std.specs.Map.{keys_of}
use Rattle.rb_delayed.specs.declared.element.Element.{Element}
use Rattle.rb_session.specs.Held.{place_of}
use Rattle.rb_session.specs.JobMap.{filed, held_in}
use Rattle.rb_session.proofs.JobMaps.{Entry, found_within, within}
use Rattle.rb_session.proofs.held_jobs.HeldJobs.place_of.Goals as goal
use Rattle.rb_session.proofs.held_jobs.HeldJobs.place_of.Goals.{After-find}

found : (c : After-find) → within c.self.inside.count c.find.result ≡ place_of c.args.self.now c.args.id
found c =
    let entries : List Entry = c.self.inside.jobs.entries in
    let held : List Element = held_in entries c.self.inside.count in
    let ended : List Entry = drop c.self.inside.count entries in
    let parts : entries ≡ filed held ++ ended =
    sym (take-append-drop c.self.inside.count entries) ∙ ap (λ (es : List Entry). es ++ ended)
    c.self.invariant.0.first in
    ap (within c.self.inside.count) (c.find.ensures
    ∙ ap (λ (es : List Entry). position (nat_eq c.args.id) (keys_of es)) parts)
    ∙ ap (λ (n : ℕ). within n (position (nat_eq c.args.id) (keys_of (filed held ++ ended))))
    (sym c.self.invariant.0.counted)
    ∙ found_within held ended c.args.id ∙ ap (λ (h : List Element). place_of h c.args.id) c.self.view_is

pub returns-in-Some : goal.returns-in-Some
returns-in-Some c =
    let on = (goal.at.returns-in-Some c).After-find in
    sym (ap (λ (b : Bool). cond b (Some c.in-Some.place) None)
    (lt-ltb c.in-Some.place c.self.inside.count c.if-place-self.true))
    ∙ sym (ap (within c.self.inside.count) c.in-Some.is) ∙ found on

pub returns-in_default : goal.returns-in_default
returns-in_default c =
    let on = (goal.at.returns-in_default c).After-find in
    sym (ap (λ (b : Bool). cond b (Some c.in-Some.place) None)
    (le-ltb c.in-Some.place c.self.inside.count c.if-place-self.false))
    ∙ sym (ap (within c.self.inside.count) c.in-Some.is) ∙ found on

pub returns-in_default-2 : goal.returns-in_default-2
returns-in_default-2 c =
    sym (ap (within c.self.inside.count) c.in_default.is)
    ∙ found (goal.at.returns-in_default-2 c).After-find
