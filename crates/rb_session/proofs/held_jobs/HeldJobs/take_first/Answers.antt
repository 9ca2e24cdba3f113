-- The first job stands before the others.
use Rattle.std.proofs.Common.{rules, ◌≡◌, List, [], ◌∷◌, Some, remove, slice_get, ap}
use Rattle.std.proofs.lemmas.List.{nil_from_length}
use Rattle.rb_delayed.specs.declared.element.Element.{Element}
use Rattle.rb_session.proofs.held_jobs.HeldJobs.take_first.Goals as goal

first_stands : (held : List Element) (element : Element) → slice_get held 0 ≡ Some element
    → held ≡ element ∷ remove held 0
first_stands [] element there = absurd (cc)
first_stands (first ∷ held) element there =
    let same : first ≡ element = cc in
    ap (λ (e : Element). e ∷ held) same

pub returns-then-is_empty : goal.returns-then-is_empty
returns-then-is_empty c =
    let none = nil_from_length c.args.self.now (c.is_empty.ensures.0 c.if-is_empty.true) in (none, none)

pub returns : goal.returns
returns c =
    let whole = first_stands c.args.self.now c.take_out.result c.take_out.ensures.job in
    search rules
