-- The first entries are those of the jobs, and the last of these are asked for.
use Rattle.std.proofs.Common.{◌≡◌, ℕ, ◌-◌, List, Option, Some, sym, ap, ◌∙◌, length, take, drop, map, arith}
use Rattle.std.proofs.lemmas.List.{drop-take, take-map, drop-map}
use Rattle.std.specs.Map.{values_of}
use Rattle.rb_delayed.specs.declared.element.Element.{Element}
use Rattle.rb_session.specs.JobMap.{held_in}
use Rattle.rb_session.proofs.JobMaps.{Entry, values_filed}
use Rattle.rb_session.proofs.held_jobs.HeldJobs.last.Goals as goal

pub returns : goal.returns
returns c =
    let first : ℕ = c.saturating_sub-first.result in
    let count : ℕ = c.self.inside.count in
    let entries : List Entry = c.self.inside.jobs.entries in
    let held : List Element = held_in entries count in
    let some : Element → Option Element = λ e. Some e in
    let is : first ≡ length held - c.args.count = omega (arith, c.saturating_sub-first.ensures, c.self.invariant.0.counted) in
    ap (λ (values : List (Option Element)). take (count - first) (drop first values))
    (c.as_slice.ensures ∙ c.values.ensures.rest)
    ∙ sym (drop-take first (count - first) (values_of entries))
    ∙ ap (λ (n : ℕ). drop first (take n (values_of entries))) (omega (arith, is, c.self.invariant.0.counted))
    ∙ ap (drop first) (take-map (λ (e : Entry). e.1) count entries ∙ ap values_of c.self.invariant.0.first
    ∙ values_filed held)
    ∙ drop-map some first held
    ∙ ap (λ (n : ℕ). map some (drop n held)) is
    ∙ ap (λ (h : List Element). map some (drop (length h - c.args.count) h)) c.self.view_is
