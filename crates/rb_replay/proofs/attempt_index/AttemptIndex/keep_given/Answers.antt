-- An attempt is kept once: as before, as a mark at its own offer, or in the map of those given.
use Rattle.std.proofs.Common.{refl, sym, ap, ◌∙◌}
use Rattle.std.specs.Prelude.{is_some}
use Rattle.rb_replay.specs.declared.attempt.Attempt.{Attempt}
use Rattle.rb_replay.proofs.AttemptIndexes.{keeps_given_before, keeps_at_place, keeps_in_map}
use Rattle.rb_replay.proofs.attempt_index.AttemptIndex.keep_given.Goals as goal

pub returns-then-is_some : goal.returns-then-is_some
returns-then-is_some c =
    let known = sym c.element.ensures ∙ c.in-Some.is in
    let told = ap is_some (sym (rw c.of-attempt.ensures at c.first_given.ensures.first)) in
    keeps_given_before c.args.id c.in-Some.element c.args.self.now known (told ∙ sym c.is_some.ensures ∙ c.if-is_some.true)

pub returns-in-Some-place_of : goal.returns-in-Some-place_of
returns-in-Some-place_of c =
    let known = sym c.element.ensures ∙ c.in-Some.is in
    let told = ap is_some (sym (rw c.of-attempt.ensures at c.first_given.ensures.first)) in
    keeps_at_place c.args.id c.in-Some-place_of.place c.in-Some.element c.index_mut.result.now c.args.self.now _ known
    (told ∙ sym c.is_some.ensures ∙ c.if-is_some.false) c.in-Some-place_of.ensures.some c.index_mut.ensures.value
    (sym (ap (λ (a : Attempt). a.number) c.of-attempt.ensures) ∙ c.if-attempt-eq1.true) (sym (ap (λ (a : Attempt). a.origin) c.of-attempt.ensures) ∙ c.if-attempt-id.true) refl refl refl refl refl

pub returns-in_ok-insert-in_default-place_of : goal.returns-in_ok-insert-in_default-place_of
returns-in_ok-insert-in_default-place_of c =
    let known = sym c.element.ensures ∙ c.in-Some.is in
    let told = ap is_some (sym (rw c.of-attempt.ensures at c.first_given.ensures.first)) in
    keeps_in_map c.args.id c.in-Some.element c.args.self.now _ known
    (told ∙ sym c.is_some.ensures ∙ c.if-is_some.false) (rw c.of-attempt.ensures at c.in_ok-insert-in_default-place_of.ensures.updates.0) refl refl refl refl
