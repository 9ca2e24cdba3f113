-- The tests of a retry in their order: the payload first, then the first expiry, then the expiry.
use Rattle.std.proofs.Common.{refl, sym, ◌∙◌, inl, inr}
use Rattle.rb_replay.proofs.ChainedHistories.{same_payload}
use Rattle.rb_replay.proofs.calls.chains.check_retry.Goals as goal

pub returns-then-element-parent : goal.returns-then-element-parent
returns-then-element-parent c = λ _. inr (same_payload _ _ _ _ c.if-ne.ensures, inl (c.if-element-parent.true, refl))

pub returns-in-Some : goal.returns-in-Some
returns-in-Some c = λ _. record {
  payload = same_payload _ _ _ _ c.if-ne.ensures;
  first = c.if-element-parent.false;
  expiry = sym c.if-retry-element.true ∙ c.in-Some.ensures.1.expiry;
}

pub returns-in_default : goal.returns-in_default
returns-in_default c = λ _.
    inr (
      same_payload _ _ _ _ c.if-ne.ensures,
      inr (
        c.if-element-parent.false,
        inl (λ same. c.if-retry-element.false (c.in-Some.ensures.1.expiry ∙ sym same), refl),
      ),
    )
