-- Elements are settled and then events, all with one map, and nothing but first expiries changes.
use Rattle.std.proofs.Common.{◌≡◌, refl, sym, subst, ◌∙◌, arith}
use Rattle.rb_history.specs.Settling.{SettlesElements, SettlesEvents}
use Rattle.rb_history.proofs.WholeTexts.{has_firsts, whole_list}
use Rattle.rb_history.proofs.read.with_firsts.Goals as goal

pub returns : goal.returns
returns c =
    let kept : c.new.result ≡ c.settle_elements.new.elements = c.new.ensures ∙ whole_list _ _ _ (omega (arith, c.settle_elements.auto.elements, c.deref_mut.ensures.len)) in
    let events : c.new-2.result ≡ c.settle_events.new.events = c.new-2.ensures ∙ whole_list _ _ _ (omega (arith, c.settle_events.auto.events, c.deref_mut-2.ensures.len)) in
    has_firsts c.args.told _ c.settle_elements.new.self c.settle_events.new.self c.requires
    (subst (λ old. SettlesElements old c.settle_elements.new.self c.new.result) (c.deref_mut.ensures.value ∙ c.into_vec-kept.ensures)
    (subst (SettlesElements c.deref_mut.result.now c.settle_elements.new.self) (sym kept) c.in_ok-settle_elements.ensures))
    (subst (λ old. SettlesEvents c.settle_elements.new.self old c.settle_events.new.self c.new-2.result) (c.deref_mut-2.ensures.value ∙ c.into_vec-events.ensures)
    (subst (SettlesEvents c.settle_elements.new.self c.deref_mut-2.result.now c.settle_events.new.self) (sym events) c.in_ok-settle_events.ensures)) refl refl
