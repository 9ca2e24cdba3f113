-- The attempt before is found in the index, and the tests are made in the order of their reasons.
use Rattle.std.proofs.Common.{◌≡◌, false, true, sym, ◌∙◌}
use Rattle.std.proofs.lemmas.Result.{err_from_is_err_and}
use Rattle.rb_replay.proofs.ChainedHistories.{parent_below, own_attempt, wrong_retry, offered_twice, right_retry}
use Rattle.rb_replay.proofs.calls.chains.check_later.Goals as goal

pub returns-in_err-check_retry : goal.returns-in_err-check_retry
returns-in_err-check_retry c = λ came past recalls.
    let few = c.if-element-policy.false in
    let parent = sym (c.in-Some.ensures.found came past recalls) in
    let p = err_from_is_err_and c.from_residual.result c.from_residual.ensures.1 in
    rw (p.1, p.2)
    (wrong_retry c.args.policy.now past c.args.asked c.args.element.now c.in-Some.parent _ few parent
    (c.in_err-check_retry.ensures (parent_below c.args.policy.now past c.args.element.now c.in-Some.parent few parent)))

pub returns-then-is_offered : goal.returns-then-is_offered
returns-then-is_offered c = λ came past recalls.
    let few = c.if-element-policy.false in
    let parent = sym (c.in-Some.ensures.found came past recalls) in
    let follows = c.in_ok-check_retry.ensures (parent_below c.args.policy.now past c.args.element.now c.in-Some.parent few parent) in
    offered_twice c.args.policy.now past c.args.asked c.args.element.now c.in-Some.parent few parent follows
    (own_attempt past c.args.element.now c.of.result c.is_offered.result true c.of.ensures (c.is_offered.ensures came past recalls) c.if-is_offered.true)

pub returns : goal.returns
returns c = λ came past recalls.
    let few = c.if-element-policy.false in
    let parent = sym (c.in-Some.ensures.found came past recalls) in
    let follows = c.in_ok-check_retry.ensures (parent_below c.args.policy.now past c.args.element.now c.in-Some.parent few parent) in
    let none = own_attempt past c.args.element.now c.of.result c.is_offered.result false c.of.ensures (c.is_offered.ensures came past recalls) c.if-is_offered.false in
    right_retry c.args.policy.now past c.args.asked c.args.element.now c.in-Some.parent few parent follows (λ some. let wrong : false ≡ true = sym none ∙ some in absurd (cc))
