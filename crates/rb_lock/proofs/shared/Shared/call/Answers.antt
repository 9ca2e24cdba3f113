-- What a taken lock, a call and a lock given back come to: the pass learns, and gets its reply.
use Rattle.std.proofs.Common.{◌≡◌, subst, ◌∙◌}
use Rattle.rb_lock.specs.SharedCalls.{Answered}
use Rattle.rb_lock.specs.Passes.{PassState, Learns}
use Rattle.rb_lock.specs.Views.{pass_of}
use Rattle.rb_lock.proofs.MadeCalls.{CallsInHand, may_give, called_pass, called_learns, called_answered}
use Rattle.rb_lock.proofs.RestingPasses.{found_in_hand}
use Rattle.rb_lock.proofs.shared.Shared.call.Given.{Over}
use Rattle.rb_lock.proofs.shared.Shared.call.Goals as goal
use Rattle.rb_lock.proofs.shared.Shared.call.Goals.{After-act-outcome, After-give}

calls_in_hand : (g : Over) (c : After-act-outcome g)
    → CallsInHand {T = g.row.T.Denot} (pass_of c.pass.inside.seat.table_id c.pass.inside.seat.me.0) (record { seat = c.pass.inside.name; asked = c.args.asked; ask = c.args.ask })
    c.act-outcome.result c.pass.inside.tally c.act-outcome.new.tally c.pass.inside.seat.me c.take.new.seat.me c.act-outcome.new.seat.me
calls_in_hand g c = record { rest = c.pass.invariant.rest; got = c.take.ensures.taken; acts = c.act-outcome.ensures.acts; named = c.pass.invariant.name_is }

same_table : (g : Over) (c : After-give g) → c.give.new.seat.table_id ≡ c.pass.inside.seat.table_id
same_table g c = c.give.ensures.table ∙ (c.act-outcome.ensures.table ∙ c.take.ensures.table)

pub act-outcome-requires-clause-hand : goal.act-outcome-requires-clause-hand
act-outcome-requires-clause-hand g c = found_in_hand {T = g.row.T.Denot} (pass_of c.pass.inside.seat.table_id c.pass.inside.seat.me.0) _ _ c.pass.invariant.rest c.take.ensures.taken

pub give-requires-clause-holds : goal.give-requires-clause-holds
give-requires-clause-holds g c = may_give (calls_in_hand g (goal.at.give-requires-clause-holds g c).After-act-outcome)

pub invariant_of-pass : goal.invariant_of-pass
invariant_of-pass g c =
    let at = goal.at.invariant_of-pass g c in
    called_pass (calls_in_hand g at.After-act-outcome) _ _ (same_table g at.After-give) c.give.ensures.seen _ c.pass.invariant.name_is c.pass.invariant.counted c.pass.invariant.sound

pub returns-clause-learns : goal.returns-clause-learns
returns-clause-learns g c =
    let at = goal.at.returns-clause-learns g c in
    subst (λ (p : PassState). Learns p (pass_of c.give.new.seat.table_id c.give.new.seat.me.0)) c.pass.view_is
    (called_learns (calls_in_hand g at.After-act-outcome) _ _ (same_table g at.After-give) c.give.ensures.seen c.pass.invariant.sound)

pub returns-clause-answered : goal.returns-clause-answered
returns-clause-answered g c =
    let at = goal.at.returns-clause-answered g c in
    subst (λ (p : PassState). Answered p (pass_of c.give.new.seat.table_id c.give.new.seat.me.0) (record { seat = p.name; asked = c.args.asked; ask = c.args.ask }) c.act-outcome.result)
    c.pass.view_is (called_answered (calls_in_hand g at.After-act-outcome) _ _ (same_table g at.After-give) c.give.ensures.seen)
