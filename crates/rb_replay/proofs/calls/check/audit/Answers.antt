-- Offered and given elements are counted here, in sums that fit in 64 bits. The other counts are the end's.
use Rattle.std.proofs.Common.{◌≡◌, length, refl, ap, ◌∙◌, arith}
use Rattle.std.proofs.lemmas.List.{take_all}
use Rattle.std.specs.FinMap as map
use Rattle.rb_queue.specs.Counts.{offer_count, give_count, left_count}
use Rattle.rb_queue.specs.History.{State}
use Rattle.rb_replay.proofs.Replays.{offers_fit, gives_fit}
use Rattle.rb_replay.proofs.calls.check.audit.Goals as goal

pub overflow_add-offered : goal.overflow_add-offered
overflow_add-offered c =
    let fits = offers_fit c.args.opening.now c.args.events.now c.loop-event.event-index c.event-item.result c.requires.end.legal c.requires.few c.loop-event-test.true c.event-item.is in
    omega (arith, fits, c.loop-event.invariant.offered, c.offered-offered.ensures)

pub overflow_add-given : goal.overflow_add-given
overflow_add-given c =
    let fits = gives_fit c.args.opening.now c.args.events.now c.loop-event.event-index c.event-item.result c.requires.end.legal c.requires.few c.loop-event-test.true c.event-item.is in
    omega (arith, fits, c.loop-event.invariant.given, c.given-given.ensures)

pub returns : goal.returns
returns c =
    let whole = take_all c.loop-event.event-index c.args.events.now (omega arith) in
    let offered = c.loop-event.invariant.offered ∙ ap offer_count whole in
    let given = c.loop-event.invariant.given ∙ ap give_count whole in
    let left : c.size.result ≡ left_count c.args.opening.now c.args.events.now = c.size.ensures ∙ ap (λ (s : State). map.len s.queue.bag) c.requires.end.state in
    let opening = ap length c.as_slice.ensures in
    rw (offered, given, c.requires.end.sums, left, opening) refl
