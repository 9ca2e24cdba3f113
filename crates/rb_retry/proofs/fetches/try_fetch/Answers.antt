-- A take and a timed poll get no other reply than a poll may get.
use Rattle.std.proofs.Common.{ℕ}
use Rattle.rb_queue.specs.declared.ask.Ask.{Ask}
use Rattle.rb_queue.specs.declared.ask.Ask.TheVariants as asks
use Rattle.rb_queue.specs.declared.reply.Reply.{Reply}
use Rattle.rb_queue.specs.declared.reply.Reply.TheVariants as replies
use Rattle.rb_retry.specs.Asked.{IsReplyTo, MayWait}
use Rattle.rb_retry.proofs.fetches.try_fetch.Goals as goal

of_take : (reply : Reply) → IsReplyTo asks.Take reply → IsReplyTo asks.Poll reply
of_take (replies.Item element) is = tt
of_take _ is = absurd is

of_poll_for : (start timeout : ℕ) (reply : Reply) → IsReplyTo (asks.PollFor start timeout) reply → IsReplyTo asks.Poll reply
of_poll_for start timeout (replies.Item element) is = tt
of_poll_for start timeout replies.Nothing is = tt
of_poll_for start timeout _ is = absurd is

as_polled : (ask : Ask) (reply : Reply) → MayWait ask → IsReplyTo ask reply → IsReplyTo asks.Poll reply
as_polled asks.Take reply waits is = of_take reply is
as_polled (asks.PollFor start timeout) reply waits is = of_poll_for start timeout reply is
as_polled _ reply waits is = absurd waits

pub polled-requires : goal.polled-requires
polled-requires g c =
    let tried = rw c.in-Ok.is at c.in_ok-reply.ensures.tried in
    let step = g.met.D.Desk.tries_once _ _ c.args.asked 0 c.args.ask _ c.requires.waits c.requires.read tried in
    as_polled c.args.ask c.in-Ok.reply c.requires.waits (g.met.D.Desk.makes _ _ 0 c.args.ask c.in-Ok.reply step).answered
