-- The id in the act is the shown element's, so the reply is what the bag has under that id.
use Rattle.std.proofs.Common.{refl, ap, ◌∙◌}
use Rattle.std.specs.Prelude.{option_map}
use Rattle.std.specs.FinMap as map
use Rattle.rb_queue.specs.declared.reply.Reply.TheVariants.{Head}
use Rattle.rb_kept.proofs.perform.peek.Goals as goal

pub returns-in-Some : goal.returns-in-Some
returns-in-Some g c = λ now. record {
  of_ask = tt;
  acts = rw c.id.ensures (c.in-Some.ensures.peeks now);
  reply = ap (option_map Head) (ap (map.get c.args.queue.now.bag) c.id.ensures ∙ c.in-Some.ensures.element);
}

pub returns-in-None : goal.returns-in-None
returns-in-None g c = λ now. record { of_ask = tt; acts = c.in-None.ensures.peeks now; reply = refl }
