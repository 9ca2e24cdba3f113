-- How an offer that rings ends, and what the pass has seen after it.
use Rattle.std.specs.Prelude.{Result, Ok, Err}
use Rattle.rb_delayed.specs.declared.element.Element.{Element}
use Rattle.rb_queue.specs.declared.reply.Reply.TheVariants.{Offered}
use Rattle.rb_kept.specs.declared.tries.Try.{Try}
use Rattle.rb_kept.specs.declared.fault.CallFault.{CallFault}
use Rattle.rb_lock.specs.Passes.{PassState}
use Rattle.rb_lock.specs.SharedCalls.{Replied, Answered}

-- it ends as a call of the offer does, and its reply is the offered element
abbrev pub OfferAnswered : PassState → PassState → Try → Result Element CallFault → Type 0
OfferAnswered old new try (Ok element) = Replied old new try (Offered element)
OfferAnswered old new try (Err fault) = Answered old new try (Err fault)
