-- The outcome of fetching a job, and what failing it does, at a desk of any kind.
use Rattle.std.specs.Prelude.{◌≡◌, ℕ, Option, Some, None, Result, Ok, Err}
use Rattle.rb_delayed.specs.declared.element.Element.{Element}
use Rattle.rb_queue.specs.declared.ask.Ask.TheVariants.{Offer}
use Rattle.rb_queue.specs.declared.draft.Draft.{Draft}
use Rattle.rb_queue.specs.declared.reply.Reply.{Reply}
use Rattle.rb_queue.specs.declared.reply.Reply.TheVariants.{Item, Nothing}
use Rattle.rb_kept.specs.declared.fault.CallFault.{CallFault}
use Rattle.rb_retry.specs.Retry.{IsRetry}
pub use Rattle.rb_retry.specs.Asked.{offer_answer}
use Rattle.rb_retry.specs.DeskRules.{DeskRules}
use Rattle.rb_retry.specs.declared.desk_fault.DeskFault.{DeskFault}
use Rattle.rb_retry.specs.declared.verdict.Verdict.{Verdict}
use Rattle.rb_retry.specs.declared.verdict.Verdict.TheVariants.{Again, Dead}

-- the desk's answer to a fetch that returned this: an element, if there was one
abbrev pub answer_with : Result (Option Element) DeskFault → Result Reply DeskFault
answer_with (Ok (Some element)) = Ok (Item element)
answer_with (Ok None) = Ok Nothing
answer_with (Err fault) = Err fault

-- the desk's answer to a fetch that returned this: an element
abbrev pub answer_with_one : Result Element DeskFault → Result Reply DeskFault
answer_with_one (Ok element) = Ok (Item element)
answer_with_one (Err fault) = Err fault

module _ {S : Type 0} (rules : DeskRules S) where
  -- A job of this element fails at this moment. Its next attempt is offered, at this very moment; or it has
  -- none, and no call is made. A refused offer gives the job back.
  abbrev pub FailsTo : Element → ℕ → S → Result Verdict (Element × CallFault) → S → Type 0
  FailsTo element now old (Ok (Again again)) new =
      (draft : Draft) × IsRetry rules.policy element now (Some draft)
      × rules.Steps old now (Offer draft) (offer_answer (Ok again)) new
  FailsTo element now old (Ok (Dead dead)) new =
      IsRetry rules.policy element now None × (dead ≡ element) × (new ≡ old)
  FailsTo element now old (Err (back, fault)) new =
      (draft : Draft) × IsRetry rules.policy element now (Some draft)
      × rules.Steps old now (Offer draft) (offer_answer (Err fault)) new × (back ≡ element)
