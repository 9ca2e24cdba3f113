-- By what rules jobs are fetched and fail at a desk.
use Rattle.std.specs.Prelude.{◌≡◌, ℕ, Option, Result}
use Rattle.rb_queue.specs.declared.ask.Ask.{Ask}
use Rattle.rb_queue.specs.declared.reply.Reply.{Reply}
use Rattle.rb_retry.specs.KeptSteps.{KeptState, KeptSteps, NeverMisses, SetsKept}
use Rattle.rb_retry.specs.declared.desk.Desk as Desk
use Rattle.rb_retry.specs.declared.desk_fault.DeskFault.{DeskFault}
use Rattle.rb_retry.specs.declared.policy.Policy.{Policy}

-- The rules of a desk: which numbers are readings of its clock, what setting the clock does, what a call does, what one
-- does that is answered by one try, what a try does that finds nothing, and when a job that failed is offered again.
pub record DeskRules (S : Type 0) : Type 1 where
  pub gives : S → ℕ → Type 0
  pub Sets : S → ℕ → Option ℕ → S → Type 0
  pub Steps : S → ℕ → Ask → Result Reply DeskFault → S → Type 0
  pub Tries : S → ℕ → Ask → Result Reply DeskFault → S → Type 0
  pub Misses : S → S → Type 0
  pub policy : Policy

-- those of any desk, under this policy
abbrev pub desk_rules : {D V : Type 0} → (words : Desk.Ghosts D V) → Policy → DeskRules words.State
desk_rules words policy = record {
  gives = words.gives;
  Sets = words.Sets;
  Steps = words.Steps;
  Tries = words.Tries;
  Misses = words.Misses;
  policy = policy;
}

-- those of a desk over a kept queue
abbrev pub kept_rules : Policy → DeskRules KeptState
kept_rules policy = record {
  gives = λ desk moment. moment ≡ desk.moment;
  Sets = SetsKept;
  Steps = KeptSteps;
  Tries = KeptSteps;
  Misses = NeverMisses;
  policy = policy;
}
