-- What the check of a history answers.
use Rattle.std.specs.Prelude.{◌≡◌, List, Result, Ok, Err}
use Rattle.rb_queue.specs.History.{IsLegal}
use Rattle.rb_queue.specs.Counts.{audit_of}
use Rattle.rb_queue.specs.declared.audit.Audit.{Audit}
use Rattle.rb_queue.specs.declared.event.Event.{Event}
use Rattle.rb_queue.specs.declared.opening.Opening.{Opening}
use Rattle.rb_replay.specs.Refusal.{Refuses}
use Rattle.rb_replay.specs.declared.replay_fault.ReplayFault.{ReplayFault}
use Rattle.rb_replay.specs.declared.replay_fault.ReplayFault.TheVariants.{At, Memory}

-- the audit of a legal history, or the first event that is not allowed, with the first reason
abbrev pub Checks : Opening → List Event → Result Audit ReplayFault → Type 0
Checks opening events (Ok audit) = IsLegal opening events × (audit ≡ audit_of opening events)
Checks opening events (Err (At index reason)) = Refuses opening events index reason
Checks opening events (Err Memory) = Unit {0}
