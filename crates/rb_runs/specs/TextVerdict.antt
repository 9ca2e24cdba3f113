-- The verdict on the text of a history, and how it is told.
use Rattle.std.specs.Prelude.{◌≡◌, ℕ, List, ◌++◌, Option, IfSome, IsSomeAnd, Result, Ok, Err, codes, decimal}
use Rattle.std.specs.Io.KnownBytes.{Appends, Keeps}
use Rattle.rb_queue.specs.History.{IsLegal}
use Rattle.rb_queue.specs.declared.event.Event.{Event}
use Rattle.rb_queue.specs.declared.opening.Opening.{Opening}
use Rattle.rb_retry.specs.declared.policy.Policy.{Policy}
use Rattle.rb_replay.specs.Checking.{Checks}
use Rattle.rb_replay.specs.Chaining.{Chains}
use Rattle.rb_history.specs.Ranges.{IsRightOpening, AreRightEvents}
use Rattle.rb_history.specs.Readings.{IsTextOf}
use Rattle.rb_history.specs.TextReasonText.{text_reason_text}
use Rattle.rb_replay.specs.ReasonText.{reason_text}
use Rattle.rb_replay.specs.ChainReasonText.{chain_reason_text}
use Rattle.rb_history.specs.TextFaults.{HasFault}
use Rattle.rb_replay.specs.declared.chain_fault.ChainFault.{ChainFault}
use Rattle.rb_replay.specs.declared.chain_fault.ChainFault.TheVariants as chain
use Rattle.rb_replay.specs.declared.chain_reason.ChainReason.{ChainReason}
use Rattle.rb_replay.specs.declared.replay_fault.ReplayFault.TheVariants as check
use Rattle.rb_ending.specs.AuditText.{audit_text}
use Rattle.rb_ending.specs.WriteReasons.{FailsBetween}
use Rattle.rb_ending.specs.declared.broker_fault.BrokerFault.{BrokerFault}
use Rattle.rb_ending.specs.declared.broker_fault.BrokerFault.TheVariants.{Memory, Write}
use Rattle.rb_runs.specs.declared.text_verdict.TextVerdict.{TextVerdict}
use Rattle.rb_runs.specs.declared.text_verdict.TextVerdict.TheVariants.{Unreadable, Refused, Unchained, Accepted}

-- the answers of the check of retries: all are right, or this offer is the first that is not
abbrev pub no_fault : Result (Unit {0}) ChainFault
no_fault = Ok tt

abbrev pub broken_at : ℕ → ChainReason → Result (Unit {0}) ChainFault
broken_at index reason = Err (chain.At index reason)

-- the retries are right by the policy, if there is one
abbrev pub AreRetries : Option Policy → Opening → List Event → Type 0
AreRetries checked opening events = IfSome checked (λ policy. Chains policy opening events no_fault)

-- there is a policy, by which this offer is the first that is not a right attempt
abbrev pub BreaksChain : Option Policy → Opening → List Event → ℕ → ChainReason → Type 0
BreaksChain checked opening events index reason =
    IsSomeAnd checked (λ policy. Chains policy opening events (broken_at index reason))

-- A history is refused for its first event that is not allowed. A legal one is unchained for its first
-- offer that is not a right attempt, if that is checked, and otherwise accepted with its audit.
abbrev pub IsVerdictOn : Option Policy → Opening → List Event → TextVerdict → Type 0
IsVerdictOn checked opening events (Unreadable line reason) = ⊥
IsVerdictOn checked opening events (Refused index reason) = Checks opening events (Err (check.At index reason))
IsVerdictOn checked opening events (Unchained index reason) =
    IsLegal opening events × BreaksChain checked opening events index reason
IsVerdictOn checked opening events (Accepted audit) =
    Checks opening events (Ok audit) × AreRetries checked opening events

-- a text is unreadable for its first fault, and otherwise is a history's whose values are in range, with the verdict on that
abbrev pub IsVerdictOf : Option Policy → List ℕ → TextVerdict → Type 0
IsVerdictOf checked text (Unreadable line reason) = HasFault text line reason
IsVerdictOf checked text verdict =
    (opening : Opening) × (events : List Event) × IsRightOpening opening × AreRightEvents events
    × IsTextOf opening events text × IsVerdictOn checked opening events verdict

-- a word, where the fault is, and why
abbrev pub fault_text : List ℕ → ℕ → List ℕ → List ℕ
fault_text word place reason = word ++ (codes " " ++ (decimal place ++ (codes " " ++ (reason ++ codes "\n"))))

-- the line that tells a verdict
abbrev pub verdict_text : TextVerdict → List ℕ
verdict_text (Unreadable line reason) = fault_text (codes "unreadable") line (text_reason_text reason)
verdict_text (Refused index reason) = fault_text (codes "refused") index (reason_text reason)
verdict_text (Unchained index reason) = fault_text (codes "unchained") index (chain_reason_text reason)
verdict_text (Accepted audit) = audit_text audit

-- 0 if the history is accepted, 1 if it is not
abbrev pub status_of_verdict : TextVerdict → ℕ
status_of_verdict (Accepted audit) = 0
status_of_verdict _ = 1

-- the verdict has this line, and this exit status
pub record Tells (verdict : TextVerdict) (line : List ℕ) (status : ℕ) : Type 0 where
  pub line_is : line ≡ verdict_text verdict
  pub status_is : status ≡ status_of_verdict verdict

-- The line of the verdict was printed, with this status; or nothing, if memory was refused; or a first part of it, if the
-- output can't be written to.
abbrev pub PrintsVerdict : {W : Type 0} → (W → Option (List ℕ)) → (TextVerdict → Type 0) → Result ℕ BrokerFault → W → W
    → Type 0
PrintsVerdict contents Holds (Ok status) old new = (verdict : TextVerdict) × Holds verdict
    × ((line : List ℕ) × Tells verdict line status × Appends (contents old) (contents new) line)
PrintsVerdict contents Holds (Err Memory) old new = Keeps (contents old) (contents new)
PrintsVerdict contents Holds (Err fault) old new = (fault ≡ Write) × FailsBetween old new
    × ((verdict : TextVerdict) × Holds verdict × ((line : List ℕ) × (status : ℕ) × Tells verdict line status
    × ((sent : List ℕ) × (unsent : List ℕ) × (line ≡ sent ++ unsent) × Appends (contents old) (contents new) sent)))
