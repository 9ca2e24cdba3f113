-- Verdicts on histories, and on their texts.
use Rattle.std.proofs.Common.{◌≡◌, ℕ, List, Option, Result, IfOk, subst}
use Rattle.rb_queue.specs.declared.event.Event.{Event}
use Rattle.rb_queue.specs.declared.opening.Opening.{Opening}
use Rattle.rb_retry.specs.declared.policy.Policy.{Policy}
use Rattle.rb_history.specs.Ranges.{IsRightOpening, AreRightEvents}
use Rattle.rb_history.specs.Readings.{IsTextOf}
use Rattle.rb_runs.specs.TextVerdict.{IsVerdictOf, IsVerdictOn}
use Rattle.rb_ending.specs.declared.broker_fault.BrokerFault.{BrokerFault}
use Rattle.rb_runs.specs.declared.text_verdict.TextVerdict.{TextVerdict}
use Rattle.rb_runs.specs.declared.text_verdict.TextVerdict.TheVariants.{Unreadable, Refused, Unchained, Accepted}

-- the verdict on a history is one on its text
pub verdict_of_text : (checked : Option Policy) {opening : Opening} {events : List Event} {text : List ℕ} → IsRightOpening opening
    → AreRightEvents events → IsTextOf opening events text → (verdict : TextVerdict) → IsVerdictOn checked opening events verdict → IsVerdictOf checked text verdict
verdict_of_text checked right rights is (Unreadable line reason) on = absurd on
verdict_of_text checked {opening = opening} {events = events} right rights is (Refused index reason) on = (opening, events, right, rights, is, on)
verdict_of_text checked {opening = opening} {events = events} right rights is (Unchained index reason) on = (opening, events, right, rights, is, on)
verdict_of_text checked {opening = opening} {events = events} right rights is (Accepted audit) on = (opening, events, right, rights, is, on)

-- a verdict on a history is one on the same history
pub verdict_same : (checked : Option Policy) {one other : Opening} {events others : List Event} (result : Result TextVerdict BrokerFault)
    → (one ≡ other) × (events ≡ others) → IfOk result (IsVerdictOn checked one events) → IfOk result (IsVerdictOn checked other others)
verdict_same checked {one = one} {others = others} result (same, alike) on =
    subst (λ opening. IfOk result (IsVerdictOn checked opening others)) same
    (subst (λ events. IfOk result (IsVerdictOn checked one events)) alike on)
