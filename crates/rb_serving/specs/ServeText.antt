-- What a server prints, and what it leaves at its end.
use Rattle.std.specs.Prelude.{◌≡◌, ℕ, List, ◌++◌, Option, Result, Ok, Err, codes, decimal}
use Rattle.std.specs.Io.KnownBytes.{Appends, Keeps}
use Rattle.rb_history.specs.declared.history_fault.HistoryFault.{HistoryFault}
use Rattle.rb_ending.specs.AuditText.{audit_text}
use Rattle.rb_ending.specs.BrokerFault.{fault_of_history}
use Rattle.rb_ending.specs.WriteReasons.{FailsBetween}
use Rattle.rb_ending.specs.declared.broker_fault.BrokerFault.{BrokerFault}
use Rattle.rb_ending.specs.declared.broker_fault.BrokerFault.TheVariants.{Memory, Write}
use Rattle.rb_serving.specs.declared.serve_report.ServeReport.{ServeReport}

-- the line that says where clients are served
abbrev pub listening_text : ℕ → List ℕ
listening_text port = codes "listening 127.0.0.1:" ++ (decimal port ++ codes "\n")

-- the line that counts the visits
abbrev pub visits_text : ℕ → ℕ → ℕ → List ℕ
visits_text sessions faults lost =
    codes "sessions " ++ (decimal sessions ++ (codes " faults " ++ (decimal faults
    ++ (codes " lost " ++ (decimal lost ++ codes "\n")))))

-- the line that counts the visits, and then the audit line
abbrev pub report_text : {T : Type 0} → ServeReport T → List ℕ
report_text report = visits_text report.sessions report.faults report.lost ++ audit_text report.audit

-- The text was printed; or nothing, if memory was refused; or a first part of it, if the output can't be written to.
abbrev pub Prints : {W : Type 0} → (W → Option (List ℕ)) → Result (Unit {0}) BrokerFault → W → List ℕ → W → Type 0
Prints contents (Ok done) old text new = Appends (contents old) (contents new) text
Prints contents (Err Memory) old text new = Keeps (contents old) (contents new)
Prints contents (Err fault) old text new = (fault ≡ Write) × FailsBetween old new
    × ((sent : List ℕ) × (unsent : List ℕ) × (text ≡ sent ++ unsent) × Appends (contents old) (contents new) sent)

-- the fault of the history is answered, if there is one, and otherwise that of printing
abbrev pub first_fault : Result (Unit {0}) HistoryFault → Result (Unit {0}) BrokerFault → Result (Unit {0}) BrokerFault
first_fault (Ok done) printed = printed
first_fault (Err fault) printed = Err (fault_of_history fault)
