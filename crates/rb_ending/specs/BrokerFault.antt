-- The exit status of a fault, and the faults of the crates that a run uses.
use Rattle.std.specs.Prelude.{ℕ}
use Rattle.rb_ending.specs.declared.broker_fault.BrokerFault.{BrokerFault}
use Rattle.rb_ending.specs.declared.broker_fault.BrokerFault.TheVariants as Broker
use Rattle.rb_history.specs.declared.history_fault.HistoryFault.{HistoryFault}
use Rattle.rb_history.specs.declared.history_fault.HistoryFault.TheVariants as History
use Rattle.rb_session.specs.declared.session_fault.SessionFault.{SessionFault}
use Rattle.rb_session.specs.declared.session_fault.SessionFault.TheVariants as Session

-- 1 for a bad opening, 3 for input, output, files, listening and workers, 4 for refused memory
abbrev pub status_of : BrokerFault → ℕ
status_of Broker.BadOpening = 1
status_of Broker.Read = 3
status_of Broker.Write = 3
status_of Broker.ReadTurns = 3
status_of Broker.Listen = 3
status_of Broker.Worker = 3
status_of Broker.NotGathered = 3
status_of Broker.ReadHistory = 3
status_of Broker.WriteHistory = 3
status_of Broker.Memory = 4

-- each fault of a session is the program's fault of the same name
abbrev pub fault_of_session : SessionFault → BrokerFault
fault_of_session Session.Memory = Broker.Memory
fault_of_session (Session.Read lost) = Broker.Read
fault_of_session (Session.Write lost) = Broker.Write
fault_of_session (Session.ReadTurns lost) = Broker.ReadTurns

-- the fault of a history that was not written
abbrev pub fault_of_history : HistoryFault → BrokerFault
fault_of_history History.Memory = Broker.Memory
fault_of_history History.Write = Broker.WriteHistory
