-- When a queue may be closed, and what a refused closing says.
use Rattle.std.specs.Prelude.{◌≡◌, ◌<◌, ◌≤◌, List, length}
use Rattle.rb_ledger.specs.declared.totals.Totals.{Totals}
use Rattle.rb_ledger.specs.declared.totals.TheConstants.{GREATEST_COUNT}
use Rattle.rb_queue.specs.History.{IsLegal}
use Rattle.rb_kept.specs.Log.{Log}
use Rattle.rb_kept.specs.Shares.{totals_of}
use Rattle.rb_lock.specs.Records.{AreRecords, AreDifferent, names_of, calls_of}
use Rattle.rb_lock.specs.Passes.{PassState, tally_of}
use Rattle.rb_lock.specs.declared.pass_record.PassRecord.{PassRecord}
use Rattle.rb_lock.specs.declared.fault.CloseFault.{CloseFault}
use Rattle.rb_lock.specs.declared.fault.CloseFault.TheVariants.{NotAll}

-- The history is legal and has each record's calls under its name, no name occurs twice, and there is no
-- other call: the history is as long as all these calls together.
pub record HasCallsOf (log : Log) (records : List PassRecord) : Type 0 where
  pub legal : IsLegal log.opening log.history
  pub are_records : AreRecords log.history records
  pub different : AreDifferent (names_of records)
  pub all : length log.history ≡ length (calls_of records)

-- `counted` is the pass's share. `booked` are the totals of the history that the pass has now seen, which has
-- more calls.
pub record IsNotAll (pass : PassState) (counted booked : Totals) : Type 0 where
  pub share : counted ≡ tally_of pass
  pub books : booked ≡ totals_of pass.seen
  pub fewer : counted.calls < booked.calls

-- why the pass did not close the queue
abbrev pub IsRefused : PassState → CloseFault → Type 0
IsRefused pass (NotAll counted booked) = IsNotAll pass counted booked

-- totals that a count has room for
pub record AreCounts (totals : Totals) : Type 0 where
  pub calls : totals.calls ≤ GREATEST_COUNT
  pub offered : totals.offered ≤ GREATEST_COUNT
  pub given : totals.given ≤ GREATEST_COUNT
