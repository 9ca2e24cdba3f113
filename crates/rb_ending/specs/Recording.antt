-- What becomes of the history of a run.
use Rattle.std.specs.Prelude.{◌≡◌, ◌≤◌, ℕ, List, length, Option, None, Some, OnOk, OnErr, ◌⊎◌, Result, Ok}
use Rattle.std.proofs.Common.{inl, inr}
use Rattle.std.specs.Borrow.{MutBor}
use Rattle.rb_queue.specs.History.{IsLegal}
use Rattle.rb_kept.specs.Log.{Log}
use Rattle.rb_kept.specs.declared.kept.TheConstants.{MOST_CALLS}
use Rattle.rb_history.specs.HistoryText.{history_text}
use Rattle.rb_history.specs.Ranges.{IsRightOpening, AreRightEvents}
use Rattle.rb_history.specs.Written.{Writes}
use Rattle.rb_history.specs.declared.history_fault.HistoryFault.{HistoryFault}
use Rattle.rb_ending.specs.WriteReasons.{FailsBetween}

-- the log's history is one whose text is read again: legal, not too long, and with all values in their ranges
pub record IsReadable (log : Log) : Type 0 where
  pub opening : IsRightOpening log.opening
  pub events : AreRightEvents log.history
  pub legal : IsLegal log.opening log.history
  pub few : length log.history ≤ MOST_CALLS

-- The device has got the text of the log's history, or a first part of it, or nothing, as the result of writing
-- says. It had got `got` before, and has got `got'` after.
pub record RecordsLog (log : Log) (wrote : Result (Unit {0}) HistoryFault) (got got' : Option (List ℕ)) : Type 0 where
  pub writes : Writes wrote got (history_text log.opening log.history) got'
  pub readable : OnOk wrote (IsReadable log)

-- The history was written to a device, and a fault says that it can't be written to.
pub record RecordsTo {H : Type 0} (contents : H → Option (List ℕ)) (log : Log) (wrote : Result (Unit {0}) HistoryFault)
    (old new : H) : Type 0 where
  pub records : RecordsLog log wrote (contents old) (contents new)
  pub reason : OnErr wrote (FailsBetween old new)

-- a device that was lent, if there was one
abbrev pub lent : {H : Type 0} → Option (MutBor H) → Option H
lent None = None
lent (Some device) = Some device.now

-- and as it is given back: a sum in the order of the option's variants, which is how a function leaves it
abbrev pub given_back : {H : Type 0} → Unit {0} ⊎ ((MutBor H × Unit {0}) ⊎ ⊥) → Option H
given_back (inl nothing) = None
given_back (inr (inl device)) = Some device.0.now
given_back (inr (inr never)) = None

-- the history was written to the device, if there was one; otherwise nothing was to be done
abbrev pub RecordsRun : {H : Type 0} → (H → Option (List ℕ)) → Log → Result (Unit {0}) HistoryFault → Option H
    → Option H → Type 0
RecordsRun contents log wrote None None = wrote ≡ Ok tt
RecordsRun contents log wrote (Some old) (Some new) = RecordsTo contents log wrote old new
RecordsRun contents log wrote _ _ = ⊥
