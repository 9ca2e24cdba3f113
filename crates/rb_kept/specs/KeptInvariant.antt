-- What a kept queue keeps true. No public clause cites this module.
use Rattle.std.specs.Prelude.{◌≡◌, ℕ, ◌≤◌, length}
use Rattle.rb_ledger.specs.declared.totals.Totals.{Totals}
use Rattle.rb_queue.specs.Queue.{Queue}
use Rattle.rb_queue.specs.History.{IsLegal}
use Rattle.rb_queue.specs.Counts.{sums_of}
use Rattle.rb_queue.specs.declared.sums.Sums.{Sums}
use Rattle.rb_kept.specs.Log.{Log, state_at}
use Rattle.rb_kept.specs.Shares.{totals_of}
use Rattle.rb_kept.specs.declared.kept.TheConstants.{MOST_CALLS}

-- the history is legal, leads to this queue, fits its room, and is counted
pub record IsKept (queue : Queue) (log : Log) (space : ℕ) (books : Totals) (sums : Sums) : Type 0 where
  pub legal : IsLegal log.opening log.history
  pub leads : (state_at log).queue ≡ queue
  pub few : length log.history ≤ log.capacity
  pub room : log.capacity ≤ space
  pub most : log.capacity ≤ MOST_CALLS
  pub booked : books ≡ totals_of log.history
  pub summed : sums ≡ sums_of log.opening log.history
