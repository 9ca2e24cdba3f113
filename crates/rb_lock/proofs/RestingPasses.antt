-- Seats of passes that are in no step, and what a pass has seen once it took the lock.
use Rattle.std.proofs.Common.{◌≡◌, ℕ, ◌+◌, ◌≤◌, List, [], ◌∷◌, length, ap, sym, subst, ◌∙◌}
use Rattle.std.specs.Prelude.{Option, Some}
use Rattle.atomic_table.specs.Seated.{TableId}
use Rattle.rb_ledger.specs.declared.totals.Totals.{Totals}
use Rattle.rb_queue.specs.Counts.{events_of}
use Rattle.rb_queue.specs.History.{IsLegal}
use Rattle.rb_queue.specs.declared.event.Event.{Event}
use Rattle.rb_kept.specs.Log.{Log}
use Rattle.rb_lock.specs.Passes.{PassState, IsSoundPass, tally_of}
use Rattle.rb_lock.specs.Views.{idle, pass_of}
use Rattle.rb_lock.specs.Rule.{pair_of}
use Rattle.rb_lock.specs.LockSteps.{LockSeat, AtRest, IsPass, Noted, TakesLock}
use Rattle.rb_lock.specs.declared.pair.Pair.{Pair}
use Rattle.rb_lock.proofs.HeldPairs.{same_slot, same_pair}

-- the pass, once it has seen this history
abbrev pub learned : PassState → ℕ → List Event → PassState
learned pass names history = record pass { noted = names; tried = pass.tried + 1; seen = history; mine = events_of history pass.name }

module _ {T : Type 0} (table : TableId) (seat : LockSeat T) (pass : PassState) (of_pass : table ≡ pass.table) (is : seat ≡ (idle pass, [])) where
  -- what the seat is seen as
  pub seen_as : pass_of table seat.0 ≡ pass
  seen_as i = pass_of (of_pass i) (is i).0

  pub at_rest : AtRest table seat
  at_rest = is ∙ sym (ap (λ (m : LockSeat T). (idle (pass_of table m.0), [])) is)

  pub is_pass : (name : ℕ) (tally : Totals) → name ≡ pass.name → tally ≡ tally_of pass → IsSoundPass pass → IsPass table seat name tally
  is_pass name tally named counted sound = record {
    rest = at_rest;
    name_is = named ∙ sym (ap (λ (m : LockSeat T). m.0.name) is);
    counted = counted ∙ sym (ap tally_of seen_as);
    sound = subst IsSoundPass (sym seen_as) sound;
  }

module _ {T : Type 0} (pass : PassState) (seat0 seat1 : LockSeat T) (rest : seat0 ≡ (idle pass, [])) (got : TakesLock seat0 seat1) where
  -- the pass that took the lock has the pair that it found in hand
  pub found_in_hand : (pair : Pair T) × (seat1.1 ≡ (0, Some pair) ∷ [])
  found_in_hand =
      let pair : Pair T = pair_of got.log got.names in
      (pair, got.hand ∙ ap (λ (m : LockSeat T). (0, Some pair) ∷ m.1) rest)

  -- the pair that lies in the slot in hand is the one that was found
  pub found_pair : (slot : Option (Pair T)) (before : Pair T) → seat1.1 ≡ (0, slot) ∷ [] → slot ≡ Some before → before ≡ pair_of got.log got.names
  unfolding found_in_hand
  found_pair slot before was is =
      let pair : Pair T = pair_of got.log got.names in
      same_pair before pair (sym is ∙ same_slot seat1.1 [] (Some pair) slot found_in_hand.1 was)

-- a pass took the lock, and found a legal history with room
pub record HasLooked (pass : PassState) (names : ℕ) (log : Log) : Type 0 where
  pub found : Noted log names (idle pass)
  pub legal : IsLegal log.opening log.history
  pub few : length log.history ≤ log.capacity

module _ (pass : PassState) (names : ℕ) (log : Log) (looked : HasLooked pass names log) where
  -- its own calls are those that it had
  pub same_mine : events_of log.history pass.name ≡ pass.mine
  same_mine = looked.found.fits.records.0.all

  -- its share is that of its calls still
  pub looked_counted : (tally : Totals) → tally ≡ tally_of pass → tally ≡ tally_of (learned pass names log.history)
  looked_counted tally counted = counted ∙ ap (λ (mine : List Event). tally_of (record pass { mine = mine })) (sym same_mine)
