-- A pass closes the queue, or is refused: the lock is taken, and the totals are compared.
use Rattle.std.proofs.Common.{◌≡◌, ℕ, ◌≤◌, ◌<◌, [], ◌∷◌, length, refl, ap, sym, subst, ◌∙◌, arith, lt_of_not-le}
use mathlib.Core.Logic.{dite}
use native.Mathlib.Decide.{dec_le}
use Rattle.std.specs.Prelude.{Some}
use Rattle.atomic_table.specs.Seated.{TableId}
use Rattle.rb_ledger.specs.declared.totals.Totals.{Totals}
use Rattle.rb_queue.specs.Counts.{events_of}
use Rattle.rb_queue.specs.History.{IsLegal}
use Rattle.rb_kept.specs.Log.{Log}
use Rattle.rb_kept.specs.Shares.{totals_of}
use Rattle.rb_lock.specs.Parts.{all_parts}
use Rattle.rb_lock.specs.Records.{times_in, names_of, AreDifferent}
use Rattle.rb_lock.specs.Passes.{PassState, all_records, tally_of}
use Rattle.rb_lock.specs.ClosedQueues.{HasCallsOf, IsNotAll, AreCounts}
use Rattle.rb_lock.specs.Views.{idle, pass_of, holder_of, caught_up}
use Rattle.rb_lock.specs.Rule.{pair_of}
use Rattle.rb_lock.specs.LockSteps.{LockSeat, Noted, TakesLock, MayGive, in_hand}
use Rattle.rb_lock.specs.declared.pair.Pair.{Pair}
use Rattle.rb_lock.specs.declared.stage.Stage.TheVariants.{Idle}
use Rattle.rb_lock.proofs.Sums.{times_in-append}
use Rattle.rb_lock.proofs.LongerHistories.{grown_none}
use Rattle.rb_lock.proofs.CountedCalls.{all_counted, counts_all, not_counted}
use Rattle.rb_lock.proofs.RestingPasses.{learned, seen_as, found_pair, HasLooked, looked_counted}

-- the pass took the lock, took the pair out of its slot, and has its share of the totals beside those of the books
pub record HasTotals {T : Type 0} (pass : PassState) (seat0 seat1 : LockSeat T) (pair : Pair T) (share books : Totals) : Type 0 where
  pub rest : seat0 ≡ (idle pass, [])
  pub got : TakesLock seat0 seat1
  pub out : seat1.1 ≡ (0, Some pair) ∷ []
  pub legal : IsLegal pair.kept.opening pair.kept.history
  pub fits : length pair.kept.history ≤ pair.kept.capacity
  pub share_is : share ≡ tally_of pass
  pub books_are : books ≡ totals_of pair.kept.history
  pub counts : AreCounts books

module _ {T : Type 0} {pass : PassState} {seat0 seat1 : LockSeat T} {pair : Pair T} {share books : Totals} (has : HasTotals pass seat0 seat1 pair share books) where
  abbrev got : TakesLock seat0 seat1
  got = has.got

  home_is : pair ≡ pair_of got.log got.names
  home_is = found_pair pass seat0 seat1 has.rest got (Some pair) pair has.out refl

  kept_is : pair.kept ≡ got.log
  kept_is = ap (λ (h : Pair T). h.kept) home_is

  looked : HasLooked pass got.names pair.kept
  looked = record {
    found = subst (λ (l : Log). Noted l got.names (idle pass)) (sym kept_is) (subst (λ (m : LockSeat T). Noted got.log got.names m.0) has.rest got.found);
    legal = has.legal;
    few = has.fits;
  }

  -- no name stands twice among the pass and those folded into it
  different : AreDifferent (names_of (all_records pass))
  different name = omega (arith, looked.found.once name, times_in-append name (names_of pass.folded) [])

  counts : AreCounts (totals_of pair.kept.history)
  counts = subst AreCounts has.books_are has.counts

  pub has_all_calls : share ≡ books → HasCallsOf pair.kept (all_records pass)
  has_all_calls same = record {
    legal = has.legal;
    are_records = looked.found.fits.records;
    different = different;
    all = all_counted pair.kept.history (all_records pass) looked.found.fits.records different counts (sym has.share_is ∙ same ∙ has.books_are);
  }

  -- A pass with all parts has all names that are given, so all events are its calls.
  others_silent : pass.parts ≡ all_parts → (name : ℕ) → times_in name (names_of (all_records pass)) ≡ 0 → events_of pair.kept.history name ≡ []
  others_silent all name out =
      dite (dec_le got.names name) (λ above. looked.found.not_given name above)
      (λ below. absurd (omega (arith, looked.found.whole all name (lt_of_not-le below), times_in-append name (names_of (all_records pass)) [], out)))

  pub has_whole : pass.parts ≡ all_parts → share ≡ books
  has_whole all =
      has.share_is
      ∙ counts_all pair.kept.history (all_records pass) looked.found.fits.records different counts (others_silent all)
      ∙ sym has.books_are

  -- the pair is in its slot again
  module _ (seat2 : LockSeat T) (back : seat2 ≡ (seat1.0, (0, Some pair) ∷ [])) where
    seat2_is : seat2 ≡ (holder_of (idle pass) pair.kept.history got.names, (0, Some (pair_of pair.kept got.names)) ∷ [])
    seat2_is =
        let view : seat1.0 ≡ holder_of (idle pass) pair.kept.history got.names =
        got.view ∙ (λ i. holder_of (has.rest i).0 (sym kept_is i).history got.names) in
        back ∙ (λ i. (view i, (0, Some (record { kept = pair.kept; names = (home_is i).names })) ∷ []))

    pub back_may_give : MayGive seat2
    back_may_give = record {
      pass = pass;
      found = pair.kept;
      new = pair.kept;
      names = got.names;
      is = seat2_is;
      capacity = sym (looked.found.fits.capacity tt);
      opening = sym (looked.found.fits.opening tt);
      grown = grown_none pass.name pair.kept.history;
      few = got.found.few;
    }

    -- the lock is given back
    module _ (table : TableId) (seat3 : LockSeat T) (of_pass : table ≡ pass.table) (gave : seat3 ≡ (caught_up seat2.0 (in_hand seat2.1) Idle, [])) where
      seat3_is : seat3 ≡ (idle (learned pass got.names pair.kept.history), [])
      seat3_is = gave ∙ ap (λ (m : LockSeat T). (caught_up m.0 (in_hand m.1) Idle, [])) seat2_is

      view_is : pass_of table seat3.0 ≡ learned pass got.names pair.kept.history
      view_is = seen_as table seat3 (learned pass got.names pair.kept.history) of_pass seat3_is

      pub refused : ¬ (share ≡ books) → IsNotAll (pass_of table seat3.0) share books
      refused other =
          subst (λ (p : PassState). IsNotAll p share books) (sym view_is)
          (record {
            share = looked_counted pass got.names pair.kept looked share has.share_is;
            books = has.books_are;
            fewer = subst (λ (t : Totals × Totals). t.0.calls < t.1.calls) (λ i. (sym has.share_is i, sym has.books_are i))
                (not_counted pair.kept.history (all_records pass) looked.found.fits.records different counts (λ same. other (has.share_is ∙ same ∙ sym has.books_are)));
          })
