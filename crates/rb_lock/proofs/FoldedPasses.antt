-- A pass with another folded into it.
use Rattle.std.proofs.Common.{◌≡◌, ℕ, List, [], ◌∷◌, ◌++◌, refl, ap, sym, subst, ◌∙◌, append_assoc}
use Rattle.atomic_table.specs.Seated.{TableId}
use Rattle.atomic_table.specs.Table.{Joins}
use Rattle.rb_ledger.specs.Totals.{total_of}
use Rattle.rb_ledger.specs.declared.totals.Totals.{Totals}
use Rattle.rb_queue.specs.declared.event.Event.{Event}
use Rattle.rb_kept.specs.Shares.{totals_of}
use Rattle.rb_lock.specs.Records.{calls_of}
use Rattle.rb_lock.specs.Passes.{PassState, all_records, capped, tally_of, folded_with}
use Rattle.rb_lock.specs.Views.{idle, pass_of, folding, nobody}
use Rattle.rb_lock.specs.Rule.{Locked}
use Rattle.rb_lock.specs.LockSteps.{LockSeat, AtRest, IsPass}
use Rattle.rb_lock.specs.declared.pass_record.PassRecord.{PassRecord}
use Rattle.rb_lock.proofs.CallTotals.{capped-append}
use Rattle.rb_lock.proofs.Sharings.{folds}
use Rattle.rb_lock.proofs.RestingPasses.{is_pass}

calls_of-append : (xs ys : List PassRecord) → calls_of (xs ++ ys) ≡ calls_of xs ++ calls_of ys
calls_of-append [] ys = refl
calls_of-append (x ∷ xs) ys = ap (λ (es : List Event). x.mine ++ es) (calls_of-append xs ys) ∙ sym (append_assoc x.mine (calls_of xs) (calls_of ys))

-- the shares are added
tally-folded : (one two : PassState) → total_of (tally_of one) (tally_of two) ≡ tally_of (folded_with one two)
tally-folded one two =
    capped-append (calls_of (all_records one)) (calls_of (all_records two))
    ∙ ap (λ (es : List Event). capped (totals_of es))
    (append_assoc one.mine (calls_of one.folded) (calls_of (all_records two)) ∙ ap (λ (es : List Event). one.mine ++ es) (sym (calls_of-append one.folded (all_records two))))

module _ {T : Type 0} (table table' : TableId) (seat seat' : LockSeat T) (rest : AtRest table seat) (rest' : AtRest table' seat') where
  one : PassState
  one = pass_of table seat.0

  pub may_fold : (id other : ℕ) → Joins (Locked {T = T}) id seat.0 other seat'.0 (folding seat.0 seat'.0) nobody
  may_fold id other =
      subst (λ (m : LockSeat T). Joins (Locked {T = T}) id m.0 other seat'.0 (folding m.0 seat'.0) nobody) (sym rest)
      (subst (λ (m : LockSeat T). Joins (Locked {T = T}) id (idle (pass_of table seat.0)) other m.0 (folding (idle (pass_of table seat.0)) m.0) nobody) (sym rest')
      (folds id other (pass_of table seat.0) (pass_of table' seat'.0)))

  pub folded_pass : (now : TableId) (seat2 : LockSeat T) → now ≡ table → seat2 ≡ (folding seat.0 seat'.0, seat.1) → (name name' : ℕ) (tally tally' tally2 : Totals)
      → IsPass table seat name tally → IsPass table' seat' name' tally' → tally2 ≡ total_of tally tally' → IsPass now seat2 name tally2
  folded_pass now seat2 same is name name' tally tally' tally2 first second sum =
      let both : PassState = folded_with (pass_of table seat.0) (pass_of table' seat'.0) in
      let here : seat2 ≡ (idle both, []) = is ∙ (λ i. (folding (rest i).0 (rest' i).0, (rest i).1)) in
      is_pass now seat2 both same here name tally2 first.name_is
      (sum ∙ (λ i. total_of (first.counted i) (second.counted i)) ∙ tally-folded (pass_of table seat.0) (pass_of table' seat'.0))
      (record { legal = first.sound.legal; few = first.sound.few; most = first.sound.most; own = first.sound.own })
