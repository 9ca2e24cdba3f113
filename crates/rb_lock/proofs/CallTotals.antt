-- What calls come to, one list behind the other.
use Rattle.std.proofs.Common.{◌≡◌, ◌+◌, List, [], ◌∷◌, ◌++◌, length, ap, sym, ◌∙◌, arith, append_assoc, length-append}
use Rattle.std.proofs.lemmas.List.{append-nil}
use Rattle.std.proofs.lemmas.List.Sums.{sum_by-append, sum_by-cons}
use Rattle.rb_ledger.specs.Totals.{total_of}
use Rattle.rb_ledger.specs.declared.totals.Totals.{Totals}
use Rattle.rb_queue.specs.Effect.{effect_of, inserted, given}
use Rattle.rb_queue.specs.Counts.{offer_count, give_count}
use Rattle.rb_queue.specs.declared.event.Event.{Event}
use Rattle.rb_kept.specs.Shares.{totals_of, amount_of, share_with}
use Rattle.rb_lock.specs.Passes.{capped}

-- totals are equal where each of the three is
pub same_totals : (one other : Totals) → one.calls ≡ other.calls → one.offered ≡ other.offered → one.given ≡ other.given → one ≡ other
same_totals one other calls offered given i = record { calls = calls i; offered = offered i; given = given i }

offers-append : (xs ys : List Event) → offer_count (xs ++ ys) ≡ offer_count xs + offer_count ys
offers-append xs ys = sum_by-append (λ (e : Event). length (inserted (effect_of e.act))) xs ys

gives-append : (xs ys : List Event) → give_count (xs ++ ys) ≡ give_count xs + give_count ys
gives-append xs ys = sum_by-append (λ (e : Event). length (given (effect_of e.act))) xs ys

-- the share of two lists of calls
pub capped-append : (xs ys : List Event) → total_of (capped (totals_of xs)) (capped (totals_of ys)) ≡ capped (totals_of (xs ++ ys))
capped-append xs ys =
    same_totals (total_of (capped (totals_of xs)) (capped (totals_of ys))) (capped (totals_of (xs ++ ys)))
    (omega (arith, length-append xs ys)) (omega (arith, offers-append xs ys)) (omega (arith, gives-append xs ys))

-- and of one call more
capped-event : (xs : List Event) (event : Event) → total_of (capped (totals_of xs)) (amount_of event) ≡ capped (totals_of (xs ++ event ∷ []))
capped-event xs event =
    same_totals (total_of (capped (totals_of xs)) (amount_of event)) (capped (totals_of (xs ++ event ∷ [])))
    (omega (arith, length-append xs (event ∷ [])))
    (omega (arith, offers-append xs (event ∷ []), sum_by-cons (λ (e : Event). length (inserted (effect_of e.act))) event []))
    (omega (arith, gives-append xs (event ∷ []), sum_by-cons (λ (e : Event). length (given (effect_of e.act))) event []))

-- and of more calls
pub share_with-capped : (xs more : List Event) → share_with (capped (totals_of xs)) more ≡ capped (totals_of (xs ++ more))
share_with-capped xs [] = ap (λ (es : List Event). capped (totals_of es)) (sym (append-nil xs))
share_with-capped xs (event ∷ more) =
    ap (λ (t : Totals). share_with t more) (capped-event xs event) ∙ share_with-capped (xs ++ event ∷ []) more
    ∙ ap (λ (es : List Event). capped (totals_of es)) (append_assoc xs (event ∷ []) more)

-- the order of two lists doesn't matter
pub capped-between : (xs more ys : List Event) → capped (totals_of ((xs ++ ys) ++ more)) ≡ capped (totals_of ((xs ++ more) ++ ys))
capped-between xs more ys =
    same_totals (capped (totals_of ((xs ++ ys) ++ more))) (capped (totals_of ((xs ++ more) ++ ys)))
    (omega (arith, length-append (xs ++ ys) more, length-append xs ys, length-append (xs ++ more) ys, length-append xs more))
    (omega (arith, offers-append (xs ++ ys) more, offers-append xs ys, offers-append (xs ++ more) ys, offers-append xs more))
    (omega (arith, gives-append (xs ++ ys) more, gives-append xs ys, gives-append (xs ++ more) ys, gives-append xs more))
