-- What the calls of some seats come to, beside all calls of a history.
use Rattle.std.proofs.Common.{◌≡◌, ◌≢◌, ℕ, zero, suc, ◌+◌, ◌<◌, ◌≤◌, ◌==◌, Bool, cond, List, [], ◌∷◌, ◌++◌, length, refl, ap, sym, ◌∙◌, arith, eq-eqb, ne_eqb}
use Rattle.std.specs.Prelude.{min, sum_by}
use Rattle.std.proofs.lemmas.List.Sums.{sum_by-cons}
use mathlib.Core.Logic.{dite}
use native.Mathlib.Decide.{ℕ_discrete}
use Rattle.rb_queue.specs.Effect.{effect_of, inserted, given}
use Rattle.rb_queue.specs.Counts.{events_of}
use Rattle.rb_queue.specs.declared.event.Event.{Event}
use Rattle.rb_kept.specs.Shares.{totals_of}
use Rattle.rb_ledger.specs.declared.totals.Totals.{Totals}
use Rattle.rb_ledger.specs.declared.totals.TheConstants.{GREATEST_COUNT}
use Rattle.rb_lock.specs.Records.{bit, times_in, names_of, calls_of, AreDifferent, AreRecords}
use Rattle.rb_lock.specs.Passes.{capped}
use Rattle.rb_lock.specs.ClosedQueues.{AreCounts}
use Rattle.rb_lock.specs.declared.pass_record.PassRecord.{PassRecord}
use Rattle.rb_lock.proofs.CallTotals.{same_totals}

-- the weight of an event whose seat stands so often among some, where it is not among them
abbrev left_if : ℕ → ℕ → ℕ
left_if zero weight = weight
left_if (suc often) weight = 0

module _ (f : Event → ℕ) where
  -- what events weigh
  abbrev weigh : List Event → ℕ
  weigh [] = 0
  weigh (event ∷ events) = f event + weigh events

  weigh-append : (xs ys : List Event) → weigh (xs ++ ys) ≡ weigh xs + weigh ys
  weigh-append [] ys = omega arith
  weigh-append (x ∷ xs) ys = omega (arith, weigh-append xs ys)

  -- what the events of these seats weigh
  abbrev over : List Event → List ℕ → ℕ
  over history [] = 0
  over history (name ∷ names) = weigh (events_of history name) + over history names

  over_none : (names : List ℕ) → over [] names ≡ 0
  over_none [] = refl
  over_none (name ∷ names) = omega (arith, over_none names)

  -- an event of another seat, and one of this seat
  other_seat : (event : Event) (history : List Event) (name : ℕ) → name ≢ event.seat → weigh (events_of (event ∷ history) name) ≡ weigh (events_of history name)
  other_seat event history name apart =
      ap (λ (b : Bool). weigh (cond b (event ∷ events_of history name) (events_of history name))) (ne_eqb event.seat name (λ e. apart (sym e)))

  same_seat : (event : Event) (history : List Event) (name : ℕ) → name ≡ event.seat → weigh (events_of (event ∷ history) name) ≡ f event + weigh (events_of history name)
  same_seat event history name is =
      ap (λ (b : Bool). weigh (cond b (event ∷ events_of history name) (events_of history name))) (eq-eqb event.seat name (sym is))

  -- an event of none of the seats changes nothing
  over_apart : (event : Event) (history : List Event) (names : List ℕ) → times_in event.seat names ≡ 0 → over (event ∷ history) names ≡ over history names
  over_apart event history [] none = refl
  over_apart event history (name ∷ names) none =
      dite (ℕ_discrete name event.seat)
      (λ (is : name ≡ event.seat). let one : bit (name == event.seat) ≡ 1 = ap bit (eq-eqb name event.seat is) in absurd (omega arith))
      (λ (apart : name ≢ event.seat).
      let rest : times_in event.seat names ≡ 0 = omega (arith, ap bit (ne_eqb name event.seat apart), none) in
      omega (arith, other_seat event history name apart, over_apart event history names rest))

  -- and one of just one of them adds its weight
  over_among : (event : Event) (history : List Event) (names : List ℕ) → times_in event.seat names ≡ 1 → over (event ∷ history) names ≡ f event + over history names
  over_among event history [] one = absurd (omega arith)
  over_among event history (name ∷ names) one =
      dite (ℕ_discrete name event.seat)
      (λ (is : name ≡ event.seat).
      let rest : times_in event.seat names ≡ 0 = omega (arith, ap bit (eq-eqb name event.seat is), one) in
      omega (arith, same_seat event history name is, over_apart event history names rest))
      (λ (apart : name ≢ event.seat).
      let rest : times_in event.seat names ≡ 1 = omega (arith, ap bit (ne_eqb name event.seat apart), one) in
      omega (arith, other_seat event history name apart, over_among event history names rest))

  -- what the events of all other seats weigh
  abbrev left_out : List Event → List ℕ → ℕ
  left_out [] names = 0
  left_out (event ∷ history) names = left_if (times_in event.seat names) (f event) + left_out history names

  -- the shares and what is left out make the whole
  shares : (history : List Event) (names : List ℕ) → AreDifferent names → over history names + left_out history names ≡ weigh history
  shares [] names different = omega (arith, over_none names)
  shares (event ∷ history) names different = by_times (times_in event.seat names) refl (different event.seat) (shares history names different)
    where
      by_times : (often : ℕ) → times_in event.seat names ≡ often → often ≤ 1 → over history names + left_out history names ≡ weigh history
          → over (event ∷ history) names + (left_if (times_in event.seat names) (f event) + left_out history names) ≡ f event + weigh history
      by_times zero is few rest =
          let left : left_if (times_in event.seat names) (f event) ≡ f event = ap (λ (k : ℕ). left_if k (f event)) is in
          omega (arith, left, over_apart event history names is, rest)
      by_times (suc zero) is few rest =
          let left : left_if (times_in event.seat names) (f event) ≡ 0 = ap (λ (k : ℕ). left_if k (f event)) is in
          omega (arith, left, over_among event history names is, rest)
      by_times (suc (suc often)) is few rest = absurd (omega arith)

  -- records weigh what their seats do
  over_records : (history : List Event) (records : List PassRecord) → AreRecords history records → over history (names_of records) ≡ weigh (calls_of records)
  over_records history [] none = refl
  over_records history (one ∷ records) (first, rest) =
      let here : weigh (events_of history one.name) ≡ weigh one.mine = ap weigh first.all in
      omega (arith, here, over_records history records rest, weigh-append one.mine (calls_of records))

-- where no event is left out, nothing is
none_left : (f : Event → ℕ) (history : List Event) (names : List ℕ) → left_out (λ event. 1) history names ≡ 0 → left_out f history names ≡ 0
none_left f [] names none = refl
none_left f (event ∷ history) names none =
    by_times (times_in event.seat names) refl (none_left f history names (omega (arith, none)))
  where
    by_times : (often : ℕ) → times_in event.seat names ≡ often → left_out f history names ≡ 0 → left_if (times_in event.seat names) (f event) + left_out f history names ≡ 0
    by_times zero is rest =
        let one : left_if (times_in event.seat names) 1 ≡ 1 = ap (λ (k : ℕ). left_if k 1) is in absurd (omega (arith, one, none))
    by_times (suc often) is rest =
        let left : left_if (times_in event.seat names) (f event) ≡ 0 = ap (λ (k : ℕ). left_if k (f event)) is in omega (arith, left, rest)

-- a weight of 1 counts the events, and a sum is a weight
weigh_one : (events : List Event) → weigh (λ event. 1) events ≡ length events
weigh_one [] = refl
weigh_one (event ∷ events) = omega (arith, weigh_one events)

weigh_sum : (f : Event → ℕ) (events : List Event) → weigh f events ≡ sum_by f events
weigh_sum f [] = omega arith
weigh_sum f (event ∷ events) = omega (arith, weigh_sum f events, sum_by-cons f event events)

-- where each seat that is not among them has no event, no event is left out
none_outside : (history : List Event) (names : List ℕ) → ((name : ℕ) → times_in name names ≡ 0 → weigh (λ event. 1) (events_of history name) ≡ 0)
    → left_out (λ event. 1) history names ≡ 0
none_outside [] names none = refl
none_outside (event ∷ history) names none = by_times (times_in event.seat names) refl (none_outside history names rest)
  where
    rest : (name : ℕ) → times_in name names ≡ 0 → weigh (λ event. 1) (events_of history name) ≡ 0
    rest name out =
        dite (ℕ_discrete name event.seat)
        (λ (is : name ≡ event.seat). absurd (omega (arith, same_seat (λ event. 1) event history name is, none name out)))
        (λ (apart : name ≢ event.seat). omega (arith, other_seat (λ event. 1) event history name apart, none name out))

    by_times : (often : ℕ) → times_in event.seat names ≡ often → left_out (λ event. 1) history names ≡ 0
        → left_if (times_in event.seat names) 1 + left_out (λ event. 1) history names ≡ 0
    by_times zero is later = absurd (omega (arith, same_seat (λ event. 1) event history event.seat refl, none event.seat is))
    by_times (suc often) is later =
        let left : left_if (times_in event.seat names) 1 ≡ 0 = ap (λ (k : ℕ). left_if k 1) is in
        omega (arith, left, later)

-- how many elements an event offered, and gave out
abbrev offers_of : Event → ℕ
offers_of event = length (inserted (effect_of event.act))

abbrev gives_of : Event → ℕ
gives_of event = length (given (effect_of event.act))

module _ (history : List Event) (records : List PassRecord) (all : AreRecords history records) (different : AreDifferent (names_of records)) where
  split_weight : (f : Event → ℕ) → weigh f (calls_of records) + left_out f history (names_of records) ≡ weigh f history
  split_weight f = omega (arith, over_records f history records all, shares f history (names_of records) different)

  -- the records have no more calls than the history
  pub calls_few : length (calls_of records) ≤ length history
  calls_few = omega (arith, split_weight (λ event. 1), weigh_one (calls_of records), weigh_one history)

  -- and where they have as many, they come to the same
  pub same_weight : length (calls_of records) ≡ length history → (f : Event → ℕ) → sum_by f (calls_of records) ≡ sum_by f history
  same_weight long f =
      let none : left_out (λ event. 1) history (names_of records) ≡ 0 = omega (arith, split_weight (λ event. 1), weigh_one (calls_of records), weigh_one history, long) in
      omega (arith, split_weight f, none_left f history (names_of records) none, weigh_sum f (calls_of records), weigh_sum f history)

  pub same_of_long : length (calls_of records) ≡ length history → totals_of (calls_of records) ≡ totals_of history
  same_of_long long =
      same_totals (totals_of (calls_of records)) (totals_of history) long (same_weight long offers_of) (same_weight long gives_of)

  -- they have as many where no other seat has an event
  pub long_of_names : ((name : ℕ) → times_in name (names_of records) ≡ 0 → events_of history name ≡ []) → length (calls_of records) ≡ length history
  long_of_names none =
      let out : left_out (λ event. 1) history (names_of records) ≡ 0 =
      none_outside history (names_of records) (λ name apart. ap (weigh (λ event. 1)) (none name apart)) in
      omega (arith, split_weight (λ event. 1), weigh_one (calls_of records), weigh_one history, out)

capped_same : (totals : Totals) → AreCounts totals → capped totals ≡ totals
capped_same totals fits = same_totals (capped totals) totals (omega (arith, fits.calls)) (omega (arith, fits.offered)) (omega (arith, fits.given))

module _ (history : List Event) (records : List PassRecord) (all : AreRecords history records) (different : AreDifferent (names_of records)) (fits : AreCounts (totals_of history)) where
  -- where the share comes to the books, no call is outside
  pub all_counted : capped (totals_of (calls_of records)) ≡ totals_of history → length history ≡ length (calls_of records)
  all_counted same =
      let calls : min (length (calls_of records)) GREATEST_COUNT ≡ length history = ap (λ (t : Totals). t.calls) same in
      omega (arith, calls, calls_few history records all different)

  -- and where it doesn't, one is
  pub not_counted : ¬ (capped (totals_of (calls_of records)) ≡ totals_of history) → (capped (totals_of (calls_of records))).calls < length history
  not_counted other =
      let few = calls_few history records all different in
      let apart : length (calls_of records) ≢ length history =
      λ long. other (ap capped (same_of_long history records all different long) ∙ capped_same (totals_of history) fits) in
      omega (arith, few, apart)

  -- where no other seat has an event, the share comes to the books
  pub counts_all : ((name : ℕ) → times_in name (names_of records) ≡ 0 → events_of history name ≡ []) → capped (totals_of (calls_of records)) ≡ totals_of history
  counts_all none =
      ap capped (same_of_long history records all different (long_of_names history records all different none)) ∙ capped_same (totals_of history) fits
