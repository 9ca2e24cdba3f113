-- Elements in order of their ids, as far as they were looked at.
use Rattle.std.proofs.Common.{◌≡◌, ◌≢◌, ℕ, ◌+◌, ◌-◌, ◌<◌, ◌≤◌, List, length, ap, ◌∙◌, arith, inl, inr, ◌⊎◌}
use Rattle.std.specs.Prelude.{slice_index}
use Rattle.rb_delayed.specs.declared.element.Element.{Element}
use Rattle.rb_queue.specs.Opening.{ids_of, AreInOrder}
use Rattle.rb_queue.proofs.Options.{same_or_not}

-- the first n ids rise below the end, and the next may be `least` at the least
pub record InOrderSoFar (elements : List Element) (end n least : ℕ) : Type 0 where
  pub rising : (one other : ℕ) → one < other → other < n → slice_index (ids_of elements) one < slice_index (ids_of elements) other
  pub below : (place : ℕ) → place < n → slice_index (ids_of elements) place < end
  pub past : (place : ℕ) → place < n → slice_index (ids_of elements) place < least
  pub first : n ≡ 0 → least ≡ 0
  pub last : (place : ℕ) → place + 1 ≡ n → slice_index (ids_of elements) place + 1 ≡ least

pub so_far_none : (elements : List Element) (end : ℕ) → InOrderSoFar elements end 0 0
so_far_none elements end = record {
  rising = λ one other before within. absurd (omega (arith, within));
  below = λ place within. absurd (omega (arith, within));
  past = λ place within. absurd (omega (arith, within));
  first = λ none. none;
  last = λ place is. absurd (omega (arith, is));
}

pub so_far_more : (elements : List Element) (end n least id : ℕ) → InOrderSoFar elements end n least → slice_index (ids_of elements) n ≡ id → least ≤ id → id < end
    → InOrderSoFar elements end (n + 1) (id + 1)
so_far_more elements end n least id so_far here up low = record {
  rising = λ one other before within. rising_at one other before within (same_or_not other n);
  below = λ place within. below_at place within (same_or_not place n);
  past = λ place within. past_at place within (same_or_not place n);
  first = λ none. absurd (omega (arith, none));
  last = λ place is. let at : place ≡ n = omega arith in ap (λ p. slice_index (ids_of elements) p + 1) at ∙ ap (λ k. k + 1) here;
}
  where
    rising_at : (one other : ℕ) → one < other → other < n + 1 → (other ≡ n) ⊎ (other ≢ n) → slice_index (ids_of elements) one < slice_index (ids_of elements) other
    rising_at one other before within (inl at) =
        let past : slice_index (ids_of elements) one < least = so_far.past one (omega (arith, before, at)) in
        let there : slice_index (ids_of elements) other ≡ id = ap (slice_index (ids_of elements)) at ∙ here in
        omega (arith, past, there, up)
    rising_at one other before within (inr off) = so_far.rising one other before (omega arith)

    below_at : (place : ℕ) → place < n + 1 → (place ≡ n) ⊎ (place ≢ n) → slice_index (ids_of elements) place < end
    below_at place within (inl at) = let there : slice_index (ids_of elements) place ≡ id = ap (slice_index (ids_of elements)) at ∙ here in omega (arith, there, low)
    below_at place within (inr off) = so_far.below place (omega arith)

    past_at : (place : ℕ) → place < n + 1 → (place ≡ n) ⊎ (place ≢ n) → slice_index (ids_of elements) place < id + 1
    past_at place within (inl at) = let there : slice_index (ids_of elements) place ≡ id = ap (slice_index (ids_of elements)) at ∙ here in omega (arith, there)
    past_at place within (inr off) = let past = so_far.past place (omega arith) in omega (arith, past, up)

-- an id that comes too soon or is not below the end is out of order
pub out_of_order : (elements : List Element) (end n least id : ℕ) → InOrderSoFar elements end n least → n < length elements → slice_index (ids_of elements) n ≡ id
    → (id < least) ⊎ (end ≤ id) → AreInOrder elements end → ⊥
out_of_order elements end n least id so_far within here (inl soon) order = by_place (same_or_not n 0)
  where
    by_place : (n ≡ 0) ⊎ (n ≢ 0) → ⊥
    by_place (inl none) = let zero : least ≡ 0 = so_far.first none in omega (arith, zero, soon)
    by_place (inr some) =
        let back : (n - 1) + 1 ≡ n = omega arith in
        let last = so_far.last (n - 1) back in
        let rises = order.rising (n - 1) n (omega arith) within in
        omega (arith, last, rises, here, soon)
out_of_order elements end n least id so_far within here (inr late) order =
    let below = order.below n within in omega (arith, below, here, late)

pub in_order : (elements : List Element) (end n least : ℕ) → InOrderSoFar elements end n least → length elements ≤ n → AreInOrder elements end
in_order elements end n least so_far all = record {
  rising = λ one other before within. so_far.rising one other before (omega (arith, within, all));
  below = λ place within. so_far.below place (omega (arith, within, all));
}
