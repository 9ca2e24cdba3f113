-- How a binary timer lies in its two arrays: a heap of entries, and at each slot its entry's place.
use Rattle.std.specs.Prelude.{◌≡◌, ℕ, ◌-◌, ◌/◌, ◌<◌, ◌≤◌, ◌≢◌, List, length, map, Option, Some}
use Rattle.std.specs.Prelude.{None, is_some, option_map, count_by, slice_index_or, slice_set}
use Rattle.rb_binary.specs.declared.heap.Entry.{Entry}

-- what a read past the end would give
abbrev pub no_entry : Entry
no_entry = record { slot = 0; expiry = 0 }

-- the slot of the entry at a place of the heap
abbrev pub slot_at : List Entry → ℕ → ℕ
slot_at heap place = (slice_index_or heap place no_entry).slot

-- the expiry of the entry at a place of the heap
abbrev pub expiry_at : List Entry → ℕ → ℕ
expiry_at heap place = (slice_index_or heap place no_entry).expiry

-- where a slot's entry is in the heap, if it has one
abbrev pub place_of : List (Option ℕ) → ℕ → Option ℕ
place_of places slot = slice_index_or places slot None

-- at each slot its expiry, or none
abbrev pub expiries : List Entry → List (Option ℕ) → List (Option ℕ)
expiries heap places = map (option_map (expiry_at heap)) places

-- each entry's place is noted at its slot, and nothing else is noted
pub record Agrees (heap : List Entry) (places : List (Option ℕ)) : Type 0 where
  pub noted : (place : ℕ) → place < length heap → place_of places (slot_at heap place) ≡ Some place
  pub in_heap : (slot place : ℕ) → place_of places slot ≡ Some place → place < length heap
  pub of_slot : (slot place : ℕ) → place_of places slot ≡ Some place → slot_at heap place ≡ slot
  pub count : length heap ≡ count_by is_some places

-- the place above; the places below `place` are `2 * place + 1` and `2 * place + 2`
abbrev pub parent : ℕ → ℕ
parent place = (place - 1) / 2

-- the entry does not expire before its parent
abbrev pub IsInOrder : List Entry → ℕ → Type 0
IsInOrder heap place = expiry_at heap (parent place) ≤ expiry_at heap place

-- this holds at each place that has a parent
abbrev pub AtEachChild : List Entry → (ℕ → Type 0) → Type 0
AtEachChild heap holds = (place : ℕ) → 0 < place → place < length heap → holds place

-- no entry expires before its parent
pub record IsOrdered (heap : List Entry) : Type 0 where
  pub rises : AtEachChild heap (IsInOrder heap)

-- no entry below `hole` expires before the one above it
abbrev pub IsOrderedAcross : List Entry → ℕ → Type 0
IsOrderedAcross heap hole =
    0 < hole
    → AtEachChild heap (λ place. parent place ≡ hole → expiry_at heap (parent hole) ≤ expiry_at heap place)

-- all is ordered but the entry at `hole`
pub record IsOrderedBut (heap : List Entry) (hole : ℕ) : Type 0 where
  pub others : AtEachChild heap (λ place. place ≢ hole → parent place ≢ hole → IsInOrder heap place)
  pub across : IsOrderedAcross heap hole

-- only the entry at `hole` may expire before its parent
pub record MayRise (heap : List Entry) (hole : ℕ) : Type 0 where
  pub others : AtEachChild heap (λ place. place ≢ hole → IsInOrder heap place)
  pub across : IsOrderedAcross heap hole

-- only the entries below `hole` may expire before their parent
pub record MaySink (heap : List Entry) (hole : ℕ) : Type 0 where
  pub others : AtEachChild heap (λ place. parent place ≢ hole → IsInOrder heap place)
  pub across : IsOrderedAcross heap hole

-- the child of `place` that expires first
pub record IsLeastChild (heap : List Entry) (place child : ℕ) : Type 0 where
  pub above : parent child ≡ place
  pub below : place < child
  pub in_heap : child < length heap
  pub least : AtEachChild heap (λ other. parent other ≡ place → expiry_at heap child ≤ expiry_at heap other)

-- the places, with that of the entry at `place` noted
abbrev pub note : List Entry → List (Option ℕ) → ℕ → List (Option ℕ)
note heap places place = slice_set places (slot_at heap place) (Some place)

-- the heap has an entry there, and the arrays agree once its place is noted
pub record IsPutAt (heap : List Entry) (places : List (Option ℕ)) (place : ℕ) : Type 0 where
  pub in_heap : place < length heap
  pub agrees : Agrees heap (note heap places place)

-- the entry at `place` has moved to where it belongs, and no slot's expiry has changed
pub record Sifts (heap : List Entry) (places : List (Option ℕ)) (place : ℕ)
    (new_heap : List Entry) (new_places : List (Option ℕ)) : Type 0 where
  pub agrees : Agrees new_heap new_places
  pub ordered : IsOrdered new_heap
  pub same : expiries new_heap new_places ≡ expiries heap (note heap places place)
