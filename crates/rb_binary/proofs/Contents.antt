-- The content of the timer, read from its two arrays.
use Rattle.std.proofs.Common.{◌≡◌, ℕ, zero, suc, ◌<◌, ◌≤◌, List, [], ◌∷◌, ◌++◌, replicate, length, get_or, Option, Some, None, refl, sym, ap, subst, ◌∙◌, arith}
use Rattle.std.specs.Prelude.{IsSome, IfSome, is_some, option_map}
use Rattle.std.specs.FinMap as map
use Rattle.std.proofs.lemmas.List.{get_or_read}
use Rattle.rb_timer.specs.Content.{IsLeastSlot}
use Rattle.rb_timer.specs.Slots.{content_of, get-content_of, content_empty, same_content, len-content_of}
use Rattle.rb_binary.specs.declared.heap.Entry.{Entry}
use Rattle.rb_binary.specs.Layout.{no_entry, slot_at, expiry_at, parent, place_of, expiries, Agrees, IsOrdered}
use Rattle.rb_binary.specs.Room.{in_room_of_content}
use Rattle.rb_binary.proofs.Expiries.{shown_at, is_some-option_map, get_or-expiries, count_by-expiries}

-- what the content has at a slot
pub get-content : (heap : List Entry) (places : List (Option ℕ)) (slot : ℕ)
    → map.get (content_of (expiries heap places)) slot ≡ shown_at heap places slot
get-content heap places slot =
    get-content_of (expiries heap places) slot ∙ get_or-expiries heap places slot

pub get-content_at : (heap : List Entry) (places : List (Option ℕ)) (slot place : ℕ)
    → place_of places slot ≡ Some place
    → map.get (content_of (expiries heap places)) slot ≡ Some (expiry_at heap place)
get-content_at heap places slot place noted =
    get-content heap places slot ∙ ap (option_map (expiry_at heap)) noted

none_noted : (expiry : ℕ → ℕ) (place : Option ℕ) → option_map expiry place ≡ None → place ≡ None
none_noted expiry None e = refl
none_noted expiry (Some place) e = absurd (cc)

-- a slot with no entry has no place
pub place_of-absent : (heap : List Entry) (places : List (Option ℕ)) (slot : ℕ)
    → map.get (content_of (expiries heap places)) slot ≡ None → place_of places slot ≡ None
place_of-absent heap places slot absent =
    none_noted (expiry_at heap) (place_of places slot) (sym (get-content heap places slot) ∙ absent)

-- a slot with an entry has a place
pub place_of-present : (heap : List Entry) (places : List (Option ℕ)) (slot : ℕ)
    → IsSome (map.get (content_of (expiries heap places)) slot) → IsSome (place_of places slot)
place_of-present heap places slot present =
    sym (ap is_some (get-content heap places slot) ∙ is_some-option_map (expiry_at heap) (place_of places slot))
    ∙ present

-- the place that was read at a slot with an entry is the slot's
pub noted_from_read : (heap : List Entry) (places : List (Option ℕ)) (slot place : ℕ) (read taken : Option ℕ)
    → IsSome (map.get (content_of (expiries heap places)) slot) → read ≡ get_or places slot read
    → taken ≡ read → taken ≡ Some place → place_of places slot ≡ Some place
noted_from_read heap places slot place read taken present reads takes is =
    sym (get_or_read places slot read (in_room_of_content heap places slot present) reads None)
    ∙ sym takes ∙ is

-- the expiry of the entry that was read at that place is the slot's
pub get-content_read : (heap : List Entry) (places : List (Option ℕ)) (slot place : ℕ) (entry : Entry)
    → Agrees heap places
    → place_of places slot ≡ Some place → entry ≡ get_or heap place entry
    → map.get (content_of (expiries heap places)) slot ≡ Some entry.expiry
get-content_read heap places slot place entry agrees noted reads =
    get-content_at heap places slot place noted
    ∙ ap (λ (e : Entry). Some e.expiry) (sym (get_or_read heap place entry (agrees.in_heap slot place noted) reads no_entry))

-- how many entries there are
pub len-content : (heap : List Entry) (places : List (Option ℕ)) → Agrees heap places
    → map.len (content_of (expiries heap places)) ≡ length heap
len-content heap places agrees =
    len-content_of (expiries heap places) ∙ count_by-expiries heap places ∙ sym agrees.count

-- no entry expires before the first
first_within : (heap : List Entry) → IsOrdered heap → (fuel place : ℕ) → place < fuel
    → place < length heap → expiry_at heap 0 ≤ expiry_at heap place
first_within heap ordered zero place low high = absurd (omega arith)
first_within heap ordered (suc fuel) zero low high = omega arith
first_within heap ordered (suc fuel) (suc place) low high =
    omega (
      arith,
      first_within heap ordered fuel (parent (suc place)) (omega arith) (omega arith),
      ordered.rises (suc place) (omega arith) high,
    )

pub first_expiry : (heap : List Entry) → IsOrdered heap → (place : ℕ) → place < length heap
    → expiry_at heap 0 ≤ expiry_at heap place
first_expiry heap ordered place high =
    first_within heap ordered (suc place) place (omega arith) high

module _ (heap : List Entry) (places : List (Option ℕ)) (agrees : Agrees heap places) where
  each_noted : (P : ℕ → Type 0) → ((place : ℕ) → place < length heap → P (expiry_at heap place))
      → (slot : ℕ) (place : Option ℕ) → place_of places slot ≡ place → IfSome (option_map (expiry_at heap) place) P
  each_noted P at slot None is = tt
  each_noted P at slot (Some place) is = at place (agrees.in_heap slot place is)

  -- what holds of each entry of the heap holds of each expiry in the content
  each_expiry : (P : ℕ → Type 0) → ((place : ℕ) → place < length heap → P (expiry_at heap place))
      → (slot : ℕ) → IfSome (map.get (content_of (expiries heap places)) slot) P
  each_expiry P at slot =
      subst (λ expiry. IfSome expiry P) (sym (get-content heap places slot)) (each_noted P at slot (place_of places slot) refl)

  -- the first entry is one that expires first
  pub first_is_least : IsOrdered heap → 0 < length heap
      → IsLeastSlot (content_of (expiries heap places)) (slot_at heap 0) (expiry_at heap 0)
  first_is_least ordered some = record {
    present = get-content_at heap places (slot_at heap 0) 0 (agrees.noted 0 some);
    least = each_expiry (λ expiry. expiry_at heap 0 ≤ expiry) (first_expiry heap ordered);
  }

  none_left : length heap ≡ 0 → (slot : ℕ) (place : Option ℕ) → place_of places slot ≡ place
      → option_map (expiry_at heap) place ≡ None
  none_left none slot None is = refl
  none_left none slot (Some place) is = let low = agrees.in_heap slot place is in absurd (omega arith)

  -- an empty heap is an empty content
  pub content_of_empty : length heap ≡ 0 → content_of (expiries heap places) ≡ map.empty
  content_of_empty none =
      content_empty (expiries heap places)
      (λ slot. get_or-expiries heap places slot ∙ none_left none slot (place_of places slot) refl)

-- a timer whose places were all forgotten is empty
none_place : (room slot : ℕ) → place_of (replicate room None) slot ≡ None
none_place zero slot = refl
none_place (suc room) zero = refl
none_place (suc room) (suc slot) = none_place room slot

pub content_of-cleared : (heap : List Entry) (room : ℕ)
    → content_of (expiries heap (replicate room None)) ≡ map.empty
content_of-cleared heap room =
    content_empty (expiries heap (replicate room None))
    (λ slot. get_or-expiries heap (replicate room None) slot
    ∙ ap (option_map (expiry_at heap)) (none_place room slot))

more_places : (places : List (Option ℕ)) (more slot : ℕ)
    → place_of (places ++ replicate more None) slot ≡ place_of places slot
more_places [] more slot = none_place more slot
more_places (place ∷ places) more zero = refl
more_places (place ∷ places) more (suc slot) = more_places places more slot

-- more room changes nothing
pub content_of-reserved : (heap : List Entry) (places : List (Option ℕ)) (more : ℕ)
    → content_of (expiries heap (places ++ replicate more None)) ≡ content_of (expiries heap places)
content_of-reserved heap places more =
    same_content (expiries heap (places ++ replicate more None)) (expiries heap places)
    (λ slot. get_or-expiries heap (places ++ replicate more None) slot
    ∙ ap (option_map (expiry_at heap)) (more_places places more slot) ∙ sym (get_or-expiries heap places slot))
