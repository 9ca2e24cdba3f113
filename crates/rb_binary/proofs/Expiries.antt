-- The row of expiries by its slots, and how many entries it has.
use Rattle.std.proofs.Common.{◌≡◌, ℕ, zero, suc, ◌+◌, ◌<◌, ◌≢◌, List, [], ◌∷◌, length, get_or, set, Option, Some, None, ◌++◌, take, drop, refl, sym, ap, subst, ◌∙◌, arith, ⊎_elim, ext_get_or, get_or-set_same, get_or-set_other, length-set}
use Rattle.std.specs.Prelude.{is_some, option_map, count_by, cond}
use Rattle.std.proofs.lemmas.Bool.{cases_eq}
use Rattle.std.proofs.lemmas.List.{length-map, take_at}
use Rattle.std.proofs.lemmas.List.Sums.{sum_by-cons}
use Rattle.rb_binary.specs.declared.heap.Entry.{Entry}
use Rattle.rb_binary.specs.Layout.{expiry_at, place_of, expiries}

-- the expiry of a slot, by its place
abbrev pub shown_at : List Entry → List (Option ℕ) → ℕ → Option ℕ
shown_at heap places slot = option_map (expiry_at heap) (place_of places slot)

-- the row at a slot
pub get_or-expiries : (heap : List Entry) (places : List (Option ℕ)) (slot : ℕ)
    → get_or (expiries heap places) slot None ≡ shown_at heap places slot
get_or-expiries heap [] slot = refl
get_or-expiries heap (place ∷ places) zero = refl
get_or-expiries heap (place ∷ places) (suc slot) = get_or-expiries heap places slot

pub length-expiries : (heap : List Entry) (places : List (Option ℕ))
    → length (expiries heap places) ≡ length places
length-expiries heap places = length-map places (option_map (expiry_at heap))

pub is_some-option_map : (expiry : ℕ → ℕ) (place : Option ℕ)
    → is_some (option_map expiry place) ≡ is_some place
is_some-option_map expiry None = refl
is_some-option_map expiry (Some place) = refl

pub count_by-expiries : (heap : List Entry) (places : List (Option ℕ))
    → count_by is_some (expiries heap places) ≡ count_by is_some places
count_by-expiries heap [] = refl
count_by-expiries heap (place ∷ places) =
    sum_by-cons _ (option_map (expiry_at heap) place) (expiries heap places)
    ∙ (λ i. cond (is_some-option_map (expiry_at heap) place i) 1 0 + count_by-expiries heap places i)
    ∙ sym (sum_by-cons _ place places)

-- what holds at a slot and at each other one holds at each
pub each_slot : (P : ℕ → Type 0) (slot : ℕ) → P slot → ((other : ℕ) → other ≢ slot → P other)
    → (other : ℕ) → P other
each_slot P slot here elsewhere other =
    ⊎_elim (λ same. subst P (sym same) here) (elsewhere other) (cases_eq other slot)

-- two places with one expiry show the same
pub same_shown : (old new : ℕ → ℕ) (place : Option ℕ) → ((k : ℕ) → place ≡ Some k → new k ≡ old k)
    → option_map new place ≡ option_map old place
same_shown old new None same = refl
same_shown old new (Some k) same = ap Some (same k refl)

module _ (heap after : List Entry) (places later : List (Option ℕ)) (long : length later ≡ length places) where
  -- two rows that show the same at each slot are one
  pub same_rows : ((slot : ℕ) → shown_at after later slot ≡ shown_at heap places slot)
      → expiries after later ≡ expiries heap places
  same_rows same =
      ext_get_or None (expiries after later) (expiries heap places)
      (length-expiries after later ∙ long ∙ sym (length-expiries heap places))
      (λ slot _. get_or-expiries after later slot ∙ same slot ∙ sym (get_or-expiries heap places slot))

  -- two rows that show the same but at one slot differ by a write there
  pub row_is_set : (slot : ℕ) (expiry : Option ℕ) → slot < length places
      → shown_at after later slot ≡ expiry
      → ((other : ℕ) → other ≢ slot → shown_at after later other ≡ shown_at heap places other)
      → expiries after later ≡ set (expiries heap places) slot expiry
  row_is_set slot expiry within here elsewhere =
      let row : List (Option ℕ) = expiries heap places in
      let count = length-expiries heap places in
      ext_get_or None (expiries after later) (set row slot expiry)
      (length-expiries after later ∙ long ∙ sym (length-set row slot expiry ∙ count))
      (λ other _. get_or-expiries after later other
      ∙ each_slot (λ s. shown_at after later s ≡ get_or (set row slot expiry) s None) slot
      (here ∙ sym (get_or-set_same row slot expiry None (omega arith)))
      (λ s off. elsewhere s off ∙ sym (get_or-set_other row slot s expiry None off ∙ get_or-expiries heap places s))
      other)

-- what a vector has after the whole of it was lent as a slice
pub written_back : {X : Type 0} (n : ℕ) (new old : List X) → length new ≡ n
    → take n (new ++ drop (length new) old) ≡ new
written_back n new old long = take_at new (drop (length new) old) n long
