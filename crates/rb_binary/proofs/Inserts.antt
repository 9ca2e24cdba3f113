-- The two arrays when an entry is put at the end of the heap, and is sifted from there.
use Rattle.std.proofs.Common.{◌≡◌, ℕ, ◌+◌, ◌<◌, ◌≢◌, List, [], ◌∷◌, ◌++◌, length, get_or, set, Option, Some, None, refl, sym, ap, ◌∙◌, arith, ⊎_elim, get_or-set_same, get_or-set_other, length-set}
use Rattle.std.specs.Prelude.{is_some, option_map, count_by, cond}
use Rattle.std.proofs.lemmas.Bool.{cases_eq, cases_lt}
use Rattle.std.proofs.lemmas.List.{get_or_push, get_or_append_left, length_push}
use Rattle.std.proofs.lemmas.List.Sums.{sum_by-set, count_by-le-length}
use Rattle.std.proofs.lemmas.Option.{none-some}
use Rattle.std.specs.FinMap as finite
use Rattle.rb_timer.specs.Slots.{content_of, content_of-insert}
use Rattle.rb_binary.specs.declared.heap.Entry.{Entry}
use Rattle.rb_binary.specs.Layout.{no_entry, slot_at, expiry_at, place_of, expiries, note, Agrees, IsPutAt}
use Rattle.rb_binary.proofs.Contents.{place_of-absent}
use Rattle.rb_binary.proofs.Expiries.{length-expiries, same_shown, row_is_set}

-- how many places are noted after one more is
count_noted : (places : List (Option ℕ)) (slot place : ℕ) → slot < length places
    → place_of places slot ≡ None
    → count_by is_some (set places slot (Some place)) ≡ count_by is_some places + 1
count_noted places slot place within free =
    let counted = rw free at (sum_by-set (λ p. cond (is_some p) 1 0) places slot (Some place) None within) in
    omega (arith, counted)

module _ (heap : List Entry) (places : List (Option ℕ)) (entry : Entry) (agrees : Agrees heap places)
    (absent : finite.get (content_of (expiries heap places)) entry.slot ≡ None) (within : entry.slot < length places) where
  abbrev pushed : List Entry
  pushed = heap ++ entry ∷ []

  abbrev noted : List (Option ℕ)
  noted = set places entry.slot (Some (length heap))

  free : place_of places entry.slot ≡ None
  free = place_of-absent heap places entry.slot absent

  at_end : get_or pushed (length heap) no_entry ≡ entry
  at_end = get_or_push heap entry no_entry (length heap) refl

  at_old : (place : ℕ) → place < length heap
      → get_or pushed place no_entry ≡ get_or heap place no_entry
  at_old place low = get_or_append_left heap (entry ∷ []) no_entry place low

  slot_end : slot_at pushed (length heap) ≡ entry.slot
  slot_end = ap (λ (e : Entry). e.slot) at_end

  slot_old : (place : ℕ) → place < length heap → slot_at pushed place ≡ slot_at heap place
  slot_old place low = ap (λ (e : Entry). e.slot) (at_old place low)

  noted_here : place_of noted entry.slot ≡ Some (length heap)
  noted_here = get_or-set_same places entry.slot (Some (length heap)) None within

  noted_other : (slot : ℕ) → slot ≢ entry.slot → place_of noted slot ≡ place_of places slot
  noted_other slot off = get_or-set_other places entry.slot slot (Some (length heap)) None off

  pushed_agrees : Agrees pushed noted
  pushed_agrees = record {
    noted = λ place high. ⊎_elim
        (λ low. let other : slot_at heap place ≢ entry.slot = λ e.
        none-some place (sym free ∙ ap (place_of places) (sym e) ∙ agrees.noted place low) in
        ap (place_of noted) (slot_old place low) ∙ noted_other (slot_at heap place) other
        ∙ agrees.noted place low)
        (λ past. let last : place ≡ length heap = omega (arith, length_push heap entry) in
        ap (λ p. place_of noted (slot_at pushed p)) last ∙ ap (place_of noted) slot_end ∙ noted_here
        ∙ ap Some (sym last))
        (cases_lt place (length heap));
    in_heap =
        λ slot place is. let long = length_push heap entry in
        grind (arith, agrees.in_heap slot place, noted_here, noted_other slot, cases_eq slot entry.slot);
    of_slot =
        λ slot place is. grind (
          arith,
          agrees.in_heap slot place,
          agrees.of_slot slot place,
          slot_old place,
          slot_end,
          noted_here,
          noted_other slot,
          cases_eq slot entry.slot,
        );
    count =
        omega (arith, agrees.count, length_push heap entry, count_noted places entry.slot (length heap) within free);
  }

  pub pushed_put : IsPutAt pushed places (length heap)
  pushed_put =
      record { in_heap = omega (arith, length_push heap entry); agrees = rw slot_end pushed_agrees }

  -- there is room for one more
  pub room_to_push : length heap < length places
  room_to_push =
      omega (
        arith,
        agrees.count,
        count_noted places entry.slot (length heap) within free,
        count_by-le-length is_some noted,
        length-set places entry.slot (Some (length heap)),
      )

  pushed_row : expiries pushed (note pushed places (length heap)) ≡ set (expiries heap places) entry.slot (Some entry.expiry)
  pushed_row = rw slot_end
      (row_is_set heap pushed places noted (length-set places entry.slot (Some (length heap))) entry.slot (Some entry.expiry) within
      (ap (option_map (expiry_at pushed)) noted_here ∙ ap (λ (e : Entry). Some e.expiry) at_end)
      (λ slot off. ap (option_map (expiry_at pushed)) (noted_other slot off)
      ∙ same_shown (expiry_at heap) (expiry_at pushed) (place_of places slot)
      (λ place is. ap (λ (e : Entry). e.expiry) (at_old place (agrees.in_heap slot place is)))))

  -- the content that the sifted arrays have
  pub content_of-pushed : (row : List (Option ℕ))
      → row ≡ expiries pushed (note pushed places (length heap))
      → content_of row ≡ finite.insert (content_of (expiries heap places)) entry.slot entry.expiry
  content_of-pushed row same =
      ap content_of (same ∙ pushed_row)
      ∙ content_of-insert (expiries heap places) entry.slot entry.expiry (omega (arith, length-expiries heap places))
