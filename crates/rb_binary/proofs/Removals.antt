-- The two arrays when an entry is taken out of the heap, and the last takes its place.
use Rattle.std.proofs.Common.{◌≡◌, ℕ, ◌+◌, ◌-◌, ◌<◌, ◌≤◌, ◌≢◌, List, length, get_or, set, Option, Some, None, sym, ap, subst, ◌∙◌, arith, ⊎_elim, get_or-set_same, get_or-set_other, length-set}
use Rattle.std.specs.Prelude.{is_some, option_map, count_by, cond}
use Rattle.std.proofs.lemmas.Bool.{cases_eq}
use Rattle.std.proofs.lemmas.List.Sums.{sum_by-set}
use Rattle.std.proofs.lemmas.Option.{none-some, same_Some}
use Rattle.std.specs.FinMap as finite
use Rattle.rb_timer.specs.Slots.{content_of, content_of-remove}
use Rattle.rb_binary.specs.declared.heap.Entry.{Entry}
use Rattle.rb_binary.specs.Layout.{no_entry, slot_at, expiry_at, place_of, expiries, note, Agrees, IsPutAt}
use Rattle.rb_binary.proofs.Expiries.{shown_at, length-expiries, same_shown, row_is_set}
use Rattle.rb_binary.proofs.KeptPlaces.{is_within}

-- `after` lacks the entry at `place`, where the last entry is now, if another was last
pub record TakesOut (heap after : List Entry) (place : ℕ) : Type 0 where
  pub long : length after + 1 ≡ length heap
  pub kept : (other : ℕ) → other ≢ place → other < length after
      → get_or after other no_entry ≡ get_or heap other no_entry
  pub moved : place < length after
      → get_or after place no_entry ≡ get_or heap (length after) no_entry

-- a slot other than the one taken out is noted at k, as it was before, and not at the place taken out
record IsStillNoted (places : List (Option ℕ)) (slot place other k : ℕ) : Type 0 where
  apart : other ≢ slot
  noted : place_of places other ≡ Some k
  elsewhere : k ≢ place

-- a slot is noted at k, as it was before, not at the place taken out, and before the end
record IsStillWithin (places : List (Option ℕ)) (place end other k : ℕ) : Type 0 where
  noted : place_of places other ≡ Some k
  elsewhere : k ≢ place
  within : k < end

-- what `swap_remove` says of a list of n
pub takes_out : (heap after : List Entry) (place n : ℕ) → n ≡ length heap
    → length after + 1 ≡ length heap
    → ((d : Entry) → place + 1 < n → get_or after place d ≡ get_or heap (n - 1) d)
    × ((k : ℕ) (d : Entry) → k ≢ place → k + 1 < n → get_or after k d ≡ get_or heap k d)
    → TakesOut heap after place
takes_out heap after place n count long by_index = record {
  long = long;
  kept = λ other off low. by_index.1 other no_entry off (omega arith);
  moved =
      λ low. let last : n - 1 ≡ length after = omega arith in by_index.0 no_entry (omega arith)
      ∙ ap (λ k. get_or heap k no_entry) last;
}

-- how many places are noted after one is forgotten
count_forgotten : (places : List (Option ℕ)) (slot place : ℕ) → slot < length places
    → place_of places slot ≡ Some place
    → count_by is_some (set places slot None) + 1 ≡ count_by is_some places
count_forgotten places slot place within noted =
    let counted = rw noted at (sum_by-set (λ p. cond (is_some p) 1 0) places slot None None within) in
    omega (arith, counted)

count_noted_again : (places : List (Option ℕ)) (slot old new : ℕ) → place_of places slot ≡ Some old
    → count_by is_some (set places slot (Some new)) ≡ count_by is_some places
count_noted_again places slot old new noted =
    let within = is_within places slot old noted in
    let counted = rw noted at (sum_by-set (λ p. cond (is_some p) 1 0) places slot (Some new) None within) in
    omega (arith, counted)

-- the entry of a slot was taken out, from the place that is noted of it
pub record TakesEntry (heap after : List Entry) (places : List (Option ℕ)) (slot place : ℕ) : Type 0 where
  pub agrees : Agrees heap places
  pub noted : place_of places slot ≡ Some place
  pub takes : TakesOut heap after place

module _ {heap after : List Entry} {places : List (Option ℕ)} {slot place : ℕ} (taken : TakesEntry heap after places slot place) where
  abbrev agrees : Agrees heap places
  agrees = taken.agrees

  abbrev noted : place_of places slot ≡ Some place
  noted = taken.noted

  abbrev takes : TakesOut heap after place
  takes = taken.takes

  abbrev forgotten : List (Option ℕ)
  forgotten = set places slot None

  within : slot < length places
  within = is_within places slot place noted

  slot_taken : slot_at heap place ≡ slot
  slot_taken = agrees.of_slot slot place noted

  in_heap : place < length heap
  in_heap = agrees.in_heap slot place noted

  forgotten_here : place_of forgotten slot ≡ None
  forgotten_here = get_or-set_same places slot None None within

  forgotten_other : (other : ℕ) → other ≢ slot → place_of forgotten other ≡ place_of places other
  forgotten_other other off = get_or-set_other places slot other None None off

  slot_kept : (other : ℕ) → other ≢ place → other < length after
      → slot_at after other ≡ slot_at heap other
  slot_kept other off low = ap (λ (e : Entry). e.slot) (takes.kept other off low)

  expiry_kept : (other : ℕ) → other ≢ place → other < length after
      → expiry_at after other ≡ expiry_at heap other
  expiry_kept other off low = ap (λ (e : Entry). e.expiry) (takes.kept other off low)

  -- what is noted after the slot is forgotten, was noted of another entry
  still_noted : (other k : ℕ) → place_of forgotten other ≡ Some k
      → IsStillNoted places slot place other k
  still_noted other k is =
      let off : other ≢ slot = λ e. none-some k (sym forgotten_here ∙ ap (place_of forgotten) (sym e) ∙ is) in
      let was : place_of places other ≡ Some k = sym (forgotten_other other off) ∙ is in
      record {
        apart = off;
        noted = was;
        elsewhere = λ e. off (sym (agrees.of_slot other k was) ∙ ap (slot_at heap) e ∙ slot_taken);
      }

  -- two places of the heap that are apart have two slots
  slots_apart : (one other : ℕ) → one < length heap → other < length heap → one ≢ other
      → slot_at heap one ≢ slot_at heap other
  slots_apart one other low high off e =
      off (same_Some one other (sym (agrees.noted one low) ∙ ap (place_of places) e ∙ agrees.noted other high))

  -- the last entry was taken out
  module _ (last : length after ≤ place) where
    still_low : (other k : ℕ) → place_of forgotten other ≡ Some k → k < length after
    still_low other k is =
        let still = still_noted other k is in
        let low = agrees.in_heap other k still.noted in
        let off = still.elsewhere in
        let long = takes.long in
        omega (arith, in_heap)

    still_at_end : (other k : ℕ) → place_of forgotten other ≡ Some k
        → expiry_at after k ≡ expiry_at heap k
    still_at_end other k is = expiry_kept k (still_noted other k is).elsewhere (still_low other k is)

    pub last_agrees : Agrees after forgotten
    last_agrees = record {
      noted = λ other low.
          let off : other ≢ place = omega arith in
          let apart = slots_apart other place (omega (arith, takes.long)) in_heap off in
          ap (place_of forgotten) (slot_kept other off low)
          ∙ forgotten_other (slot_at heap other) (λ e. apart (e ∙ sym slot_taken))
          ∙ agrees.noted other (omega (arith, takes.long));
      in_heap = still_low;
      of_slot = λ other k is.
          let still = still_noted other k is in slot_kept k still.elsewhere (still_low other k is)
          ∙ agrees.of_slot other k still.noted;
      count =
          omega (arith, takes.long, agrees.count, count_forgotten places slot place within noted);
    }

    pub last_row : expiries after forgotten ≡ set (expiries heap places) slot None
    last_row = row_is_set heap after places forgotten (length-set places slot None) slot None within
        (ap (option_map (expiry_at after)) forgotten_here)
        (λ other off. ap (option_map (expiry_at after)) (forgotten_other other off)
        ∙ same_shown (expiry_at heap) (expiry_at after) (place_of places other)
        (λ k is. still_at_end other k (forgotten_other other off ∙ is)))

  -- the last entry took the place of the one that was taken out
  module _ (inner : place < length after) where
    abbrev mover : ℕ
    mover = slot_at after place

    abbrev renoted : List (Option ℕ)
    renoted = set forgotten mover (Some place)

    mover_was : mover ≡ slot_at heap (length after)
    mover_was = ap (λ (e : Entry). e.slot) (takes.moved inner)

    mover_noted : place_of places mover ≡ Some (length after)
    mover_noted =
        ap (place_of places) mover_was ∙ agrees.noted (length after) (omega (arith, takes.long))

    mover_apart : mover ≢ slot
    mover_apart e =
        slots_apart (length after) place (omega (arith, takes.long)) in_heap (omega arith) (sym mover_was ∙ e ∙ sym slot_taken)

    renoted_mover : place_of renoted mover ≡ Some place
    renoted_mover =
        get_or-set_same forgotten mover (Some place) None
        (omega (arith, is_within places mover (length after) mover_noted, length-set places slot None))

    renoted_other : (other : ℕ) → other ≢ mover → place_of renoted other ≡ place_of forgotten other
    renoted_other other off = get_or-set_other forgotten mover other (Some place) None off

    -- what is noted of another slot, was noted of it, and not at the end
    still_inner : (other k : ℕ) → other ≢ mover → place_of renoted other ≡ Some k
        → IsStillWithin places place (length after) other k
    still_inner other k off is =
        let still = still_noted other k (sym (renoted_other other off) ∙ is) in
        let low = agrees.in_heap other k still.noted in
        let off_end : k ≢ length after = λ e. off (sym (agrees.of_slot other k still.noted) ∙ ap (slot_at heap) e ∙ sym mover_was) in
        record {
          noted = still.noted;
          elsewhere = still.elsewhere;
          within = omega (arith, takes.long);
        }

    inner_agrees : Agrees after renoted
    inner_agrees = record {
      noted = λ other low. ⊎_elim
          (λ e. ap (λ k. place_of renoted (slot_at after k)) e ∙ renoted_mover ∙ ap Some (sym e))
          (λ off.
          let long = takes.long in
          let apart = slots_apart other place (omega arith) in_heap off in
          let apart_end = slots_apart other (length after) (omega arith) (omega arith) (omega arith) in
          ap (place_of renoted) (slot_kept other off low)
          ∙ renoted_other (slot_at heap other) (λ e. apart_end (e ∙ mover_was))
          ∙ forgotten_other (slot_at heap other) (λ e. apart (e ∙ sym slot_taken))
          ∙ agrees.noted other (omega arith))
          (cases_eq other place);
      in_heap = λ other k is. ⊎_elim
          (λ e. let same = same_Some place k (sym renoted_mover ∙ ap (place_of renoted) (sym e) ∙ is) in omega arith)
          (λ off. (still_inner other k off is).within)
          (cases_eq other mover);
      of_slot = λ other k is. ⊎_elim
          (λ e. ap (slot_at after) (sym (same_Some place k (sym renoted_mover ∙ ap (place_of renoted) (sym e) ∙ is))) ∙ sym e)
          (λ off. let still = still_inner other k off is in slot_kept k still.elsewhere still.within ∙ agrees.of_slot other k still.noted)
          (cases_eq other mover);
      count =
          let still = forgotten_other mover mover_apart ∙ mover_noted in
          let noted_again = count_noted_again forgotten mover (length after) place still in
          omega (arith, takes.long, agrees.count, count_forgotten places slot place within noted, noted_again);
    }

    pub inner_put : IsPutAt after forgotten place
    inner_put = record { in_heap = inner; agrees = inner_agrees }

    -- what the row shows of a slot that was not taken out
    inner_shown : (other : ℕ) → other ≢ slot
        → shown_at after renoted other ≡ shown_at heap places other
    inner_shown other off = ⊎_elim
        (λ e. subst (λ s. shown_at after renoted s ≡ shown_at heap places s) (sym e)
        (ap (option_map (expiry_at after)) renoted_mover
        ∙ ap (λ (e : Entry). Some e.expiry) (takes.moved inner)
        ∙ sym (ap (option_map (expiry_at heap)) mover_noted)))
        (λ off_mover. let same = renoted_other other off_mover ∙ forgotten_other other off in
        ap (option_map (expiry_at after)) same
        ∙ same_shown (expiry_at heap) (expiry_at after) (place_of places other)
        (λ k is. let still = still_inner other k off_mover (same ∙ is) in expiry_kept k still.elsewhere still.within))
        (cases_eq other mover)

    pub inner_row : expiries after (note after forgotten place) ≡ set (expiries heap places) slot None
    inner_row =
        row_is_set heap after places renoted (length-set forgotten mover (Some place) ∙ length-set places slot None) slot None within
        (ap (option_map (expiry_at after)) (renoted_other slot (λ same. mover_apart (sym same)) ∙ forgotten_here))
        inner_shown

  -- the content that the sifted arrays have
  pub content_of-taken : (row : List (Option ℕ)) → row ≡ set (expiries heap places) slot None
      → content_of row ≡ finite.remove (content_of (expiries heap places)) slot
  content_of-taken row same =
      ap content_of same
      ∙ content_of-remove (expiries heap places) slot (omega (arith, within, length-expiries heap places))
