-- The places still agree with the heap after a step, and the row is the same.
use Rattle.std.proofs.Common.{◌≡◌, ℕ, ◌<◌, ◌≢◌, List, length, get_or, set, Option, Some, None, sym, ap, subst, ◌∙◌, arith, ⊎_elim, get_or-set_same, get_or-set_other, length-set}
use Rattle.std.specs.Prelude.{is_some, option_map, count_by}
use Rattle.std.proofs.lemmas.Bool.{cases_eq, cases_lt}
use Rattle.std.proofs.lemmas.List.{get_or_past}
use Rattle.std.proofs.lemmas.Option.{none-some, same_Some}
use Rattle.rb_binary.specs.declared.heap.Entry.{Entry}
use Rattle.rb_binary.specs.Layout.{no_entry, slot_at, expiry_at, place_of, expiries, Agrees}
use Rattle.rb_binary.proofs.Exchange.{AreExchanged, exchanged, length-stepped, shown-set_same, shown-set_other}
use Rattle.rb_binary.proofs.Expiries.{shown_at, each_slot, same_shown, same_rows, count_by-expiries}

-- a slot whose place is noted stands in the row
pub is_within : (places : List (Option ℕ)) (slot place : ℕ) → place_of places slot ≡ Some place
    → slot < length places
is_within places slot place noted =
    ⊎_elim (λ within. within)
    (λ past. absurd (none-some place (sym (get_or_past places slot None past) ∙ noted)))
    (cases_lt slot (length places))

-- the places of two slots are exchanged
record AreNoted (old new : List (Option ℕ)) (moving other hole to : ℕ) : Type 0 where
  apart : other ≢ moving
  was_moving : place_of old moving ≡ Some hole
  was_other : place_of old other ≡ Some to
  now_moving : place_of new moving ≡ Some to
  now_other : place_of new other ≡ Some hole
  elsewhere : (slot : ℕ) → slot ≢ moving → slot ≢ other → place_of new slot ≡ place_of old slot

module _ (H H' : List Entry) (P P' : List (Option ℕ)) (hole to moving other : ℕ)
    (within : hole < length H) (inside : to < length H) (differ : hole ≢ to)
    (long : length H' ≡ length H) (room : length P' ≡ length P)
    (slots : AreExchanged (slot_at H) (slot_at H') hole to)
    (times : AreExchanged (expiry_at H) (expiry_at H') hole to)
    (notes : AreNoted P P' moving other hole to) (agrees : Agrees H P) where
  moving_was : slot_at H hole ≡ moving
  moving_was = agrees.of_slot moving hole notes.was_moving

  other_was : slot_at H to ≡ other
  other_was = agrees.of_slot other to notes.was_other

  same_at : (slot : ℕ) → shown_at H' P' slot ≡ shown_at H P slot
  same_at = each_slot (λ s. shown_at H' P' s ≡ shown_at H P s) moving
      (ap (option_map (expiry_at H')) notes.now_moving ∙ ap Some times.at_to
      ∙ sym (ap (option_map (expiry_at H)) notes.was_moving))
      (λ slot off. ⊎_elim
      (λ e. subst (λ s. shown_at H' P' s ≡ shown_at H P s) (sym e)
      (ap (option_map (expiry_at H')) notes.now_other ∙ ap Some times.at_hole
      ∙ sym (ap (option_map (expiry_at H)) notes.was_other)))
      (λ off_both. ap (option_map (expiry_at H')) (notes.elsewhere slot off off_both)
      ∙ same_shown (expiry_at H) (expiry_at H') (place_of P slot)
      (λ k is. times.elsewhere k
      (λ e. off (sym (agrees.of_slot slot k is) ∙ ap (slot_at H) e ∙ moving_was))
      (λ e. off_both (sym (agrees.of_slot slot k is) ∙ ap (slot_at H) e ∙ other_was))))
      (cases_eq slot other))

  same : expiries H' P' ≡ expiries H P
  same = same_rows H H' P P' room same_at

  noted : (place : ℕ) → place < length H' → place_of P' (slot_at H' place) ≡ Some place
  noted place high =
      grind (
        arith,
        agrees.noted place,
        agrees.noted hole,
        agrees.noted to,
        moving_was,
        other_was,
        cases_eq place hole,
        cases_eq place to,
        notes.elsewhere (slot_at H place),
      )

  in_heap : (slot place : ℕ) → place_of P' slot ≡ Some place → place < length H'
  in_heap slot place is =
      grind (arith, agrees.in_heap slot place, cases_eq slot moving, cases_eq slot other)

  of_slot : (slot place : ℕ) → place_of P' slot ≡ Some place → slot_at H' place ≡ slot
  of_slot slot place is =
      grind (
        arith,
        agrees.of_slot slot place,
        moving_was,
        other_was,
        cases_eq slot moving,
        cases_eq slot other,
        cases_eq place hole,
        cases_eq place to,
      )

  agreed : Agrees H' P'
  agreed = record {
    noted = noted;
    in_heap = in_heap;
    of_slot = of_slot;
    count =
        long ∙ agrees.count ∙ sym (count_by-expiries H P) ∙ ap (count_by is_some) (sym same)
        ∙ count_by-expiries H' P';
  }

-- an entry is carried, and there is a hole for it: put there, it makes the arrays agree, with this row
pub record Carries (heap : List Entry) (places : List (Option ℕ)) (hole : ℕ) (entry : Entry)
    (row : List (Option ℕ)) : Type 0 where
  pub in_heap : hole < length heap
  pub agrees : Agrees (set heap hole entry) (set places entry.slot (Some hole))
  pub same : expiries (set heap hole entry) (set places entry.slot (Some hole)) ≡ row

module _ (heap : List Entry) (places : List (Option ℕ)) (hole : ℕ) (entry : Entry) (row : List (Option ℕ))
    (carries : Carries heap places hole entry row) where
  noted_hole : place_of (set places entry.slot (Some hole)) entry.slot ≡ Some hole
  noted_hole =
      ap (place_of (set places entry.slot (Some hole))) (sym (shown-set_same (λ e. e.slot) heap hole entry carries.in_heap))
      ∙ carries.agrees.noted hole (omega (arith, carries.in_heap, length-set heap hole entry))

  noted_other : (to : ℕ) → to < length heap → hole ≢ to
      → place_of (set places entry.slot (Some hole)) (slot_at heap to) ≡ Some to
  noted_other to inside differ =
      ap (place_of (set places entry.slot (Some hole))) (sym (shown-set_other (λ e. e.slot) heap hole to entry (λ e. differ (sym e))))
      ∙ carries.agrees.noted to (omega (arith, length-set heap hole entry))

  -- the slots that a step writes at
  pub carried_in_room : entry.slot < length places
  carried_in_room =
      omega (arith, is_within _ entry.slot hole noted_hole, length-set places entry.slot (Some hole))

  pub other_in_room : (to : ℕ) → to < length heap → hole ≢ to → slot_at heap to < length places
  other_in_room to inside differ =
      omega (arith, is_within _ (slot_at heap to) to (noted_other to inside differ), length-set places entry.slot (Some hole))

  -- the entry at `to` is put into the hole, and leaves a hole there
  pub carries_step : (to : ℕ) → to < length heap → hole ≢ to
      → Carries (set heap hole (get_or heap to no_entry)) (set places (slot_at heap to) (Some hole)) to entry row
  carries_step to inside differ =
      let other = slot_at heap to in
      let apart : other ≢ entry.slot = λ e. differ (same_Some hole to (sym noted_hole ∙ ap (place_of (set places entry.slot (Some hole))) (sym e)
      ∙ noted_other to inside differ)) in
      let in_room : entry.slot < length places = carried_in_room in
      let other_room : other < length places = other_in_room to inside differ in
      let moved : List (Option ℕ) = set places other (Some hole) in
      let long : length moved ≡ length places = length-set places other (Some hole) in
      let notes : AreNoted (set places entry.slot (Some hole)) (set moved entry.slot (Some to)) entry.slot other hole to = record {
        apart = apart;
        was_moving = noted_hole;
        was_other = noted_other to inside differ;
        now_moving = get_or-set_same moved entry.slot (Some to) None (omega arith);
        now_other =
            get_or-set_other moved entry.slot other (Some to) None apart
            ∙ get_or-set_same places other (Some hole) None other_room;
        elsewhere = λ slot off off_other.
            get_or-set_other moved entry.slot slot (Some to) None off
            ∙ get_or-set_other places other slot (Some hole) None off_other
            ∙ sym (get_or-set_other places entry.slot slot (Some hole) None off);
      } in
      let hole_in = carries.in_heap in
      let count = length-set heap hole entry in
      let room : length (set moved entry.slot (Some to)) ≡ length (set places entry.slot (Some hole)) =
      length-set moved entry.slot (Some to) ∙ long
      ∙ sym (length-set places entry.slot (Some hole)) in
      let slots = exchanged (λ e. e.slot) heap hole to entry hole_in inside differ in
      let times = exchanged (λ e. e.expiry) heap hole to entry hole_in inside differ in
      record {
        in_heap = omega (arith, length-set heap hole (get_or heap to no_entry));
        agrees =
            agreed _ _ _ _ hole to entry.slot other (omega arith) (omega arith) differ
            (length-stepped heap hole to entry) room slots times notes carries.agrees;
        same =
            same _ _ _ _ hole to entry.slot other (omega arith) (omega arith) differ
            (length-stepped heap hole to entry) room slots times notes carries.agrees
            ∙ carries.same;
      }
