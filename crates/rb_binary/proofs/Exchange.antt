-- One entry moves from `hole` to `to`, and the entry that was there to `hole`.
use Rattle.std.proofs.Common.{◌≡◌, ℕ, ◌<◌, ◌≢◌, List, length, get_or, set, sym, ap, ◌∙◌, arith, get_or-set_same, get_or-set_other, length-set}
use Rattle.rb_binary.specs.declared.heap.Entry.{Entry}
use Rattle.rb_binary.specs.Layout.{no_entry}

-- the heap after the step: before it, it is `set heap hole entry`
abbrev pub stepped : List Entry → ℕ → ℕ → Entry → List Entry
stepped heap hole to entry = set (set heap hole (get_or heap to no_entry)) to entry

-- the values at two places are exchanged
pub record AreExchanged (old new : ℕ → ℕ) (hole to : ℕ) : Type 0 where
  pub at_hole : new hole ≡ old to
  pub at_to : new to ≡ old hole
  pub elsewhere : (place : ℕ) → place ≢ hole → place ≢ to → new place ≡ old place

pub length-stepped : (heap : List Entry) (hole to : ℕ) (entry : Entry)
    → length (stepped heap hole to entry) ≡ length (set heap hole entry)
length-stepped heap hole to entry =
    length-set (set heap hole (get_or heap to no_entry)) to entry
    ∙ length-set heap hole (get_or heap to no_entry) ∙ sym (length-set heap hole entry)

-- what an entry shows, as its slot or its expiry
module _ (shown : Entry → ℕ) where
  abbrev at : List Entry → ℕ → ℕ
  at heap place = shown (get_or heap place no_entry)

  pub shown-set_same : (heap : List Entry) (place : ℕ) (entry : Entry) → place < length heap
      → at (set heap place entry) place ≡ shown entry
  shown-set_same heap place entry within =
      ap shown (get_or-set_same heap place entry no_entry within)

  pub shown-set_other : (heap : List Entry) (place other : ℕ) (entry : Entry) → other ≢ place
      → at (set heap place entry) other ≡ at heap other
  shown-set_other heap place other entry apart =
      ap shown (get_or-set_other heap place other entry no_entry apart)

  pub exchanged : (heap : List Entry) (hole to : ℕ) (entry : Entry) → hole < length heap
      → to < length heap → hole ≢ to
      → AreExchanged (at (set heap hole entry)) (at (stepped heap hole to entry)) hole to
  exchanged heap hole to entry hole_in to_in apart =
      let moved : List Entry = set heap hole (get_or heap to no_entry) in
      let inside : to < length moved = omega (arith, length-set heap hole (get_or heap to no_entry)) in
      let back : to ≢ hole = λ e. apart (sym e) in
      record {
        at_hole =
            shown-set_other moved to hole entry apart ∙ shown-set_same heap hole _ hole_in
            ∙ sym (shown-set_other heap hole to entry back);
        at_to = shown-set_same moved to entry inside ∙ sym (shown-set_same heap hole entry hole_in);
        elsewhere = λ place off_hole off_to.
            shown-set_other moved to place entry off_to ∙ shown-set_other heap hole place _ off_hole
            ∙ sym (shown-set_other heap hole place entry off_hole);
      }
