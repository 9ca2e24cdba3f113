-- Which cells hold a slot, by their heads.
use Rattle.std.proofs.Common.{◌≡◌, ℕ, List, Option, Some, None, MatchOption, sym, ◌∙◌}
use Rattle.std.proofs.lemmas.Option.{none-some}
use Rattle.rb_wheel.specs.declared.node.Node.{Node}
use Rattle.rb_wheel.specs.Lists.{Slots, cell_at, IsVacant}
use Rattle.rb_wheel.specs.WheelLinks.{head_at, slots_of, AreSoundLists}
use Rattle.rb_wheel.proofs.Members.{met}
use Rattle.rb_wheel.proofs.Viewed.{cell_at-viewed}

module _ (heads : List (Option ℕ)) (nodes : List Node) (slots : Slots)
    (sound : AreSoundLists heads nodes) (view : slots_of nodes ≡ slots) where
  -- a cell with no first slot holds none
  pub vacant : (at : ℕ) → head_at heads at ≡ None → IsVacant slots.cells at
  vacant at none slot lies =
      let met = met _ _ _ _ sound.linked.0 sound.linked.1 at slot (sym (cell_at-viewed nodes slots view slot) ∙ lies) in
      none-some met.first (sym none ∙ met.heads)

  -- a cell's first slot lies in it
  pub holds : (at slot : ℕ) → head_at heads at ≡ Some slot → cell_at slots.cells slot ≡ Some at
  holds at slot is = cell_at-viewed nodes slots view slot ∙ sound.linked.1.head_cell at slot is

  pub first_slot : (at : ℕ) (o : Option ℕ) → head_at heads at ≡ o → MatchOption o (IsVacant slots.cells at) (λ slot. cell_at slots.cells slot ≡ Some at)
  first_slot at None is = vacant at is
  first_slot at (Some slot) is = holds at slot is
