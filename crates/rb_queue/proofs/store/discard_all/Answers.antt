-- The last id leaves with its element, until none is left; or slots and directory are emptied alike.
use Rattle.std.proofs.Common.{◌≡◌, ◌<◌, ℕ, zero, suc, [], Some, None, is_some, refl, sym, ap, ◌∙◌, arith}
use Rattle.std.proofs.lemmas.List.{append-nil, nil_from_length}
use Rattle.std.specs.Prelude.{nat_eq}
use Rattle.std.specs.FinMap as map
use Rattle.std.specs.Map.{lookup}
use Rattle.rb_queue.specs.Filing.{slot_of}
use Rattle.rb_queue.proofs.Stores.{filed_element, filed_id, slot_of_last, sound-remove, sound_empty, sound_unlisted, updated_by}
use Rattle.rb_queue.proofs.store.discard_all.Goals as goal
use Rattle.rb_queue.proofs.store.discard_all.Goals.{In-Some}

-- the directory had the slot at the id that left it
at_id : (c : In-Some) → slot_of c.loop-slot.directory c.in-Some.field-0-0 ≡ Some c.in-Some.slot
at_id c = slot_of_last c.loop-slot.directory c.pop.new.self c.in-Some.field-0-0 c.in-Some.slot c.in-Some.ensures.entries c.in-Some.ensures.updates.0

none_left : (count : ℕ) → (0 < count → ⊥) → count ≡ 0
none_left zero none = refl
none_left (suc count) none = absurd (none (omega arith))

pub remove-requires : goal.remove-requires
remove-requires c =
    let (content, sound) = c.loop-slot.invariant in
    let (element, here, named) = filed_element _ content _ sound _ _ (at_id (goal.at.remove-requires c).In-Some) in
    ap is_some here

pub loop-slot-preserved : goal.loop-slot-preserved
loop-slot-preserved c =
    let (content, sound) = c.loop-slot.invariant in
    let named = filed_id _ content _ sound c.in-Some.field-0-0 c.in-Some.slot c.remove.result (at_id (goal.at.loop-slot-preserved c).In-Some) c.remove.ensures.value in (
      map.remove content c.in-Some.slot,
      sound-remove c.loop-slot.elements c.remove.new.self content (map.remove content c.in-Some.slot) c.loop-slot.directory c.pop.new.self
          c.in-Some.slot c.remove.result sound c.remove.ensures.value c.remove.ensures.updates refl
          (updated_by c.loop-slot.directory c.pop.new.self c.in-Some.field-0-0 c.remove.result.id None named c.in-Some.ensures.updates.0) c.remove.ensures.len,
    )

pub returns-in_default : goal.returns-in_default
returns-in_default c =
    let (content, sound) = c.loop-slot.invariant in
    let none : c.loop-slot.directory.entries ≡ [] =
    nil_from_length _ (none_left _ (λ some. let found = c.in_default.ensures.found.1 some in absurd (cc))) in
    let none_after : c.pop.new.self.entries ≡ [] = sym (append-nil c.pop.new.self.entries) ∙ sym c.in_default.ensures.entries ∙ none in
    sound_unlisted c.loop-slot.elements content c.loop-slot.directory c.pop.new.self sound
    (λ id. ap (lookup (nat_eq id)) none) (λ id. ap (lookup (nat_eq id)) none_after)

pub returns-else-clears_one_by_one : goal.returns-else-clears_one_by_one
returns-else-clears_one_by_one c =
    sound_empty c.clear.new.self map.empty c.clear-else-clears_one_by_one.new.self c.clear.ensures.empty refl
    (λ id. ap (lookup (nat_eq id)) c.clear-else-clears_one_by_one.ensures.empty)
