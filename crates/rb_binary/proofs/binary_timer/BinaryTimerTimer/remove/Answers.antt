-- The slot's noted place is where its entry lies; the last entry moves there, and is noted there.
use Rattle.std.proofs.Common.{rules, ◌≡◌, Some, None, is_some, ap, ◌∙◌, arith}
use Rattle.std.proofs.lemmas.List.{get_or_read}
use Rattle.std.specs.FinMap as map
use Rattle.std.specs.Prelude.{slice_set}
use Rattle.rb_timer.specs.Slots.{content_of}
use Rattle.rb_binary.specs.Layout.{place_of, expiries}
use Rattle.rb_binary.specs.Room.{in_room_of_content}
use Rattle.rb_binary.proofs.Contents.{place_of-present, noted_from_read, get-content_read}
use Rattle.rb_binary.proofs.Expiries.{written_back}
use Rattle.rb_binary.proofs.Removals.{TakesEntry, takes_out, inner_put, inner_row, last_agrees, last_row, content_of-taken}
use Rattle.rb_binary.proofs.binary_timer.BinaryTimerTimer.remove.Goals as goal
use Rattle.rb_binary.proofs.binary_timer.BinaryTimerTimer.remove.Goals.{After-unwrap-place, After-swap_remove-removed}

noted : (c : After-unwrap-place) → place_of c.args.self.now.places.items c.args.slot ≡ Some c.unwrap-place.result
noted c =
    let timer = c.args.self.now in
    noted_from_read timer.heap.items timer.places.items c.args.slot c.unwrap-place.result _ _ c.requires c.index_mut.ensures.value c.take.ensures.value c.unwrap-place.ensures

takes_entry : (c : After-swap_remove-removed)
    → TakesEntry c.args.self.now.heap.items c.swap_remove-removed.new.self.items c.args.self.now.places.items c.args.slot c.unwrap-place.result
takes_entry c =
    let timer = c.args.self.now in
    record {
      agrees = timer.agrees;
      noted = noted (goal.at.After-swap_remove-removed c).After-unwrap-place;
      takes = takes_out timer.heap.items c.swap_remove-removed.new.self.items c.unwrap-place.result _ (omega arith) (omega arith) c.swap_remove-removed.ensures.by_index;
    }

-- what comes back is the slot's expiry
removed_expiry : (c : After-swap_remove-removed)
    → map.get (content_of (expiries c.args.self.now.heap.items c.args.self.now.places.items)) c.args.slot ≡ Some c.swap_remove-removed.result.expiry
removed_expiry c =
    let timer = c.args.self.now in
    get-content_read timer.heap.items timer.places.items c.args.slot c.unwrap-place.result c.swap_remove-removed.result timer.agrees
    (noted (goal.at.After-swap_remove-removed c).After-unwrap-place) c.swap_remove-removed.ensures.value

pub index_mut-requires : goal.index_mut-requires
index_mut-requires c =
    let timer = c.args.self.now in
    let within = in_room_of_content timer.heap.items timer.places.items c.args.slot c.requires in
    search rules

pub unwrap-place-requires : goal.unwrap-place-requires
unwrap-place-requires c =
    let timer = c.args.self.now in
    let within = in_room_of_content timer.heap.items timer.places.items c.args.slot c.requires in
    let read = get_or_read timer.places.items c.args.slot c.index_mut.result.now within c.index_mut.ensures.value None in
    ap is_some (c.take.ensures.value ∙ read) ∙ place_of-present timer.heap.items timer.places.items c.args.slot c.requires

pub swap_remove-removed-requires : goal.swap_remove-removed-requires
swap_remove-removed-requires c =
    let within = c.args.self.now.agrees.in_heap c.args.slot c.unwrap-place.result (noted (goal.at.swap_remove-removed-requires c).After-unwrap-place) in
    omega arith

pub sift-requires-clause-put : goal.sift-requires-clause-put
sift-requires-clause-put c =
    rw (c.deref_mut.ensures.value, c.deref_mut-then-place-len.ensures.value, c.take.ensures.after)
    (inner_put (takes_entry (goal.at.sift-requires-clause-put c).After-swap_remove-removed) (omega arith))

pub invariant_of-self-else-place-len-clause-agrees : goal.invariant_of-self-else-place-len-clause-agrees
invariant_of-self-else-place-len-clause-agrees c =
    rw c.take.ensures.after (last_agrees (takes_entry (goal.at.invariant_of-self-else-place-len-clause-agrees c).After-swap_remove-removed) (omega arith))

pub returns-then-place-len-clause-value : goal.returns-then-place-len-clause-value
returns-then-place-len-clause-value c = removed_expiry (goal.at.returns-then-place-len-clause-value c).After-swap_remove-removed

pub returns-then-place-len-clause-content : goal.returns-then-place-len-clause-content
returns-then-place-len-clause-content c =
    let takes = takes_entry (goal.at.returns-then-place-len-clause-content c).After-swap_remove-removed in
    let sifted = rw (c.deref_mut.ensures.value, c.deref_mut-then-place-len.ensures.value, c.take.ensures.after) at c.sift.ensures.same in
    let heap_back = written_back c.swap_remove-removed.new.self.len c.sift.new.heap c.swap_remove-removed.new.self.items (omega arith) in
    let places_back = written_back c.args.self.now.places.len c.sift.new.places (slice_set c.args.self.now.places.items c.args.slot c.take.new.self) (omega arith) in
    rw (heap_back, places_back) (content_of-taken takes _ (sifted ∙ inner_row takes (omega arith)))

pub returns-else-place-len-clause-value : goal.returns-else-place-len-clause-value
returns-else-place-len-clause-value c = removed_expiry (goal.at.returns-else-place-len-clause-value c).After-swap_remove-removed

pub returns-else-place-len-clause-content : goal.returns-else-place-len-clause-content
returns-else-place-len-clause-content c =
    let takes = takes_entry (goal.at.returns-else-place-len-clause-content c).After-swap_remove-removed in
    rw c.take.ensures.after (content_of-taken takes _ (last_row takes (omega arith)))
