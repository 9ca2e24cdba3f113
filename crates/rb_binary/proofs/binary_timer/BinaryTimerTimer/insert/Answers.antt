-- The entry is put at the end of the heap, and is sifted from there.
use Rattle.std.proofs.Common.{◌≡◌, length, arith}
use Rattle.rb_binary.specs.declared.heap.Entry.{Entry}
use Rattle.rb_binary.specs.Layout.{expiries}
use Rattle.rb_binary.proofs.Expiries.{written_back}
use Rattle.rb_binary.proofs.Inserts.{room_to_push, pushed_put, content_of-pushed}
use Rattle.rb_binary.proofs.binary_timer.BinaryTimerTimer.insert.Goals as goal
use Rattle.rb_binary.proofs.binary_timer.BinaryTimerTimer.insert.Goals.{After-len-place}

abbrev entry_of : After-len-place → Entry
entry_of c = record { slot = c.args.slot; expiry = c.args.expiry }

at_end : (c : After-len-place) → c.len-place.result ≡ length c.args.self.now.heap.items
at_end c = omega arith

pub push_reserved-requires : goal.push_reserved-requires
push_reserved-requires c =
    let timer = c.args.self.now in
    let entry = entry_of (goal.at.push_reserved-requires c).After-len-place in
    let room = room_to_push timer.heap.items timer.places.items entry timer.agrees c.requires.absent c.requires.in_room in
    let reserved = timer.reserved in
    omega arith

pub sift_up-requires-clause-put : goal.sift_up-requires-clause-put
sift_up-requires-clause-put c =
    let timer = c.args.self.now in
    let place = (goal.at.sift_up-requires-clause-put c).After-len-place in
    rw (c.deref_mut.ensures.value, c.push_reserved.ensures.items, c.deref_mut-2.ensures.value, at_end place)
    (pushed_put timer.heap.items timer.places.items (entry_of place) timer.agrees c.requires.absent c.requires.in_room)

pub returns-clause-content : goal.returns-clause-content
returns-clause-content c =
    let timer = c.args.self.now in
    let place = (goal.at.returns-clause-content c).After-len-place in
    let row = rw (c.deref_mut.ensures.value, c.push_reserved.ensures.items, c.deref_mut-2.ensures.value, at_end place) at c.sift_up.ensures.same in
    let heap_back = written_back c.push_reserved.new.self.len c.sift_up.new.heap c.push_reserved.new.self.items (omega arith) in
    let places_back = written_back timer.places.len c.sift_up.new.places timer.places.items (omega arith) in
    rw (heap_back, places_back)
    (content_of-pushed timer.heap.items timer.places.items (entry_of place) timer.agrees c.requires.absent c.requires.in_room
    (expiries c.sift_up.new.heap c.sift_up.new.places) row)
