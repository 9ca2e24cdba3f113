-- The place that is read is the slot's, and the heap has its expiry there.
use Rattle.std.proofs.Common.{◌≡◌, Some, sym, arith}
use Rattle.std.proofs.lemmas.Grind.{common_steps}
use Rattle.std.proofs.lemmas.Option.{gets}
use Rattle.rb_binary.specs.Layout.{place_of}
use Rattle.rb_binary.proofs.Contents.{get-content, get-content_read}
use Rattle.rb_binary.proofs.binary_timer.BinaryTimerTimer.get.Goals as goal
use Rattle.rb_binary.proofs.binary_timer.BinaryTimerTimer.get.Goals.{In_ok-place}

noted : (c : In_ok-place) → place_of c.args.self.now.places.items c.args.slot ≡ Some c.in_ok-place.place
noted c = grind (arith, common_steps, gets, c.in_ok-place.was)

pub returns-in_err-get : goal.returns-in_err-get
returns-in_err-get c = grind (arith, common_steps, gets, get-content c.args.self.now.heap.items c.args.self.now.places.items c.args.slot, c.in_err-get.was)

pub returns-in_err-place : goal.returns-in_err-place
returns-in_err-place c = grind (arith, common_steps, gets, get-content c.args.self.now.heap.items c.args.self.now.places.items c.args.slot, c.in_err-place.was)

pub index-requires : goal.index-requires
index-requires c =
    let within = c.args.self.now.agrees.in_heap c.args.slot c.in_ok-place.place (noted (goal.at.index-requires c).In_ok-place) in
    omega arith

pub returns : goal.returns
returns c =
    let timer = c.args.self.now in
    sym (get-content_read timer.heap.items timer.places.items c.args.slot c.in_ok-place.place c.index.result.now timer.agrees (noted (goal.at.returns c).In_ok-place) c.index.ensures)
