-- The slot's node has no expiry, and all else as before.
use Rattle.std.proofs.Common.{None, false, refl}
use Rattle.rb_wheel.proofs.EntryWrites.{slots_written, sound_written}
use Rattle.rb_wheel.proofs.Viewed.{in_room_expiry}
use Rattle.rb_wheel.proofs.lists.Lists.vacate.Goals as goal

pub invariant_of-self : goal.invariant_of-self
invariant_of-self c =
    let lists = c.self.inside in
    let read = c.index_mut-node.result.now in
    let within = in_room_expiry lists.nodes.items c.args.self.now c.self.view_is c.args.slot c.requires in
    sound_written lists.nodes.items c.args.slot read (record read { is_taken = false }) within
    c.index_mut-node.ensures.value refl refl refl lists.heads.items c.self.invariant

pub returns-clause-left : goal.returns-clause-left
returns-clause-left c =
    let lists = c.self.inside in
    let read = c.index_mut-node.result.now in
    let within = in_room_expiry lists.nodes.items c.args.self.now c.self.view_is c.args.slot c.requires in
    slots_written lists.nodes.items c.args.slot read (record read { is_taken = false }) within
    c.index_mut-node.ensures.value refl refl refl c.args.self.now c.self.view_is None refl
