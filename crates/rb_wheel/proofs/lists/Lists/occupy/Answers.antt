-- The slot's node has the expiry, and all else as before.
use Rattle.std.proofs.Common.{Some, true, refl, arith}
use Rattle.rb_wheel.proofs.EntryWrites.{slots_written, sound_written}
use Rattle.rb_wheel.proofs.Viewed.{length-expiries}
use Rattle.rb_wheel.proofs.lists.Lists.occupy.Goals as goal

pub invariant_of-self : goal.invariant_of-self
invariant_of-self c =
    let lists = c.self.inside in
    let read = c.index_mut-node.result.now in
    let room = length-expiries lists.nodes.items c.args.self.now c.self.view_is in
    sound_written lists.nodes.items c.args.slot read (record read { expiry = c.args.expiry; is_taken = true }) (omega arith)
    c.index_mut-node.ensures.value refl refl refl lists.heads.items c.self.invariant

pub returns-clause-noted : goal.returns-clause-noted
returns-clause-noted c =
    let lists = c.self.inside in
    let read = c.index_mut-node.result.now in
    let room = length-expiries lists.nodes.items c.args.self.now c.self.view_is in
    slots_written lists.nodes.items c.args.slot read (record read { expiry = c.args.expiry; is_taken = true }) (omega arith)
    c.index_mut-node.ensures.value refl refl refl c.args.self.now c.self.view_is (Some c.args.expiry) refl
