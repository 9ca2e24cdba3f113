-- The bytes are gathered behind what was handed on, or behind what was gathered before.
use Rattle.std.proofs.Common.{◌≡◌, ◌++◌, [], refl, rules}
use Rattle.rb_history.proofs.Outlets.{grows_then, grows_more}
use Rattle.rb_history.proofs.outlet.Outlet.push.Goals as goal

pub returns : goal.returns
returns g c =
    let more : c.extend_from_slice.new.self.items ≡ c.make_room.new.self.gathered.items ++ c.args.bytes.now = search rules in
    grows_then g.W.Write c.args.self.now c.make_room.new.self _ [] c.args.bytes.now c.make_room.ensures.grows
    (grows_more g.W.Write c.make_room.new.self _ c.args.bytes.now refl refl more)
