-- The nodes have one expiry less.
use Rattle.std.proofs.Common.{◌≡◌, ◌+◌, ◌∙◌, Some, is_some, sym, ap, arith}
use Rattle.std.specs.Prelude.{count_by}
use Rattle.rb_pairing.specs.Nodes.{expiries}
use Rattle.rb_pairing.proofs.Contents.{get-content, present-content, expiry_is, content-removed, expiry_kept, count-removed}
use Rattle.rb_pairing.proofs.InRoom.{in_room-expiry}
use Rattle.rb_pairing.proofs.pairing_timer.PairingTimerTimer.remove.Goals as goal
use Rattle.rb_pairing.proofs.pairing_timer.PairingTimerTimer.remove.Goals.{After-take_out-self}

pub moment-expiry-requires : goal.moment-expiry-requires
moment-expiry-requires c = present-content c.args.self.now.nodes c.args.slot c.requires

pub newest_but-self-requires-clause-in_room : goal.newest_but-self-requires-clause-in_room
newest_but-self-requires-clause-in_room c =
    in_room-expiry c.args.self.now.nodes c.args.slot (present-content c.args.self.now.nodes c.args.slot c.requires)

pub take_out-self-requires-clause-in_room : goal.take_out-self-requires-clause-in_room
take_out-self-requires-clause-in_room c =
    in_room-expiry c.args.self.now.nodes c.args.slot (present-content c.args.self.now.nodes c.args.slot c.requires)

pub take_out-self-requires-clause-present : goal.take_out-self-requires-clause-present
take_out-self-requires-clause-present c = present-content c.args.self.now.nodes c.args.slot c.requires

-- one less is counted
counted : (c : After-take_out-self) → count_by is_some (expiries c.take_out-self.new.self) + 1 ≡ count_by is_some (expiries c.args.self.now.nodes)
counted c =
    count-removed c.args.self.now.nodes c.take_out-self.new.self c.args.slot
    (present-content c.args.self.now.nodes c.args.slot c.requires) c.take_out-self.ensures.expiries

pub overflow_sub-self : goal.overflow_sub-self
overflow_sub-self c =
    let was = c.args.self.now.counted in
    omega (arith, was, counted (goal.at.overflow_sub-self c).After-take_out-self)

pub invariant_of-self-clause-newest_stands : goal.invariant_of-self-clause-newest_stands
invariant_of-self-clause-newest_stands c = λ other is.
    ap is_some (expiry_kept c.args.self.now.nodes c.take_out-self.new.self c.args.slot
    (present-content c.args.self.now.nodes c.args.slot c.requires) c.take_out-self.ensures.expiries other
    (λ same. c.newest_but-self.ensures.apart (is ∙ ap Some same)))
    ∙ c.newest_but-self.ensures.entry other is

pub invariant_of-self-clause-counted : goal.invariant_of-self-clause-counted
invariant_of-self-clause-counted c =
    let was = c.args.self.now.counted in
    omega (arith, was, counted (goal.at.invariant_of-self-clause-counted c).After-take_out-self)

pub returns-clause-value : goal.returns-clause-value
returns-clause-value c =
    get-content c.args.self.now.nodes c.args.slot
    ∙ expiry_is c.args.self.now.nodes c.args.slot (present-content c.args.self.now.nodes c.args.slot c.requires)
    ∙ ap Some (sym c.moment-expiry.ensures)

pub returns-clause-content : goal.returns-clause-content
returns-clause-content c =
    content-removed c.args.self.now.nodes c.take_out-self.new.self c.args.slot
    (present-content c.args.self.now.nodes c.args.slot c.requires) c.take_out-self.ensures.expiries
