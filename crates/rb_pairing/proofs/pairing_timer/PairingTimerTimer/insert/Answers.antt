-- The nodes have one expiry more.
use Rattle.std.proofs.Common.{◌≡◌, ◌+◌, ◌∙◌, is_some, sym, ap, arith}
use Rattle.std.specs.Prelude.{count_by}
use Rattle.rb_pairing.specs.Nodes.{expiry_of, expiries}
use Rattle.rb_pairing.proofs.Contents.{get-content, content-added, expiry_added, count-added, counted_below}
use Rattle.rb_pairing.proofs.pairing_timer.PairingTimerTimer.insert.Goals as goal
use Rattle.rb_pairing.proofs.pairing_timer.PairingTimerTimer.insert.Goals.{After-add-self}

pub add-self-requires-clause-absent : goal.add-self-requires-clause-absent
add-self-requires-clause-absent c = sym (get-content c.args.self.now.nodes c.args.slot) ∙ c.requires.absent

-- one more is counted
counted : (c : After-add-self) → count_by is_some (expiries c.add-self.new.self) ≡ count_by is_some (expiries c.args.self.now.nodes) + 1
counted c =
    count-added c.args.self.now.nodes c.add-self.new.self c.args.slot c.args.expiry c.requires.in_room c.add-self.ensures.expiries
    (sym (get-content c.args.self.now.nodes c.args.slot) ∙ c.requires.absent)

pub overflow_add-self : goal.overflow_add-self
overflow_add-self c =
    let more = counted (goal.at.overflow_add-self c).After-add-self in
    let most = counted_below c.args.self.now.nodes c.add-self.new.self c.args.slot c.args.expiry c.add-self.ensures.expiries in
    let was = c.args.self.now.counted in
    let few = c.add-self.ensures.countable in
    omega (arith, more, most, was, few)

pub invariant_of-self-clause-newest_stands : goal.invariant_of-self-clause-newest_stands
invariant_of-self-clause-newest_stands c = λ other is.
    let same : other ≡ c.args.slot = cc in
    ap is_some (ap (expiry_of c.add-self.new.self) same
    ∙ expiry_added c.args.self.now.nodes c.add-self.new.self c.args.slot c.args.expiry c.requires.in_room c.add-self.ensures.expiries)

pub invariant_of-self-clause-counted : goal.invariant_of-self-clause-counted
invariant_of-self-clause-counted c =
    ap (λ n. n + 1) c.args.self.now.counted ∙ sym (counted (goal.at.invariant_of-self-clause-counted c).After-add-self)

pub returns-clause-content : goal.returns-clause-content
returns-clause-content c =
    content-added c.args.self.now.nodes c.add-self.new.self c.args.slot c.args.expiry c.requires.in_room c.add-self.ensures.expiries
