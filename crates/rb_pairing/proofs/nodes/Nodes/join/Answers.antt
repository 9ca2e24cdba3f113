-- Both neighbours have an entry, and neither is under the other.
use Rattle.std.proofs.Common.{◌<◌, ◌≤◌, ◌∙◌, is_some, ap, length, inl, inr, refl, arith}
use Rattle.rb_pairing.specs.Nodes.{moment_of}
use Rattle.rb_pairing.proofs.Expiries.{same_expiry, same_length}
use Rattle.rb_pairing.proofs.InRoom.{in_room-next}
use Rattle.rb_pairing.proofs.Linked.{next_within, next_present, left_present, not_under_left, not_under_right, bypassed_apart, bypassed_first}
use Rattle.rb_pairing.proofs.Steps.{moves}
use Rattle.rb_pairing.proofs.nodes.Nodes.join.Goals as goal

pub is_earlier-requires-clause-right : goal.is_earlier-requires-clause-right
is_earlier-requires-clause-right c =
    next_present c.args.self.now c.requires.linked c.args.left c.args.right c.requires.neighbours

pub is_earlier-requires-clause-left : goal.is_earlier-requires-clause-left
is_earlier-requires-clause-left c =
    left_present c.args.self.now c.requires.linked c.args.left c.args.right c.requires.neighbours

pub bypass-requires-else-is_earlier-clause-in_room : goal.bypass-requires-else-is_earlier-clause-in_room
bypass-requires-else-is_earlier-clause-in_room c =
    next_within c.args.self.now c.requires.linked c.args.left c.args.right c.requires.neighbours

pub adopt-requires-clause-present : goal.adopt-requires-clause-present
adopt-requires-clause-present c =
    ap is_some (same_expiry c.args.self.now c.bypass.new.self c.bypass.ensures.expiries c.args.right)
    ∙ next_present c.args.self.now c.requires.linked c.args.left c.args.right c.requires.neighbours

pub adopt-requires-clause-first : goal.adopt-requires-clause-first
adopt-requires-clause-first c other is =
    bypassed_first c.args.self.now c.bypass.new.self c.requires.linked c.args.left c.args.right c.bypass.ensures
    (not_under_right c.args.self.now c.requires.linked c.args.left c.args.right c.requires.neighbours) other is

pub adopt-requires-clause-apart : goal.adopt-requires-clause-apart
adopt-requires-clause-apart c =
    bypassed_apart c.args.self.now c.bypass.new.self c.requires.linked c.args.left c.args.right c.bypass.ensures
    (not_under_right c.args.self.now c.requires.linked c.args.left c.args.right c.requires.neighbours)

pub adopt-requires-clause-in_room : goal.adopt-requires-clause-in_room
adopt-requires-clause-in_room c =
    omega (
      arith,
      in_room-next c.args.self.now c.args.left c.args.right c.requires.neighbours,
      same_length c.args.self.now c.bypass.new.self c.bypass.ensures.expiries,
    )

pub adopt-requires-else-is_earlier-clause-in_room : goal.adopt-requires-else-is_earlier-clause-in_room
adopt-requires-else-is_earlier-clause-in_room c =
    omega (
      arith,
      next_within c.args.self.now c.requires.linked c.args.left c.args.right c.requires.neighbours,
      same_length c.args.self.now c.bypass-else-is_earlier.new.self c.bypass-else-is_earlier.ensures.expiries,
    )

pub adopt-requires-else-is_earlier-clause-present : goal.adopt-requires-else-is_earlier-clause-present
adopt-requires-else-is_earlier-clause-present c =
    ap is_some (same_expiry c.args.self.now c.bypass-else-is_earlier.new.self c.bypass-else-is_earlier.ensures.expiries c.args.left)
    ∙ left_present c.args.self.now c.requires.linked c.args.left c.args.right c.requires.neighbours

pub adopt-requires-else-is_earlier-clause-first : goal.adopt-requires-else-is_earlier-clause-first
adopt-requires-else-is_earlier-clause-first c other is =
    bypassed_first c.args.self.now c.bypass-else-is_earlier.new.self c.requires.linked c.args.right c.args.left
    c.bypass-else-is_earlier.ensures
    (not_under_left c.args.self.now c.requires.linked c.args.left c.args.right c.requires.neighbours) other is

pub adopt-requires-else-is_earlier-clause-apart : goal.adopt-requires-else-is_earlier-clause-apart
adopt-requires-else-is_earlier-clause-apart c =
    bypassed_apart c.args.self.now c.bypass-else-is_earlier.new.self c.requires.linked c.args.right c.args.left
    c.bypass-else-is_earlier.ensures
    (not_under_left c.args.self.now c.requires.linked c.args.left c.args.right c.requires.neighbours)

pub returns-then-is_earlier : goal.returns-then-is_earlier
returns-then-is_earlier c =
    let less : moment_of c.args.self.now c.args.right < moment_of c.args.self.now c.args.left =
    c.is_earlier.ensures.0 c.if-is_earlier.true in
    let within = in_room-next c.args.self.now c.args.left c.args.right c.requires.neighbours in
    let long = same_length c.args.self.now c.bypass.new.self c.bypass.ensures.expiries in
    inr (
      refl,
      moves c.args.self.now c.bypass.new.self c.adopt.new.self c.args.right c.args.left c.requires.linked
          (omega (arith, less, within, long)) (omega (arith, less, within, long)) c.bypass.ensures c.adopt.ensures,
    )

pub returns-else-is_earlier : goal.returns-else-is_earlier
returns-else-is_earlier c =
    let less : moment_of c.args.self.now c.args.left ≤ moment_of c.args.self.now c.args.right =
    grind (arith, c.is_earlier.ensures.1, c.if-is_earlier.false) in
    let within : c.args.right < length c.args.self.now =
    next_within c.args.self.now c.requires.linked c.args.left c.args.right c.requires.neighbours in
    let long = same_length c.args.self.now c.bypass-else-is_earlier.new.self c.bypass-else-is_earlier.ensures.expiries in
    inl (
      refl,
      moves c.args.self.now c.bypass-else-is_earlier.new.self c.adopt-else-is_earlier.new.self c.args.left
          c.args.right c.requires.linked less (omega (arith, within, long)) c.bypass-else-is_earlier.ensures c.adopt-else-is_earlier.ensures,
    )
