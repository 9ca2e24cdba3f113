-- The slot with the new entry stands alone, and is hung under the newest or made one with the tree.
use Rattle.std.proofs.Common.{◌≡◌, ℕ, ◌≤◌, Some, refl, ap, ◌∙◌, arith}
use Rattle.std.proofs.Math.ListN.{set}
use Rattle.rb_pairing.specs.Nodes.{moment_of, expiries}
use Rattle.rb_pairing.specs.Forest.{LieAsTrees, IsTop}
use Rattle.rb_pairing.proofs.Additions.{free, added_linked, root_apart, root_top, slot_top, none_else, above_present, hung_tree}
use Rattle.rb_pairing.proofs.Contents.{melded_tree}
use Rattle.rb_pairing.proofs.Entries.{expiries-written}
use Rattle.rb_pairing.proofs.Linked.{child_within, not_child}
use Rattle.rb_pairing.proofs.nodes.Nodes.add.Goals as goal
use Rattle.rb_pairing.proofs.nodes.Nodes.add.Goals.{After-occupy}

pub occupy-requires-clause-child : goal.occupy-requires-clause-child
occupy-requires-clause-child c =
    (free c.args.self.now c.args.slot c.args.expiry c.args.root c.requires.tree c.requires.in_room
    c.requires.absent).child

-- the nodes with the new entry
module _ (c : After-occupy) where
  linked : LieAsTrees c.occupy.new.self
  linked = rw c.occupy.ensures.put
      (added_linked c.args.self.now c.args.slot c.args.expiry c.args.root c.requires.tree c.requires.in_room c.requires.absent)

  top : (other : ℕ) → Some c.args.slot ≡ Some other → IsTop c.occupy.new.self other
  top = rw c.occupy.ensures.put
      (slot_top c.args.self.now c.args.slot c.args.expiry c.args.root c.requires.tree c.requires.in_room c.requires.absent)

  row : expiries c.occupy.new.self ≡ set (expiries c.args.self.now) c.args.slot (Some c.args.expiry)
  row = ap expiries c.occupy.ensures.put ∙ expiries-written c.args.self.now c.args.slot (Some c.args.expiry) c.requires.in_room

pub is_earlier-requires-clause-right : goal.is_earlier-requires-clause-right
is_earlier-requires-clause-right c =
    (top (goal.at.is_earlier-requires-clause-right c).After-occupy c.args.slot refl).present

pub is_earlier-requires-clause-left : goal.is_earlier-requires-clause-left
is_earlier-requires-clause-left c =
    rw c.occupy.ensures.put
    (above_present c.args.self.now c.args.slot c.args.expiry c.args.root c.requires.tree c.requires.in_room
    c.requires.absent c.in-Some.above (c.requires.newest c.in-Some.above c.in-Some.is))

pub adopt-requires-clause-first : goal.adopt-requires-clause-first
adopt-requires-clause-first c =
    child_within c.occupy.new.self (linked (goal.at.adopt-requires-clause-first c).After-occupy) c.in-Some.above

pub adopt-requires-clause-apart : goal.adopt-requires-clause-apart
adopt-requires-clause-apart c =
    let now = (goal.at.adopt-requires-clause-apart c).After-occupy in
    not_child c.occupy.new.self (linked now) c.in-Some.above c.args.slot (top now c.args.slot refl).alone

pub returns-clause-tree : goal.returns-clause-tree
returns-clause-tree c =
    let ordered : moment_of c.occupy.new.self c.in-Some.above ≤ moment_of c.occupy.new.self c.args.slot =
    grind (arith, c.is_earlier.ensures.1, c.if-not-is_earlier) in
    hung_tree c.args.self.now c.args.slot c.args.expiry c.args.root c.requires.tree c.requires.in_room
    c.requires.absent c.in-Some.above (c.requires.newest c.in-Some.above c.in-Some.is) c.adopt.new.self
    (rw c.occupy.ensures.put at ordered) (rw c.occupy.ensures.put at c.adopt.ensures)

pub returns-clause-expiries : goal.returns-clause-expiries
returns-clause-expiries c = c.adopt.ensures.expiries ∙ row (goal.at.returns-clause-expiries c).After-occupy

pub meld-requires-clause-linked : goal.meld-requires-clause-linked
meld-requires-clause-linked c = linked (goal.at.meld-requires-clause-linked c).After-occupy

pub meld-requires-clause-one : goal.meld-requires-clause-one
meld-requires-clause-one c =
    rw c.occupy.ensures.put
    (root_top c.args.self.now c.args.slot c.args.expiry c.args.root c.requires.tree c.requires.in_room c.requires.absent)

pub meld-requires-clause-other : goal.meld-requires-clause-other
meld-requires-clause-other c = top (goal.at.meld-requires-clause-other c).After-occupy

pub meld-requires-clause-apart : goal.meld-requires-clause-apart
meld-requires-clause-apart c other is also =
    root_apart c.args.self.now c.args.slot c.args.expiry c.args.root c.requires.tree c.requires.in_room
    c.requires.absent other is (cc)

pub returns-2-clause-tree : goal.returns-2-clause-tree
returns-2-clause-tree c =
    melded_tree _ _ _ _ _ c.meld.ensures
    (rw c.occupy.ensures.put
    (none_else c.args.self.now c.args.slot c.args.expiry c.args.root c.requires.tree c.requires.in_room c.requires.absent))

pub returns-2-clause-expiries : goal.returns-2-clause-expiries
returns-2-clause-expiries c = c.meld.ensures.expiries ∙ row (goal.at.returns-2-clause-expiries c).After-occupy
