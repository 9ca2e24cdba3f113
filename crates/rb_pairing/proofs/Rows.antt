-- A row while its entries are joined.
use Rattle.std.proofs.Common.{◌≡◌, ℕ, ◌+◌, ◌<◌, ◌≤◌, ◌≢◌, List, length, Some, is_some, refl, sym, ap, ◌∙◌, arith}
use Rattle.std.proofs.Math.Logic.{∥∥₁_elim, ∥∥₁_map}
use Rattle.std.proofs.Props.{props}
use Rattle.rb_pairing.specs.declared.node.Node.{Node}
use Rattle.rb_pairing.specs.Nodes.{child_of, next_of, previous_of}
use Rattle.rb_pairing.specs.Forest.{Forest, LieAsTrees, Row}
use Rattle.rb_pairing.specs.Changes.{Joins, Relinks}
use Rattle.rb_pairing.proofs.Expiries.{same_length}
use Rattle.rb_pairing.proofs.InRoom.{in_room-row}
use Rattle.rb_pairing.proofs.Neighbours.{Joined, joined}

-- an entry of the row under `parent` with at least `count` ranks below its own
pub record RankFrom (nodes : List Node) (parent slot count : ℕ) : Type 0 where
  pub row : Row nodes parent slot
  pub risen : count ≤ row.forest.rank slot

-- an entry of the row under `parent` with at least `count` ranks above its own
pub record RankTo (nodes : List Node) (parent slot count : ℕ) : Type 0 where
  pub row : Row nodes parent slot
  pub sunk : row.forest.rank slot + count < length nodes

-- nothing is joined yet
pub relinks_none : (nodes : List Node) → LieAsTrees nodes → Relinks nodes nodes
relinks_none nodes linked = record {
  linked = linked;
  expiries = refl;
  tops = λ slot. refl;
}

-- what was joined before, and what is joined now
pub relinks_more : (old between new : List Node) → Relinks old between → Relinks between new
    → Relinks old new
relinks_more old between new before now = record {
  linked = now.linked;
  expiries = now.expiries ∙ before.expiries;
  tops = λ slot. now.tops slot ∙ before.tops slot;
}

-- the first entry of a row
pub row_of_child : (nodes : List Node) (parent child : ℕ) → Forest nodes
    → child_of nodes parent ≡ Some child → Row nodes parent child
row_of_child nodes parent child forest is = record {
  forest = forest;
  under = forest.is_forest.first parent child is;
  in_row = ap is_some (forest.is_forest.child_back parent child is);
}

module _ (nodes : List Node) (parent slot : ℕ) (row : Row nodes parent slot) where
  -- its rank is one of the room
  pub rank_within : row.forest.rank slot < length nodes
  rank_within = row.forest.is_forest.in_room slot (in_room-row nodes slot row.in_row)

  -- it is the first of its row, or stands behind another
  pub neighbour : (left : ℕ) → previous_of nodes slot ≡ Some left
      → child_of nodes parent ≢ Some slot → next_of nodes left ≡ Some slot
  neighbour left back not_first =
      row.forest.is_forest.linked slot left back
      (λ child. let same : left ≡ parent = sym (row.forest.is_forest.first left slot child) ∙ row.under in
      not_first (sym (ap (child_of nodes) same) ∙ child))

-- a slot in a row is in the room
pub row_within : (nodes : List Node) (parent slot : ℕ) → Row nodes parent slot → slot < length nodes
row_within nodes parent slot row = in_room-row nodes slot row.in_row

-- no rank is past the room
pub rank_past : (nodes : List Node) (parent slot : ℕ) → RankFrom nodes parent slot (length nodes) → ⊥
rank_past nodes parent slot from =
    let within = rank_within nodes parent slot from.row in
    let risen = from.risen in absurd (omega arith)

module _ (old new : List Node) (left right stays : ℕ) (neighbours : next_of old left ≡ Some right)
    (joins : Joins old new left right stays) where
  abbrev join : (forest : Forest old) → Joined old new forest.parent forest.rank left right stays
  join forest =
      joined old new left right stays forest.parent forest.rank forest.is_forest neighbours joins

  abbrev after : Forest old → Forest new
  after forest =
      let now = join forest in
      record { parent = now.parents; rank = now.ranks; is_forest = now.forest }

  pub relinks_join : LieAsTrees old → Relinks old new
  relinks_join linked = record {
    linked = ∥∥₁_map linked after;
    expiries = ∥∥₁_elim linked (hlevel props) (λ forest. (join forest).expiries);
    tops = λ slot. ∥∥₁_elim linked (hlevel props) (λ forest. (join forest).tops slot);
  }

  -- what was behind the two is behind the one
  pub next_join : LieAsTrees old → next_of new stays ≡ next_of old right
  next_join linked = ∥∥₁_elim linked (hlevel props) (λ forest. (join forest).next)

  module _ (parent count : ℕ) where
    -- the one that stays is in the row
    pub row_stays : Row old parent left → Row new parent stays
    row_stays row =
        let now = join row.forest in
        record { forest = after row.forest; under = now.under ∙ row.under; in_row = now.in_row }

    -- what is behind it has two ranks more below it
    pub rank_from : (next : ℕ) → next_of new stays ≡ Some next → RankFrom old parent left count
        → RankFrom new parent next (count + 1)
    rank_from next is from =
        let now = join from.row.forest in
        let forest = from.row.forest.is_forest in
        let behind : next_of old right ≡ Some next = sym now.next ∙ is in
        let low = forest.rises right left (forest.next_back left right neighbours) in
        let high = forest.rises next right (forest.next_back right next behind) in
        let risen = from.risen in
        record {
          row = record {
            forest = after from.row.forest;
            under = now.beyond_under next high ∙ forest.row right next behind
                ∙ forest.row left right neighbours ∙ from.row.under;
            in_row = ap is_some (now.forest.next_back stays next is);
          };
          risen = omega (arith, now.beyond next high);
        }

    -- the one that stays has one rank more above it
    pub rank_to : RankTo old parent right count → RankTo new parent stays (count + 1)
    rank_to to =
        let now = join to.row.forest in
        let forest = to.row.forest.is_forest in
        let low = forest.rises right left (forest.next_back left right neighbours) in
        let long = same_length old new now.expiries in
        let sunk = to.sunk in
        record {
          row = record {
            forest = after to.row.forest;
            under = now.under ∙ sym (forest.row left right neighbours) ∙ to.row.under;
            in_row = now.in_row;
          };
          sunk = omega (arith, now.rank_stays);
        }
