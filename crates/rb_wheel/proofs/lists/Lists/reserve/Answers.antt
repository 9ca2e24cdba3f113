-- There are heads for all cells, and vacant nodes behind the others.
use Rattle.std.proofs.Common.{◌≡◌, ◌-◌, ◌++◌, ℕ, List, Option, None, length, take, replicate, ap, ◌∙◌, arith}
use Rattle.std.proofs.lemmas.List.{take_all, map-append}
use Rattle.rb_wheel.specs.declared.node.Node.{Node}
use Rattle.rb_wheel.specs.Nodes.{vacant, node_at, expiry_of}
use Rattle.rb_wheel.specs.WheelLinks.{cells_of, expiries_of}
use Rattle.rb_wheel.proofs.Rooms.{AreSoundLists-reserved, get_or-padded, cells_of-free, expiries_of-free}
use Rattle.rb_wheel.proofs.Viewed.{length-viewed, length-expiries, cells_viewed, expiries_viewed}
use Rattle.rb_wheel.proofs.lists.Lists.reserve.Goals as goal
use Rattle.rb_wheel.proofs.lists.Lists.reserve.Goals.{In_ok-resize, In_ok-resize-2}
use Rattle.rb_wheel.specs.declared.cells.TheConstants.{CELLS}

heads_are : (c : In_ok-resize) → c.resize.new.self.items ≡ take CELLS c.self.inside.heads.items ++ replicate (CELLS - c.self.inside.heads.len) None
heads_are c =
    let heads = c.self.inside.heads in
    c.in_ok-resize.ensures.items ∙ ap (λ (o : Option ℕ). take CELLS heads.items ++ replicate (CELLS - heads.len) o) c.none.ensures

nodes_are : (c : In_ok-resize-2) → c.resize-then-wanted-len.new.self.items ≡ c.self.inside.nodes.items ++ replicate (c.args.wanted - c.self.inside.nodes.len) vacant
nodes_are c =
    let nodes = c.self.inside.nodes.items in
    let more = c.args.wanted - c.self.inside.nodes.len in
    let whole : take c.args.wanted nodes ≡ nodes = take_all c.args.wanted nodes (omega arith) in
    c.in_ok-resize-2.ensures.items ∙ ap (λ (ns : List Node). ns ++ replicate more c.vacant.result) whole
    ∙ ap (λ (node : Node). nodes ++ replicate more node) c.vacant.ensures

pub invariant_of-self-in-Continue-branch-2 : goal.invariant_of-self-in-Continue-branch-2
invariant_of-self-in-Continue-branch-2 c =
    let lists = c.self.inside in
    let nodes = lists.nodes.items in
    let few = c.self.invariant.few_heads in
    AreSoundLists-reserved lists.heads.items c.resize.new.self.items nodes c.resize-then-wanted-len.new.self.items (CELLS - lists.heads.len)
    (omega arith) (heads_are (goal.at.invariant_of-self-in-Continue-branch-2 c).In_ok-resize)
    (λ slot. ap (λ ns. node_at ns slot) (nodes_are (goal.at.invariant_of-self-in-Continue-branch-2 c).In_ok-resize-2)
    ∙ get_or-padded nodes (c.args.wanted - lists.nodes.len) slot vacant)
    c.self.invariant

pub invariant_of-self-in_err-resize-2 : goal.invariant_of-self-in_err-resize-2
invariant_of-self-in_err-resize-2 c =
    let lists = c.self.inside in
    let few = c.self.invariant.few_heads in
    AreSoundLists-reserved lists.heads.items c.resize.new.self.items lists.nodes.items c.resize-then-wanted-len.new.self.items (CELLS - lists.heads.len)
    (omega arith) (heads_are (goal.at.invariant_of-self-in_err-resize-2 c).In_ok-resize)
    (λ slot. ap (λ ns. node_at ns slot) c.in_err-resize-2.ensures.items) c.self.invariant

pub returns-in_ok-resize-2-clause-expiries : goal.returns-in_ok-resize-2-clause-expiries
returns-in_ok-resize-2-clause-expiries c =
    let nodes = c.self.inside.nodes.items in
    let more = c.args.wanted - c.self.inside.nodes.len in
    let room = length-expiries nodes c.args.self.now c.self.view_is in
    let count : more ≡ c.args.wanted - length c.args.self.now.expiries = omega arith in
    ap expiries_of (nodes_are (goal.at.returns-in_ok-resize-2-clause-expiries c).In_ok-resize-2)
    ∙ map-append expiry_of nodes (replicate more vacant)
    ∙ ap (λ expiries. expiries ++ expiries_of (replicate more vacant)) (expiries_viewed nodes c.args.self.now c.self.view_is)
    ∙ ap (λ expiries. c.args.self.now.expiries ++ expiries) (expiries_of-free more)
    ∙ ap (λ n. c.args.self.now.expiries ++ replicate {A = Option ℕ} n None) count

pub returns-in_ok-resize-2-clause-cells : goal.returns-in_ok-resize-2-clause-cells
returns-in_ok-resize-2-clause-cells c =
    let nodes = c.self.inside.nodes.items in
    let more = c.args.wanted - c.self.inside.nodes.len in
    let room = length-viewed nodes c.args.self.now c.self.view_is in
    let count : more ≡ c.args.wanted - length c.args.self.now.cells = omega arith in
    ap cells_of (nodes_are (goal.at.returns-in_ok-resize-2-clause-cells c).In_ok-resize-2)
    ∙ map-append (λ (node : Node). node.cell) nodes (replicate more vacant)
    ∙ ap (λ cells. cells ++ cells_of (replicate more vacant)) (cells_viewed nodes c.args.self.now c.self.view_is)
    ∙ ap (λ cells. c.args.self.now.cells ++ cells) (cells_of-free more)
    ∙ ap (λ n. c.args.self.now.cells ++ replicate {A = Option ℕ} n None) count
