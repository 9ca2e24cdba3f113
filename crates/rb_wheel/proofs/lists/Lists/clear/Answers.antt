-- Rows of none have no slot in them.
use Rattle.std.proofs.Common.{◌≡◌, ℕ, Option, None, length, replicate, ap, ◌∙◌, rules, arith}
use Rattle.rb_wheel.specs.declared.node.Node.{Node}
use Rattle.rb_wheel.specs.Nodes.{vacant}
use Rattle.rb_wheel.specs.WheelLinks.{cells_of, expiries_of}
use Rattle.rb_wheel.proofs.Rooms.{AreSoundLists-none, cells_of-free, expiries_of-free}
use Rattle.rb_wheel.proofs.Viewed.{length-viewed, length-expiries}
use Rattle.rb_wheel.proofs.lists.Lists.clear.Goals as goal
use Rattle.rb_wheel.proofs.lists.Lists.clear.Goals.{After-fill-2}

-- every node is vacant
nodes_are : (c : After-fill-2) → c.fill-2.new.self.items ≡ replicate c.self.inside.nodes.len vacant
nodes_are c = c.fill-2.ensures.items (λ y is. search rules) ∙ ap (λ (node : Node). replicate c.self.inside.nodes.len node) c.vacant.ensures

pub invariant_of-self : goal.invariant_of-self
invariant_of-self c =
    let lists = c.self.inside in
    let heads_long : lists.heads.len ≡ length lists.heads.items = omega arith in
    let nodes_long : lists.nodes.len ≡ length lists.nodes.items = omega arith in
    AreSoundLists-none lists.heads.items c.fill.new.self.items lists.nodes.items c.fill-2.new.self.items
    (c.fill.ensures.items (λ y is. search rules) ∙ ap (λ (o : Option ℕ). replicate lists.heads.len o) c.none.ensures
    ∙ ap (λ n. replicate {A = Option ℕ} n None) heads_long)
    (nodes_are (goal.at.invariant_of-self c).After-fill-2 ∙ ap (λ n. replicate n vacant) nodes_long)
    c.self.invariant

pub returns-clause-expiries : goal.returns-clause-expiries
returns-clause-expiries c =
    let lists = c.self.inside in
    let room = length-expiries lists.nodes.items c.args.self.now c.self.view_is in
    let nodes_long : lists.nodes.len ≡ length c.args.self.now.expiries = omega arith in
    ap expiries_of (nodes_are (goal.at.returns-clause-expiries c).After-fill-2) ∙ expiries_of-free lists.nodes.len
    ∙ ap (λ n. replicate {A = Option ℕ} n None) nodes_long

pub returns-clause-cells : goal.returns-clause-cells
returns-clause-cells c =
    let lists = c.self.inside in
    let room = length-viewed lists.nodes.items c.args.self.now c.self.view_is in
    let nodes_long : lists.nodes.len ≡ length c.args.self.now.cells = omega arith in
    ap cells_of (nodes_are (goal.at.returns-clause-cells c).After-fill-2) ∙ cells_of-free lists.nodes.len
    ∙ ap (λ n. replicate {A = Option ℕ} n None) nodes_long
