-- The lists come back spread.
use Rattle.std.proofs.Common.{◌≡◌, ◌<◌, ℕ, ◌++◌, List, length, take, drop, Option, sym, ap, ◌∙◌, subst, arith}
use Rattle.rb_wheel.specs.declared.node.Node.{Node}
use Rattle.rb_wheel.specs.Lists.{Slots}
use Rattle.rb_wheel.specs.Wheel.{LieRight, MaySpread, StillWait}
use Rattle.rb_wheel.specs.WheelLinks.{cells_of, expiries_of, slots_of}
use Rattle.rb_wheel.proofs.Members.{met}
use Rattle.rb_wheel.proofs.Viewed.{cell_at-viewed, in_heads_of, sound_moved, written_back}
use Rattle.rb_wheel.proofs.lists.Lists.spread.Goals as goal
use Rattle.rb_wheel.proofs.lists.Lists.spread.Goals.{After-spread}

pub spread-requires-clause-sound : goal.spread-requires-clause-sound
spread-requires-clause-sound c = sound_moved c.deref_mut.ensures.value c.deref_mut-2.ensures.value c.self.invariant

pub spread-requires-clause-in_heads : goal.spread-requires-clause-in_heads
spread-requires-clause-in_heads c =
    let nodes = c.self.inside.nodes.items in
    let held = c.requires.held in
    let met = met _ _ _ _ c.self.invariant.linked.0 c.self.invariant.linked.1 c.args.cell held.0
    (sym (cell_at-viewed nodes c.args.self.now c.self.view_is held.0) ∙ held.1) in
    subst (λ (hs : List (Option ℕ)). c.args.cell < length hs) (sym c.deref_mut.ensures.value)
    (in_heads_of c.self.inside.heads.items c.args.cell met.first met.heads)

pub spread-requires-clause-may : goal.spread-requires-clause-may
spread-requires-clause-may c =
    let viewed = ap slots_of c.deref_mut-2.ensures.value ∙ c.self.view_is in
    subst (λ (s : Slots). MaySpread c.args.base c.args.cell s.expiries s.cells) (sym viewed) c.requires.may

module _ (c : After-spread) where
  viewed : slots_of c.deref_mut-2.result.now ≡ c.args.self.now
  viewed = ap slots_of c.deref_mut-2.ensures.value ∙ c.self.view_is

  heads_are : take c.self.inside.heads.len (c.spread.new.heads ++ drop (length c.spread.new.heads) c.self.inside.heads.items) ≡ c.spread.new.heads
  heads_are = let long = ap length c.deref_mut.ensures.value in written_back c.self.inside.heads.len c.spread.new.heads c.self.inside.heads.items (omega arith)

  nodes_are : take c.self.inside.nodes.len (c.spread.new.nodes ++ drop (length c.spread.new.nodes) c.self.inside.nodes.items) ≡ c.spread.new.nodes
  nodes_are = let long = ap length c.deref_mut-2.ensures.value in written_back c.self.inside.nodes.len c.spread.new.nodes c.self.inside.nodes.items (omega arith)

pub invariant_of-self : goal.invariant_of-self
invariant_of-self c =
    let now = (goal.at.invariant_of-self c).After-spread in
    sound_moved (heads_are now) (nodes_are now) c.spread.ensures.sound

pub returns-clause-expiries : goal.returns-clause-expiries
returns-clause-expiries c =
    let now = (goal.at.returns-clause-expiries c).After-spread in
    ap expiries_of (nodes_are now) ∙ c.spread.ensures.expiries ∙ ap (λ (s : Slots). s.expiries) (viewed now)

pub returns-clause-right : goal.returns-clause-right
returns-clause-right c =
    let now = (goal.at.returns-clause-right c).After-spread in
    subst (λ (ns : List Node). LieRight c.args.base c.args.self.now.expiries (cells_of ns)) (sym (nodes_are now))
    (subst (λ (s : Slots). LieRight c.args.base s.expiries (cells_of c.spread.new.nodes)) (viewed now) c.spread.ensures.right)

pub returns-clause-room : goal.returns-clause-room
returns-clause-room c =
    let now = (goal.at.returns-clause-room c).After-spread in
    ap (λ (ns : List Node). length (cells_of ns)) (nodes_are now) ∙ c.spread.ensures.room ∙ ap (λ (s : Slots). length s.cells) (viewed now)

pub returns-clause-waits : goal.returns-clause-waits
returns-clause-waits c =
    let now = (goal.at.returns-clause-waits c).After-spread in
    subst (λ (ns : List Node). StillWait c.args.waiting.now c.args.self.now.cells c.spread.new.waiting (cells_of ns)) (sym (nodes_are now))
    (subst (λ (s : Slots). StillWait c.args.waiting.now s.cells c.spread.new.waiting (cells_of c.spread.new.nodes)) (viewed now) c.spread.ensures.waits)
