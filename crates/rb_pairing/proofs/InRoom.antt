-- A slot with an entry or a link is in the room.
use Rattle.std.proofs.Common.{◌≡◌, ℕ, ◌<◌, ◌≤◌, List, length, Option, Some, None, IsSome, is_some, true, refl, ap, ◌∙◌, ⊎_elim}
use Rattle.std.proofs.lemmas.Bool.{cases_lt}
use Rattle.std.proofs.lemmas.List.{get_or_past}
use Rattle.rb_pairing.specs.declared.node.Node.{Node}
use Rattle.rb_pairing.specs.Nodes.{vacant, node_at, expiry_of, child_of, next_of, previous_of}
use Rattle.rb_pairing.specs.Forest.{IsForest}
use Rattle.rb_pairing.proofs.LinkTests.{cases_link}

module _ (nodes : List Node) (slot : ℕ) where
  past_end : length nodes ≤ slot → node_at nodes slot ≡ vacant
  past_end past = get_or_past nodes slot vacant past

  -- where something is said of the slot
  within : (part : Node → Option ℕ) → part vacant ≡ None → is_some (part (node_at nodes slot)) ≡ true
      → slot < length nodes
  within part none some =
      ⊎_elim (λ low. low)
      (λ past. let gone : part (node_at nodes slot) ≡ None = ap part (past_end past) ∙ none in absurd (cc))
      (cases_lt slot (length nodes))

  pub in_room-expiry : IsSome (expiry_of nodes slot) → slot < length nodes
  in_room-expiry some = within (λ n. n.expiry) refl some

  pub in_room-child : (other : ℕ) → child_of nodes slot ≡ Some other → slot < length nodes
  in_room-child other is = within (λ n. n.child) refl (ap is_some is)

  pub in_room-next : (other : ℕ) → next_of nodes slot ≡ Some other → slot < length nodes
  in_room-next other is = within (λ n. n.next) refl (ap is_some is)

  pub in_room-previous : (other : ℕ) → previous_of nodes slot ≡ Some other → slot < length nodes
  in_room-previous other is = within (λ n. n.previous) refl (ap is_some is)

  pub in_room-row : IsSome (previous_of nodes slot) → slot < length nodes
  in_room-row some = within (λ n. n.previous) refl some

module _ (nodes : List Node) (parent rank : ℕ → ℕ) (forest : IsForest nodes parent rank) (slot other : ℕ) where
  -- what a slot links to is in the room
  pub child_in_room : child_of nodes slot ≡ Some other → other < length nodes
  child_in_room is = in_room-previous nodes other slot (forest.child_back slot other is)

  pub next_in_room : next_of nodes slot ≡ Some other → other < length nodes
  next_in_room is = in_room-previous nodes other slot (forest.next_back slot other is)

  pub previous_in_room : previous_of nodes slot ≡ Some other → other < length nodes
  previous_in_room is =
      ⊎_elim (in_room-child nodes other slot)
      (λ off. in_room-next nodes other slot (forest.linked slot other is off))
      (cases_link (child_of nodes other) slot)
