-- The row of expiries by its slots.
use Rattle.std.proofs.Common.{◌≡◌, ℕ, List, length, None, sym, ap, ◌∙◌, get_or}
use Rattle.std.proofs.lemmas.List.{length-map}
use Rattle.std.specs.Option.{unwrap_or}
use Rattle.std.proofs.Math.ListN.{get_or-map}
use Rattle.rb_pairing.specs.declared.node.Node.{Node}
use Rattle.rb_pairing.specs.Nodes.{vacant, expiry_of, expiries, moment_of}

-- the row at a slot
pub get_or-expiries : (nodes : List Node) (slot : ℕ)
    → get_or (expiries nodes) slot None ≡ expiry_of nodes slot
get_or-expiries nodes slot = get_or-map (λ (node : Node). node.expiry) nodes slot vacant

-- where the rows are equal, they are equal at each slot
pub same_expiry : (old new : List Node) → expiries new ≡ expiries old → (slot : ℕ)
    → expiry_of new slot ≡ expiry_of old slot
same_expiry old new same slot =
    sym (get_or-expiries new slot) ∙ ap (λ row. get_or row slot None) same ∙ get_or-expiries old slot

pub same_moment : (old new : List Node) → expiries new ≡ expiries old → (slot : ℕ)
    → moment_of new slot ≡ moment_of old slot
same_moment old new same slot =
    ap (λ expiry. unwrap_or {T = ℕ} expiry 0) (same_expiry old new same slot)

-- and there are as many nodes
pub same_length : (old new : List Node) → expiries new ≡ expiries old → length new ≡ length old
same_length old new same =
    sym (length-map new (λ (node : Node). node.expiry)) ∙ ap length same
    ∙ length-map old (λ (node : Node). node.expiry)
