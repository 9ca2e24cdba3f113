-- The words of a node, and what they say.
use Rattle.std.specs.Prelude.{◌≡◌, ℕ, Bool, false, Option, Some, None, cond, eqb}
use Rattle.std.proofs.Common.{sym, ap, ◌∙◌, refl, ⊎_elim}
use Rattle.std.proofs.lemmas.Bool.{cases_eq, eq-eqb, ne_eqb}
use Rattle.rb_pairing.specs.Fields.{Fields}
use Rattle.rb_pairing.specs.declared.node.TheConstants.{VACANT}
use Rattle.rb_pairing.specs.declared.node.Node.TheInside.{Inside}

-- whether the link in the place of the child says that there is no entry
abbrev pub is_vacant : Option ℕ → Bool
is_vacant None = false
is_vacant (Some slot) = eqb slot VACANT

-- the options that the words stand for
abbrev pub fields_of : Inside → Fields
fields_of node = record {
  expiry = cond (is_vacant node.child) None (Some node.expiry);
  child = cond (is_vacant node.child) None node.child;
  next = node.next;
  previous = node.previous;
}

-- each option has one word
pub record IsNode (node : Inside) : Type 0 where
  pub vacant : node.child ≡ Some VACANT → node.expiry ≡ 0

-- the link in the place of the child
abbrev pub child_link : Option ℕ → Option ℕ → Option ℕ
child_link None child = Some VACANT
child_link (Some expiry) child = child

abbrev pub expiry_word : Option ℕ → ℕ
expiry_word None = 0
expiry_word (Some expiry) = expiry

-- the words for options
abbrev pub node_of : Fields → Inside
node_of fields = record {
  expiry = expiry_word fields.expiry;
  child = child_link fields.expiry fields.child;
  next = fields.next;
  previous = fields.previous;
}

child_link-fields : (child : Option ℕ) (expiry : ℕ)
    → child_link (cond (is_vacant child) None (Some expiry)) (cond (is_vacant child) None child) ≡ child
child_link-fields None expiry = refl
child_link-fields (Some slot) expiry =
    ⊎_elim
    (λ vacant. ap (λ b. child_link (cond b None (Some expiry)) (cond b None (Some slot))) (eq-eqb slot VACANT vacant)
    ∙ ap Some (sym vacant))
    (λ apart. ap (λ b. child_link (cond b None (Some expiry)) (cond b None (Some slot))) (ne_eqb slot VACANT apart))
    (cases_eq slot VACANT)

expiry_word-fields : (child : Option ℕ) (expiry : ℕ) → (child ≡ Some VACANT → expiry ≡ 0)
    → expiry_word (cond (is_vacant child) None (Some expiry)) ≡ expiry
expiry_word-fields None expiry none = refl
expiry_word-fields (Some slot) expiry none =
    ⊎_elim
    (λ vacant. ap (λ b. expiry_word (cond b None (Some expiry))) (eq-eqb slot VACANT vacant)
    ∙ sym (none (ap Some vacant)))
    (λ apart. ap (λ b. expiry_word (cond b None (Some expiry))) (ne_eqb slot VACANT apart))
    (cases_eq slot VACANT)

-- a node is the words for what it says
pub node_of-fields : (node : Inside) → IsNode node → node_of (fields_of node) ≡ node
node_of-fields node is =
    λ i. record {
      expiry = expiry_word-fields node.child node.expiry is.vacant i;
      child = child_link-fields node.child node.expiry i;
      next = node.next;
      previous = node.previous;
    }
