-- Single writes, taken together: an entry passed by, cut, put into another's place, put under another, or moved.
use Rattle.std.proofs.Common.{◌≡◌, ℕ, ◌<◌, ◌≤◌, ◌≢◌, List, length, Some, None, refl, sym, ap, ◌∙◌, arith, ⊎_elim}
use Rattle.std.proofs.Math.Logic.{∥∥₁_elim}
use Rattle.std.proofs.Props.{props}
use Rattle.rb_pairing.specs.declared.node.Node.{Node}
use Rattle.rb_pairing.specs.Nodes.{child_of, next_of, previous_of, moment_of}
use Rattle.rb_pairing.specs.Forest.{IsForest, LieAsTrees}
use Rattle.rb_pairing.specs.Changes.{SetsPrevious, SetsLink, SetsPlace, SetsChild, ClearsLinks, Bypasses, Cuts, Replaces, Adopts, Moves}
use Rattle.rb_pairing.proofs.LinkTests.{cases_link}
use Rattle.rb_pairing.proofs.Writes.{sets_place}

-- no entry is before itself
pub not_before_itself : (nodes : List Node) (parent rank : ℕ → ℕ) → IsForest nodes parent rank
    → (slot other : ℕ) → previous_of nodes slot ≡ Some other → slot ≢ other
not_before_itself nodes parent rank forest slot other is same =
    let low = forest.rises slot other is in absurd (omega (arith, ap rank same))

module _ (old one new : List Node) (slot : ℕ) (parent rank : ℕ → ℕ) (forest : IsForest old parent rank)
    (behind : SetsPrevious old one (next_of old slot) (previous_of old slot))
    (before : SetsLink one new (previous_of old slot) slot (next_of old slot)) where
  pub bypasses : Bypasses old new slot
  bypasses = record {
    expiries = before.expiries ∙ behind.expiries;
    child = λ other is. before.child other (forest.child_back other slot is) (behind.child other ∙ is);
    child_stays = λ other off. before.child_stays other (λ back is. off (sym (behind.child other) ∙ is))
        ∙ behind.child other;
    next = λ other is. before.next other (forest.next_back other slot is)
        (λ child. forest.apart other slot (sym (behind.child other) ∙ child) is);
    next_stays = λ other off. before.next_stays other
        (λ back. ⊎_elim (λ child. behind.child other ∙ child)
        (λ no_child. absurd (off (forest.linked slot other back no_child)))
        (cases_link (child_of old other) slot))
        ∙ behind.next other;
    previous = λ other is. before.previous other ∙ behind.here other is;
    previous_stays = λ other off. before.previous other ∙ behind.elsewhere other off;
  }

module _ (old bypassed new : List Node) (slot : ℕ) (linked : LieAsTrees old) (bypasses : Bypasses old bypassed slot)
    (own : SetsPlace bypassed new slot None None) where
  -- no entry is before or behind itself
  not_before : (other : ℕ) → next_of old slot ≡ Some other → other ≢ slot
  not_before other is same =
      ∥∥₁_elim linked (hlevel props)
      (λ forest. not_before_itself old forest.parent forest.rank forest.is_forest other slot
      (forest.is_forest.next_back slot other is) same)

  not_after : (other : ℕ) → next_of old other ≡ Some slot → other ≢ slot
  not_after other is same = not_before slot (sym (ap (next_of old) same) ∙ is) refl

  pub cuts : Cuts old new slot
  cuts = record {
    expiries = own.expiries ∙ bypasses.expiries;
    child = λ other is. own.child other ∙ bypasses.child other is;
    child_stays = λ other off. own.child other ∙ bypasses.child_stays other off;
    next_own = own.next;
    next = λ other is. own.next_elsewhere other (not_after other is) ∙ bypasses.next other is;
    next_stays =
        λ other differs off. own.next_elsewhere other differs ∙ bypasses.next_stays other off;
    previous_own = own.previous;
    previous = λ other is. own.previous_elsewhere other (not_before other is) ∙ bypasses.previous other is;
    previous_stays =
        λ other differs off. own.previous_elsewhere other differs ∙ bypasses.previous_stays other off;
  }

module _ (old one two three new : List Node) (slot by : ℕ) (parent rank : ℕ → ℕ)
    (forest : IsForest old parent rank) (child : child_of old slot ≡ Some by)
    (behind : SetsPrevious old one (next_of old slot) (Some by))
    (before : SetsLink one two (previous_of old slot) slot (Some by))
    (own : SetsPlace two three by (previous_of old slot) (next_of old slot))
    (clear : ClearsLinks three new slot) where
  off_slot : by ≢ slot
  off_slot same =
      not_before_itself old parent rank forest by slot (forest.child_back slot by child) same

  not_round : (other : ℕ) → other ≡ by → next_of old other ≢ Some slot
  not_round other same is =
      let low = forest.rises by slot (forest.child_back slot by child) in
      let high = forest.rises slot other (forest.next_back other slot is) in
      absurd (omega (arith, ap rank same))

  pub replaces : Replaces old new slot by
  replaces = record {
    expiries = clear.expiries ∙ own.expiries ∙ before.expiries ∙ behind.expiries;
    none = clear.none;
    child = λ other is. let back = forest.child_back other slot is in
        clear.child other (λ same. not_before_itself old parent rank forest slot other back (sym same))
        ∙ own.child other ∙ before.child other back (behind.child other ∙ is);
    child_stays = λ other differs off. clear.child other differs ∙ own.child other
        ∙ before.child_stays other (λ back is. off (sym (behind.child other) ∙ is)) ∙ behind.child other;
    next_own = clear.next by off_slot ∙ own.next;
    next = λ other is. let back = forest.next_back other slot is in
        clear.next other (λ same. not_before_itself old parent rank forest slot other back (sym same))
        ∙ own.next_elsewhere other (λ same. not_round other same is)
        ∙ before.next other back (λ child. forest.apart other slot (sym (behind.child other) ∙ child) is);
    next_stays = λ other differs off_by off. clear.next other differs ∙ own.next_elsewhere other off_by
        ∙ before.next_stays other
        (λ back. ⊎_elim (λ child. behind.child other ∙ child)
        (λ no_child. absurd (off (forest.linked slot other back no_child)))
        (cases_link (child_of old other) slot))
        ∙ behind.next other;
    previous_own = clear.previous by off_slot ∙ own.previous;
    previous = λ other is. let back = forest.next_back slot other is in
        clear.previous other (not_before_itself old parent rank forest other slot back)
        ∙ own.previous_elsewhere other (λ same. forest.apart slot by child (is ∙ ap Some same))
        ∙ before.previous other ∙ behind.here other is;
    previous_stays = λ other differs off_by off. clear.previous other differs
        ∙ own.previous_elsewhere other off_by ∙ before.previous other ∙ behind.elsewhere other off;
  }

module _ (old one two new : List Node) (above slot : ℕ) (apart : child_of old above ≢ Some slot)
    (behind : SetsPrevious old one (child_of old above) (Some slot))
    (own : SetsPlace one two slot (Some above) (child_of old above))
    (child : SetsChild two new above slot) where
  pub adopts : Adopts old new above slot
  adopts = record {
    expiries = child.expiries ∙ own.expiries ∙ behind.expiries;
    child = child.here;
    child_stays = λ other differs.
        child.elsewhere other differs ∙ own.child other ∙ behind.child other;
    next = child.next slot ∙ own.next;
    next_stays = λ other differs.
        child.next other ∙ own.next_elsewhere other differs ∙ behind.next other;
    previous_own = child.previous slot ∙ own.previous;
    previous = λ other is. child.previous other
        ∙ own.previous_elsewhere other (λ same. apart (is ∙ ap Some same)) ∙ behind.here other is;
    previous_stays = λ other differs off. child.previous other
        ∙ own.previous_elsewhere other differs ∙ behind.elsewhere other off;
  }

-- an entry put under another was in no row there, also where its own place was not yet emptied
module _ (old parted new : List Node) (above slot : ℕ) (own : SetsPlace old parted slot None None)
    (adopts : Adopts old new above slot) where
  adopts_parted : Adopts parted new above slot
  adopts_parted = record {
    expiries = adopts.expiries ∙ sym own.expiries;
    child = adopts.child;
    child_stays = λ other differs. adopts.child_stays other differs ∙ sym (own.child other);
    next = adopts.next ∙ sym (own.child above);
    next_stays =
        λ other differs. adopts.next_stays other differs ∙ sym (own.next_elsewhere other differs);
    previous_own = adopts.previous_own;
    previous = λ other is. adopts.previous other (sym (own.child above) ∙ is);
    previous_stays = λ other differs off. adopts.previous_stays other differs (λ is. off (own.child above ∙ is))
        ∙ sym (own.previous_elsewhere other differs);
  }

-- what is passed by and then put under another is moved there
pub moves : (old bypassed new : List Node) (earlier later : ℕ) → LieAsTrees old
    → moment_of old earlier ≤ moment_of old later → later < length bypassed
    → Bypasses old bypassed later → Adopts bypassed new earlier later → Moves old new earlier later
moves old bypassed new earlier later linked ordered within bypasses adopts =
    let own = sets_place bypassed later within None None in
    record {
      between = _;
      ordered = ordered;
      cuts = cuts old bypassed _ later linked bypasses own;
      adopts = adopts_parted bypassed _ new earlier later own adopts;
    }
