-- Views that share out what they hold: the rule stays where each name stands as often as before.
use Rattle.std.proofs.Common.{◌≡◌, ◌≢◌, ℕ, ◌+◌, List, [], ◌∷◌, ◌++◌, set, subst, ◌∙◌, arith, ⊎_elim, inl, inr}
use Rattle.std.specs.Prelude.{Option}
use mathlib.Core.Option.{some}
use lib.ListN.{get_elem?}
use Rattle.atomic_table.specs.Table.{State}
use Rattle.atomic_table.proofs.Lists.{at_set, at_snoc}
use Rattle.rb_lock.specs.Views.{weight, holders, total}
use Rattle.rb_lock.specs.Rule.{Fits, Locked, IsFree, IsHeld}
use Rattle.rb_lock.specs.declared.pair.Pair.{Pair}
use Rattle.rb_lock.specs.declared.view.View.{View}
use Rattle.rb_lock.proofs.Sums.{total_set, total_snoc}

module _ {T : Type 0} (s : State (Option (Pair T)) View) (law : Locked s) where
  -- all views change at once
  shared_out : (views : List View) → ((name : ℕ) → total (weight name) views ≡ total (weight name) s.views) → total holders views ≡ total holders s.views
      → total (λ v. v.parts) views ≡ total (λ v. v.parts) s.views → ((by : ℕ) (u : View) → get_elem? views by ≡ some u → Fits law.log law.names u) → Locked (record { words = s.words; homes = s.homes; views = views })
  shared_out views same held parts fits = record {
    log = law.log;
    names = law.names;
    few = law.few;
    place = ⊎_elim (λ (free : IsFree law.log law.names s). inl (record { words = free.words; homes = free.homes; nobody = held ∙ free.nobody }))
        (λ (busy : IsHeld s). inr (record { word = busy.word; words = busy.words; taken = busy.taken; homes = busy.homes; one = held ∙ busy.one })) law.place;
    fits = fits;
    once = λ name. omega (arith, same name, law.once name);
    below = λ name above. same name ∙ law.below name above;
    not_given = law.not_given;
    all = λ name less. omega (arith, same name, law.all name less);
    whole = parts ∙ law.whole;
  }

  module _ (id : ℕ) (v : View) (at : get_elem? s.views id ≡ some v) where
    -- a view is cut in two
    pub cut_in_two : (left right : View) → ((name : ℕ) → weight name left + weight name right ≡ weight name v) → holders left + holders right ≡ holders v
        → left.parts + right.parts ≡ v.parts → Fits law.log law.names left → Fits law.log law.names right → Locked (record { words = s.words; homes = s.homes; views = set s.views id left ++ right ∷ [] })
    cut_in_two left right weighs held parts fits_left fits_right =
        let views : List View = set s.views id left ++ right ∷ [] in
        shared_out views
        (λ name. omega (arith, total_snoc (weight name) (set s.views id left) right, total_set (weight name) s.views id v left at, weighs name))
        (omega (arith, total_snoc holders (set s.views id left) right, total_set holders s.views id v left at, held))
        (omega (arith, total_snoc (λ v. v.parts) (set s.views id left) right, total_set (λ v. v.parts) s.views id v left at, parts))
        (λ by u there.
        ⊎_elim (λ (old : get_elem? (set s.views id left) by ≡ some u).
        ⊎_elim (λ (here : (by ≡ id) × (left ≡ u)). subst (Fits law.log law.names) here.1 fits_left)
        (λ (else : (by ≢ id) × (get_elem? s.views by ≡ some u)). law.fits by u else.1) (at_set s.views id by left u old))
        (λ (new : right ≡ u). subst (Fits law.log law.names) new fits_right) (at_snoc (set s.views id left) right u by there))

    -- two views are made one, and the other is spent
    pub made_one : (other : ℕ) (w both spent : View) → ¬ (other ≡ id) → get_elem? (set s.views id both) other ≡ some w
        → ((name : ℕ) → weight name both + weight name spent ≡ weight name v + weight name w) → holders both + holders spent ≡ holders v + holders w
        → both.parts + spent.parts ≡ v.parts + w.parts
        → (Fits law.log law.names v → Fits law.log law.names w → Fits law.log law.names both) → Fits law.log law.names spent
        → Locked (record { words = s.words; homes = s.homes; views = set (set s.views id both) other spent })
    made_one other w both spent apart there weighs held parts fits_both fits_spent =
        let was : get_elem? s.views other ≡ some w =
        ⊎_elim (λ (here : (other ≡ id) × (both ≡ w)). absurd (apart here.0)) (λ (else : (other ≢ id) × (get_elem? s.views other ≡ some w)). else.1) (at_set s.views id other both w there) in
        shared_out (set (set s.views id both) other spent)
        (λ name. omega (arith, total_set (weight name) (set s.views id both) other w spent there, total_set (weight name) s.views id v both at, weighs name))
        (omega (arith, total_set holders (set s.views id both) other w spent there, total_set holders s.views id v both at, held))
        (omega (arith, total_set (λ v. v.parts) (set s.views id both) other w spent there, total_set (λ v. v.parts) s.views id v both at, parts))
        (λ by u now.
        ⊎_elim (λ (gone : (by ≡ other) × (spent ≡ u)). subst (Fits law.log law.names) gone.1 fits_spent)
        (λ (still : (by ≢ other) × (get_elem? (set s.views id both) by ≡ some u)).
        ⊎_elim (λ (here : (by ≡ id) × (both ≡ u)). subst (Fits law.log law.names) here.1 (fits_both (law.fits id v at) (law.fits other w was)))
        (λ (else : (by ≢ id) × (get_elem? s.views by ≡ some u)). law.fits by u else.1) (at_set s.views id by both u still.1))
        (at_set (set s.views id both) other by spent u now))
