-- A pass splits another off: the lock is taken, a name is drawn as it is given back, and the seat is cut in two.
use Rattle.std.proofs.Common.{◌≡◌, ℕ, ◌+◌, ◌-◌, ◌<◌, [], ◌∷◌, ap, sym, subst, ◌∙◌, arith}
use Rattle.std.specs.Prelude.{Option, Some, None}
use Rattle.atomic_table.specs.Table.{Splits}
use Rattle.rb_lock.specs.Parts.{least_part}
use Rattle.rb_lock.specs.Passes.{PassState}
use Rattle.rb_lock.specs.Views.{idle, holder_of, has_drawn, cut_short, cut_off}
use Rattle.rb_lock.specs.Rule.{pair_of, Locked}
use Rattle.rb_lock.specs.LockSteps.{LockSeat, Noted, TakesLock, MayGive, MayDraw, NamesIn, in_hand}
use Rattle.rb_lock.specs.declared.pair.Pair.{Pair}
use Rattle.rb_lock.specs.declared.pair.TheConstants.{MOST_NAMES}
use Rattle.rb_lock.proofs.Halvings.{halved}
use Rattle.rb_lock.proofs.LongerHistories.{grown_none}
use Rattle.rb_lock.proofs.Sharings.{drawing, cuts}
use Rattle.rb_lock.proofs.RestingPasses.{learned, found_pair}

module _ {T : Type 0} (pass : PassState) (seat0 seat1 seat2 : LockSeat T) (rest : seat0 ≡ (idle pass, [])) (got : TakesLock seat0 seat1) where
  found_idle : Noted got.log got.names (idle pass)
  found_idle = subst (λ (m : LockSeat T). Noted got.log got.names m.0) rest got.found

  view_is : seat1.0 ≡ holder_of (idle pass) got.log.history got.names
  view_is = got.view ∙ ap (λ (m : LockSeat T). holder_of m.0 got.log.history got.names) rest

  module _ (given : Option ℕ) (naming : NamesIn given seat1 seat2) where
    before_is : naming.names.before ≡ pair_of got.log got.names
    before_is = found_pair pass seat0 seat1 rest got naming.slot naming.names.before naming.was naming.names.was

    seat2_is : seat2 ≡ (holder_of (idle pass) got.log.history got.names, (0, Some naming.names.after) ∷ [])
    seat2_is = naming.is ∙ (λ i. (view_is i, (0, naming.names.is i) ∷ []))

  -- all names are given
  module _ (naming : NamesIn None seat1 seat2) where
    none_is : seat2 ≡ (holder_of (idle pass) got.log.history got.names, (0, Some (pair_of got.log got.names)) ∷ [])
    none_is =
        seat2_is None naming
        ∙ ap (λ (h : Pair T). (holder_of (idle pass) got.log.history got.names, (0, Some h) ∷ [])) (naming.names.gives.1 ∙ before_is None naming)

    pub none_may_give : MayGive seat2
    none_may_give = record {
      pass = pass;
      found = got.log;
      new = got.log;
      names = got.names;
      is = none_is;
      capacity = sym (found_idle.fits.capacity tt);
      opening = sym (found_idle.fits.opening tt);
      grown = grown_none pass.name got.log.history;
      few = got.found.few;
    }

  -- the next name is given
  module _ (name : ℕ) (naming : NamesIn (Some name) seat1 seat2) where
    same_before : naming.names.before ≡ pair_of got.log got.names
    same_before = before_is (Some name) naming

    some_is : seat2 ≡ (holder_of (idle pass) got.log.history got.names, (0, Some (pair_of got.log (got.names + 1))) ∷ [])
    some_is =
        seat2_is (Some name) naming
        ∙ ap (λ (h : Pair T). (holder_of (idle pass) got.log.history got.names, (0, Some h) ∷ []))
        (naming.names.gives.2 ∙ ap (λ (h : Pair T). pair_of h.kept (h.names + 1)) same_before)

    pub may_draw : MayDraw seat2
    may_draw = record {
      pass = pass;
      found = got.log;
      names = got.names;
      is = some_is;
      capacity = sym (found_idle.fits.capacity tt);
      opening = sym (found_idle.fits.opening tt);
      few = subst (λ (h : Pair T). h.names < MOST_NAMES) same_before naming.names.gives.1;
    }

    -- the seat has drawn the name
    module _ (seat3 : LockSeat T) (drew : seat3 ≡ (has_drawn seat2.0 (in_hand seat2.1), [])) where
      drawn_is : seat3 ≡ (drawing (learned pass (got.names + 1) got.log.history) got.names, [])
      drawn_is = drew ∙ ap (λ (m : LockSeat T). (has_drawn m.0 (in_hand m.1), [])) some_is

      -- the pass and the new one have the parts that the pass had
      pub same_parts : (cut_short seat3.0).parts + (cut_off seat3.0).parts ≡ pass.parts
      same_parts =
          let few : got.names < MOST_NAMES = subst (λ (h : Pair T). h.names < MOST_NAMES) same_before naming.names.gives.1 in
          let both : (pass.parts - least_part (got.names + 1)) + least_part (got.names + 1) ≡ pass.parts =
          omega (arith, found_idle.fits.part, halved got.names few) in
          ap (λ (m : LockSeat T). (cut_short m.0).parts + (cut_off m.0).parts) drawn_is ∙ both

      pub may_cut : (id : ℕ) → Splits (Locked {T = T}) id seat3.0 (cut_short seat3.0) (cut_off seat3.0)
      may_cut id =
          subst (λ (m : LockSeat T). Splits (Locked {T = T}) id m.0 (cut_short m.0) (cut_off m.0)) (sym drawn_is)
          (cuts id (learned pass (got.names + 1) got.log.history) got.names)
