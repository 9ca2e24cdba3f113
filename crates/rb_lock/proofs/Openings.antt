-- The rule holds when the lock is made.
use Rattle.std.proofs.Common.{◌≡◌, ℕ, zero, suc, ◌==◌, List, [], ◌∷◌, refl, ap, sym, subst, arith, eq-eqb, inl}
use Rattle.rb_lock.specs.Records.{bit}
use Rattle.std.specs.Prelude.{Some}
use mathlib.Core.Option.{some, some-injective, some-ne-none}
use lib.ListN.{get_elem?}
use Rattle.atomic_table.specs.Table.{opening}
use Rattle.rb_queue.specs.declared.event.Event.{Event}
use Rattle.rb_queue.specs.Counts.{events_of}
use Rattle.rb_kept.specs.Log.{Log}
use Rattle.rb_lock.specs.Views.{newcomer}
use Rattle.rb_lock.specs.Rule.{Fits, Locked, pair_of}
use Rattle.rb_lock.specs.declared.view.View.{View}
use Rattle.rb_lock.proofs.Sums.{bit_apart, bit_small}
use Rattle.rb_lock.proofs.Beginnings.{prefix_none}
use Rattle.rb_lock.proofs.Halvings.{first_part}

first_fits : (start : Log) → start.history ≡ [] → Fits start 1 (newcomer start)
first_fits start empty = record {
  capacity = λ live. refl;
  opening = λ live. refl;
  begins = prefix_none start.history;
  records = (record { begins = prefix_none start.history; known = refl; all = subst (λ (h : List Event). events_of h 0 ≡ []) (sym empty) refl }, tt);
  noted = omega arith;
  stage = tt;
  part = omega (arith, first_part);
}

pub opens : {T : Type 0} (start : Log) → start.history ≡ [] → Locked {T = T} (opening (0 ∷ []) (Some (pair_of start 1) ∷ []) (newcomer start))
opens start empty = record {
  log = start;
  names = 1;
  few = omega arith;
  place = inl (record { words = refl; homes = refl; nobody = refl });
  fits = λ by v at. only by v at;
  once = λ name. omega (arith, bit_small (0 == name));
  below = λ name above. omega (arith, bit_apart 0 name (λ e. omega arith));
  all = λ name less. let here : bit (0 == name) ≡ 1 = ap bit (eq-eqb 0 name (omega arith)) in omega (arith, here);
  whole = omega arith;
  not_given = λ name above. subst (λ (h : List Event). events_of h name ≡ []) (sym empty) refl;
}
  where
    only : (by : ℕ) (v : View) → get_elem? (newcomer start ∷ []) by ≡ some v → Fits start 1 v
    only zero v at = subst (Fits start 1) (some-injective (newcomer start) v at) (first_fits start empty)
    only (suc by) v at = absurd (some-ne-none v (sym at))
