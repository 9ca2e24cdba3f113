-- The heap order while one entry moves from `hole` to `to`, a place beside it.
use Rattle.std.proofs.Common.{◌≡◌, ℕ, ◌<◌, ◌≢◌, List, length, set, sym, arith, length-set}
use Rattle.std.proofs.lemmas.Bool.{cases_eq}
use Rattle.rb_binary.specs.declared.heap.Entry.{Entry}
use Rattle.rb_binary.specs.Layout.{expiry_at, parent, MayRise, MaySink, IsLeastChild}
use Rattle.rb_binary.proofs.Exchange.{AreExchanged, exchanged, stepped, length-stepped, shown-set_same, shown-set_other}

-- `new` is `old` with the expiries at the two places exchanged
module _ (old new : List Entry) (hole to : ℕ) (within : hole < length old) (inside : to < length old)
    (count : length new ≡ length old) (swapped : AreExchanged (expiry_at old) (expiry_at new) hole to) where
  rises : 0 < hole → parent hole ≡ to → expiry_at old hole < expiry_at old to → MayRise old hole
      → MayRise new to
  rises above up less may = record {
    others =
        λ place low high off. grind (arith, cases_eq place hole, cases_eq (parent place) hole, cases_eq (parent place) to);
    across = λ inner place low high is.
        grind (
          arith,
          may.others to,
          may.others place,
          swapped.elsewhere (parent to),
          swapped.elsewhere place,
          cases_eq place hole,
        );
  }

  sinks : IsLeastChild old hole to → expiry_at old to < expiry_at old hole → MaySink old hole
      → MaySink new to
  sinks least less may = record {
    others =
        λ place low high off. grind (arith, cases_eq place hole, cases_eq place to, cases_eq (parent place) hole);
    across = λ inner place low high is. grind (arith, may.others place, swapped.elsewhere place);
  }

-- the entry is carried past the one at `to`
module _ (heap : List Entry) (hole to : ℕ) (entry : Entry)
    (within : hole < length heap) (inside : to < length heap) (apart : hole ≢ to) where
  here : expiry_at (set heap hole entry) hole ≡ entry.expiry
  here = shown-set_same (λ e. e.expiry) heap hole entry within

  elsewhere : (place : ℕ) → place ≢ hole
      → expiry_at (set heap hole entry) place ≡ expiry_at heap place
  elsewhere place off = shown-set_other (λ e. e.expiry) heap hole place entry off

  there : expiry_at (set heap hole entry) to ≡ expiry_at heap to
  there = elsewhere to (λ e. apart (sym e))

  long : length (set heap hole entry) ≡ length heap
  long = length-set heap hole entry

  swapped : AreExchanged (expiry_at (set heap hole entry)) (expiry_at (stepped heap hole to entry)) hole to
  swapped = exchanged (λ e. e.expiry) heap hole to entry within inside apart

  -- one step up, past a parent that expires later
  pub rise_step : 0 < hole → parent hole ≡ to → entry.expiry < expiry_at heap to
      → MayRise (set heap hole entry) hole → MayRise (stepped heap hole to entry) to
  rise_step above up less =
      rises (set heap hole entry) (stepped heap hole to entry) hole to (omega (arith, long)) (omega (arith, long))
      (length-stepped heap hole to entry) swapped above up (omega (arith, here, there))

  -- the child stands where it did
  still_least : IsLeastChild heap hole to → IsLeastChild (set heap hole entry) hole to
  still_least least = record {
    above = least.above;
    below = least.below;
    in_heap = omega (arith, long);
    least = λ other low high is. grind (arith, least.least other, elsewhere other, there, long);
  }

  -- one step down, past the child that expires first
  pub sink_step : IsLeastChild heap hole to → expiry_at heap to < entry.expiry
      → MaySink (set heap hole entry) hole → MaySink (stepped heap hole to entry) to
  sink_step least less =
      sinks (set heap hole entry) (stepped heap hole to entry) hole to (omega (arith, long)) (omega (arith, long))
      (length-stepped heap hole to entry) swapped (still_least least) (omega (arith, here, there))
