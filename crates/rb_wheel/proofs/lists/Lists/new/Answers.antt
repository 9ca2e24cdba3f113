-- Nothing is linked.
use Rattle.std.proofs.Common.{ℕ, ap, arith, length, get_or, None}
use Rattle.rb_wheel.specs.Nodes.{vacant}
use Rattle.rb_wheel.proofs.Rooms.{AreLinked-none}
use Rattle.rb_wheel.proofs.lists.Lists.new.Goals as goal

pub invariant_of-result : goal.invariant_of-result
invariant_of-result c =
    let no_heads = λ (at : ℕ). ap (λ hs. get_or hs at None) c.new.ensures.items in
    record {
      linked = (
        λ slot. 0,
        AreLinked-none c.new.result.items c.new-2.result.items no_heads
            (λ slot. ap (λ ls. get_or ls slot vacant) c.new-2.ensures.items),
      );
      few_heads = rw c.new.ensures.items (omega arith);
      all_heads = λ some. let none = ap length c.new-2.ensures.items in absurd (omega arith);
    }
