-- There is one slot and it has a pair, so both `unwrap`s succeed and the kept queue comes back.
use Rattle.std.proofs.Common.{arith, length, ap, ◌∙◌, ◌++◌}
use Rattle.std.specs.Prelude.{Option, Some}
use Rattle.std.specs.Option.{option_to_list}
use Rattle.rb_lock.specs.declared.pair.Pair.{Pair}
use Rattle.rb_lock.proofs.Beginnings.{last_of_one}
use Rattle.rb_lock.proofs.shared.only_kept.Goals as goal

pub unwrap-requires : goal.unwrap-requires
unwrap-requires g c = c.pop.ensures.variant.1 (omega (arith, ap length c.requires.1))

pub returns : goal.returns
returns g c =
    let left = c.pop.new.self.items in (
      c.unwrap-2.result.names,
      last_of_one c.args.slots.items left (Some c.unwrap-2.result) (Some c.requires.0)
          (c.pop.ensures.items ∙ ap (λ (o : Option (Option (Pair g.row.T.Denot))). left ++ option_to_list o) (c.unwrap.ensures ∙ ap Some c.unwrap-2.ensures)) c.requires.1,
    )
