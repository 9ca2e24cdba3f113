-- With a name left it is drawn and the seat cut in two; with none the lock is just given back.
use Rattle.std.proofs.Common.{◌+◌, arith, sym, ap, ◌∙◌}
use Rattle.rb_lock.specs.Passes.{PassState}
use Rattle.rb_lock.specs.Views.{pass_of}
use Rattle.rb_lock.proofs.RestingPasses.{found_in_hand}
use Rattle.rb_lock.proofs.SplitPasses.{none_may_give, may_draw, may_cut, same_parts}
use Rattle.rb_lock.proofs.shared.Shared.split.Goals as goal

pub next_name-requires-clause-hand : goal.next_name-requires-clause-hand
next_name-requires-clause-hand g c = found_in_hand {T = g.row.T.Denot} (pass_of c.pass.inside.seat.table_id c.pass.inside.seat.me.0) _ _ c.pass.invariant.rest c.take.ensures.taken

pub give-requires-clause-holds : goal.give-requires-clause-holds
give-requires-clause-holds g c =
    none_may_give {T = g.row.T.Denot} (pass_of c.pass.inside.seat.table_id c.pass.inside.seat.me.0) c.pass.inside.seat.me c.take.new.seat.me c.next_name.new.seat.me
    c.pass.invariant.rest c.take.ensures.taken c.in_default.ensures.names

pub give_and_draw-requires-clause-holds : goal.give_and_draw-requires-clause-holds
give_and_draw-requires-clause-holds g c =
    may_draw {T = g.row.T.Denot} (pass_of c.pass.inside.seat.table_id c.pass.inside.seat.me.0) c.pass.inside.seat.me c.take.new.seat.me c.next_name.new.seat.me
    c.pass.invariant.rest c.take.ensures.taken c.in-Some.name c.in-Some.ensures.names

pub split_seat-seat-requires : goal.split_seat-seat-requires
split_seat-seat-requires g c = (
  c.give_and_draw.ensures.table
      ∙ (c.in-Some.ensures.table ∙ (c.take.ensures.table ∙ (ap (λ (p : PassState). p.table) c.pass.view_is ∙ (c.requires.pass ∙ sym c.self.view_is)))),
  omega (arith, c.self.invariant.words),
  may_cut {T = g.row.T.Denot} (pass_of c.pass.inside.seat.table_id c.pass.inside.seat.me.0) c.pass.inside.seat.me c.take.new.seat.me c.next_name.new.seat.me
      c.pass.invariant.rest c.take.ensures.taken c.in-Some.name c.in-Some.ensures.names c.give_and_draw.new.seat.me c.give_and_draw.ensures.drawn c.give_and_draw.new.seat.id,
)

pub returns-clause-parts : goal.returns-clause-parts
returns-clause-parts g c =
    let cut = c.split_seat-seat in
    (λ i. (cut.ensures.2 i).0.parts + (cut.ensures.4 i).0.parts)
    ∙ same_parts {T = g.row.T.Denot} (pass_of c.pass.inside.seat.table_id c.pass.inside.seat.me.0) c.pass.inside.seat.me c.take.new.seat.me c.next_name.new.seat.me
    c.pass.invariant.rest c.take.ensures.taken c.in-Some.name c.in-Some.ensures.names c.give_and_draw.new.seat.me c.give_and_draw.ensures.drawn
    ∙ ap (λ (p : PassState). p.parts) c.pass.view_is
