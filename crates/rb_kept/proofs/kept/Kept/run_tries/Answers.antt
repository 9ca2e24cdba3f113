-- Each try adds a step behind those before it, so the log after the last try is legal.
use Rattle.std.proofs.Common.{◌+◌, ap, refl, ◌∙◌, arith}
use Rattle.rb_queue.specs.History.{IsLegal}
use Rattle.rb_kept.proofs.Logs.{StepsAlong-more, legal_along, grows_none, grows_on}
use Rattle.rb_kept.proofs.kept.Kept.run_tries.Goals as goal

pub loop-one-init : goal.loop-one-init
loop-one-init g c = record {
  along = rw c.in_ok-steps.ensures.items refl;
  grows = grows_none c.args.self.now c.args.tally.now;
  items = c.deref-one-items.ensures.value;
  counted = c.in_ok-steps.ensures.len;
  room = omega (arith, c.in_ok-steps.ensures.capacity, c.len.ensures, c.deref-one-items.ensures.len);
}

pub loop-one-preserved : goal.loop-one-preserved
loop-one-preserved g c = record {
  along = rw c.push_reserved.ensures.items
      (StepsAlong-more c.args.self.now c.loop-one.self c.act.new.self c.deref-one-items.result.now c.loop-one.steps.items c.loop-one.one-index c.one-item.result c.act.result
      c.loop-one-test.true c.one-item.is c.loop-one.invariant.along c.act.ensures.step);
  grows = grows_on c.args.self.now c.loop-one.self c.act.new.self c.args.tally.now c.loop-one.tally c.act.new.tally c.loop-one.invariant.grows c.act.ensures.tally;
  items = c.loop-one.invariant.items;
  counted = c.push_reserved.ensures.len ∙ ap (λ n. n + 1) c.loop-one.invariant.counted;
  room = rw c.push_reserved.ensures.capacity c.loop-one.invariant.room;
}

pub returns-clause-legal : goal.returns-clause-legal
returns-clause-legal g c =
    let before : IsLegal c.args.self.now.opening c.args.self.now.history = rw (← c.self.view_is) c.self.invariant.legal in
    legal_along _ _ _ _ c.loop-one.invariant.along before
