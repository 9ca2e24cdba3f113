-- The gate may let no wait begin; and a call that can't wait is one try, which the gate does not see.
use Rattle.std.proofs.Common.{◌≡◌, ◌⊎◌, ℕ, length, ap, subst, sym, ◌∙◌, inl, inr, Ok, Result}
use Rattle.rb_queue.specs.declared.ask.Ask.{Ask}
use Rattle.rb_queue.specs.declared.ask.Ask.TheVariants.{Take, PollFor}
use Rattle.rb_retry.specs.Asked.{MayWait}
use Rattle.rb_kept.specs.declared.outcome.Outcome.{Outcome}
use Rattle.rb_kept.specs.declared.fault.CallFault.{CallFault}
use Rattle.rb_lock.specs.SharedCalls.{Answered}
use Rattle.rb_blocking.specs.WaitingCalls.{try_of}
use Rattle.rb_shared_desk.specs.WaitRules.{wait_rules}
use Rattle.rb_shared_desk.proofs.SharedEndings.{steps_kept_out, steps_replied, few_through}
use Rattle.rb_shared_desk.proofs.shared_desk.SharedDeskDesk.call.Goals as goal

-- a take and a timed poll may wait
waits : (ask : Ask) → (ask ≡ Take) ⊎ ((start : ℕ) × (timeout : ℕ) × (ask ≡ PollFor start timeout)) → MayWait ask
waits ask (inl is) = subst MayWait (sym is) tt
waits ask (inr (start, timeout, is)) = subst MayWait (sym is) tt

pub returns-then-not-begins-clause-step : goal.returns-then-not-begins-clause-step
returns-then-not-begins-clause-step g c =
    let desk = c.args.self.now in
    steps_kept_out {C = g.row.C.Denot} {G = g.row.G.Denot} (wait_rules g.C.Clock g.G.Gate)
    (record { reference = desk.pass.ghost_name; pass = desk.pass.now; clock = desk.waiter.clock.now; gate = desk.gate.now; before = length desk.start.value.mine })
    c.args.asked c.args.ask desk.earlier c.name.ensures.sound (waits c.args.ask c.in-Take.is) (c.begins.ensures.kept_out c.if-not-begins.true)

pub returns-in-Done : goal.returns-in-Done
returns-in-Done g c = record {
  step = steps_replied {C = g.row.C.Denot} {G = g.row.G.Denot} (wait_rules g.C.Clock g.G.Gate)
      (record { reference = c.args.self.now.pass.ghost_name; pass = c.args.self.now.pass.now; clock = c.args.self.now.waiter.clock.now; gate = c.args.self.now.gate.now; before = length c.args.self.now.start.value.mine })
      c.call.new.pass c.args.asked c.args.ask c.in-Done.reply c.args.self.now.earlier c.name.ensures.sound c.call.ensures.learns
      c.in_default.not-Take c.in_default.not-PollFor c.call.ensures.tried
      (subst (λ (result : Result Outcome CallFault). Answered c.args.self.now.pass.now c.call.new.pass (try_of c.args.self.now.pass.now c.args.asked c.args.ask) result)
      (c.in_ok-reply-in_default.was ∙ ap Ok c.in-Done.is) c.call.ensures.answered);
  few = few_through c.call.new.pass (length c.args.self.now.start.value.mine) c.call.ensures.learns.sound;
}
