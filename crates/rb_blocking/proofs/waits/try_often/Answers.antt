-- A try that ends with `Later` makes no event and learns, so what the wait keeps lasts to the next.
use Rattle.std.proofs.Common.{◌≡◌, ℕ, ◌+◌, suc, Ok, Err, Result, true, false, [], ◌∷◌, refl, sym, ap, subst, ◌∙◌, arith}
use Rattle.std.proofs.lemmas.List.{append-nil}
use Rattle.rb_kept.specs.declared.outcome.Outcome.{Outcome}
use Rattle.rb_kept.specs.declared.fault.CallFault.{CallFault}
use Rattle.rb_lock.specs.SharedCalls.{Answered}
use Rattle.rb_blocking.specs.GateSteps.{Asked, HasRested, Sees, told, turns_of}
use Rattle.rb_blocking.specs.WaitingCalls.{try_of, FindsNothing, IsReading}
use Rattle.rb_blocking.proofs.GateSteps.{sees_more}
use Rattle.rb_blocking.proofs.LearnedPasses.{learns_nothing, learns_on, replied_after}
use Rattle.rb_blocking.proofs.waits.try_often.Given.{Over}
use Rattle.rb_blocking.proofs.waits.try_often.Goals as goal
use Rattle.rb_blocking.proofs.waits.try_often.Goals.{In-Ok-Later}

-- a reading for the number that the wait is told is one for the try that follows so many others
read_for : {C : Type 0} (gives : C → ℕ → Type 0) (reads : C → ℕ → ℕ → Type 0) (clock : C) (moment turns tries : ℕ)
    → turns ≡ told tries → gives clock moment → reads clock turns moment → IsReading gives reads clock (told tries) moment
read_for gives reads clock moment turns tries is given read = (given, subst (λ number. reads clock number moment) is read)

-- such a try found nothing that has expired
found_nothing : (g : Over) (c : In-Ok-Later g) (tries : ℕ) → c.loop.turns ≡ told tries
    → FindsNothing (IsReading g.C.Clock.gives g.C.Clock.reads c.args.waiter.now.clock.now (told tries))
    c.loop.pass c.call.new.pass c.args.ask.now
found_nothing g c tries is =
    let later = subst (λ (r : Result Outcome CallFault). Answered c.loop.pass c.call.new.pass (try_of c.loop.pass c.now_for_try-asked.result c.args.ask.now) r)
    (c.in-Ok-Later.is ∙ ap Ok c.in-Ok-Later.field-0-is) c.call.ensures.answered in record {
      asked = c.now_for_try-asked.result;
      read = read_for g.C.Clock.gives g.C.Clock.reads c.args.waiter.now.clock.now c.now_for_try-asked.result c.loop.turns tries is c.now_for_try-asked.ensures.given c.now_for_try-asked.ensures.read;
      expiry = c.in-Ok-Later.expiry;
      learns = c.call.ensures.learns;
      tried = c.call.ensures.tried;
      room = later.1;
      waits = later.2;
      mine = later.0;
    }

pub loop-init : goal.loop-init
loop-init g c = (
  learns_nothing c.args.pass.now c.name.ensures.sound,
  refl,
  λ n goes_on. (λ answers. answers, λ answers. answers),
  (0, refl, omega arith, refl, λ before had. subst (g.G.Gate.has_seen c.args.gate.now) (sym (append-nil before)) had),
)

pub loop-preserved : goal.loop-preserved
loop-preserved g c =
    let before = c.loop.invariant in
    let (tries, is, tried, waited, saw) = before.3 in
    let nothing = found_nothing g (goal.at.loop-preserved g c).In-Ok-Later tries is in
    let went_on : g.G.Gate.answers c.args.gate.now (told tries) true =
    subst (λ turns. g.G.Gate.answers c.args.gate.now turns true) is ((before.2 c.loop.turns true).0 c.if-not-turn.ensures.answers) in (
      learns_on c.args.pass.now c.loop.pass c.call.new.pass before.0 c.call.ensures.learns,
      nothing.mine ∙ before.1,
      λ n goes_on. (λ answers. (before.2 n goes_on).0 ((c.turn.ensures.same n goes_on).0 ((c.rested.ensures.same n goes_on).0 answers)), λ answers. (c.rested.ensures.same n goes_on).1 ((c.turn.ensures.same n goes_on).1 ((before.2 n goes_on).1 answers))),
      (
        suc tries,
        omega (arith, is, c.saturating_add-turns.ensures),
        omega (arith, tried, nothing.tried),
        (c.loop.pass, waited, nothing, went_on),
        sees_more g.G.Gate.has_seen c.args.gate.now c.loop.gate c.rested.new.self (turns_of c.args.pass.now.tried tries) (Asked (told tries) true ∷ HasRested (c.args.pass.now.tried + suc tries) ∷ []) saw
            (sees_more g.G.Gate.has_seen c.loop.gate c.turn.new.self c.rested.new.self (Asked (told tries) true ∷ []) (HasRested (c.args.pass.now.tried + suc tries) ∷ [])
            (subst (λ turns. Sees g.G.Gate.has_seen c.loop.gate c.turn.new.self (Asked turns true ∷ [])) is c.if-not-turn.ensures.seen)
            (subst (λ tried. Sees g.G.Gate.has_seen c.turn.new.self c.rested.new.self (HasRested tried ∷ [])) (omega (arith, tried, nothing.tried)) c.rested.ensures.seen)),
      ),
    )

pub returns-in-Ok-Done-clause-waited : goal.returns-in-Ok-Done-clause-waited
returns-in-Ok-Done-clause-waited g c =
    let before = c.loop.invariant in
    let (tries, is, tried, waited, saw) = before.3 in record {
      tries = tries;
      before = c.loop.pass;
      waited = waited;
      seen = saw;
      learns = c.call.ensures.learns;
      tried = c.call.ensures.tried;
      asked = c.now_for_try-asked.result;
      read = read_for g.C.Clock.gives g.C.Clock.reads c.args.waiter.now.clock.now c.now_for_try-asked.result c.loop.turns tries is c.now_for_try-asked.ensures.given c.now_for_try-asked.ensures.read;
      replied =
          replied_after c.args.pass.now c.loop.pass before.0 before.1 c.args.ask.now c.now_for_try-asked.result c.in-Ok-Done.reply c.call.new.pass
          (subst (λ (r : Result Outcome CallFault). Answered c.loop.pass c.call.new.pass (try_of c.loop.pass c.now_for_try-asked.result c.args.ask.now) r)
          (c.in-Ok-Done.is ∙ ap Ok c.in-Ok-Done.field-0-is) c.call.ensures.answered);
    }

pub returns-then-not-turn-clause-waited : goal.returns-then-not-turn-clause-waited
returns-then-not-turn-clause-waited g c =
    let before = c.loop.invariant in
    let (tries, is, tried, waited, saw) = before.3 in record {
      tries = tries;
      before = c.loop.pass;
      waited = waited;
      seen =
          sees_more g.G.Gate.has_seen c.args.gate.now c.loop.gate c.turn.new.self (turns_of c.args.pass.now.tried tries) (Asked (told tries) false ∷ []) saw
          (subst (λ turns. Sees g.G.Gate.has_seen c.loop.gate c.turn.new.self (Asked turns false ∷ [])) is c.if-not-turn.ensures.seen);
      last = found_nothing g (goal.at.returns-then-not-turn-clause-waited g c).In-Ok-Later tries is;
      stopped = subst (λ turns. g.G.Gate.answers c.args.gate.now turns false) is ((before.2 c.loop.turns false).0 c.if-not-turn.ensures.answers);
    }

pub returns-in-Err-Full-clause-waited : goal.returns-in-Err-Full-clause-waited
returns-in-Err-Full-clause-waited g c =
    let before = c.loop.invariant in
    let (tries, is, tried, waited, saw) = before.3 in
    let full = subst (λ (r : Result Outcome CallFault). Answered c.loop.pass c.call.new.pass (try_of c.loop.pass c.now_for_try-asked.result c.args.ask.now) r)
    (c.in-Err-Full.is ∙ ap Err c.in-Err-Full.field-0-is) c.call.ensures.answered in record {
      tries = tries;
      before = c.loop.pass;
      waited = waited;
      seen = saw;
      learns = c.call.ensures.learns;
      tried = c.call.ensures.tried;
      asked = c.now_for_try-asked.result;
      read = read_for g.C.Clock.gives g.C.Clock.reads c.args.waiter.now.clock.now c.now_for_try-asked.result c.loop.turns tries is c.now_for_try-asked.ensures.given c.now_for_try-asked.ensures.read;
      ends = record { full = full.1; mine = full.0 ∙ before.1 };
    }
