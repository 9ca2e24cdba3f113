-- The run is served by the clock and on the queue that were made for it.
use Rattle.std.proofs.Common.{◌≡◌, ◌⊎◌, ℕ, sym, subst, inl}
use Rattle.rb_session.specs.declared.delivery.Delivery.{Delivery}
use Rattle.rb_session.specs.declared.hands_on.HandsOn.{HandsOn}
use Rattle.rb_serving.specs.Serving.{EndsRun, FailsRun}
use Rattle.rb_serving.specs.Terms.{terms_of}
use Rattle.rb_serving.specs.Visits.{Satisfies}
use Rattle.rb_serving.specs.contracts.serve_clock.ServeClockClock.TheImpl as clock_impl
use Rattle.rb_serving.specs.declared.serve_clock.ServeClock.{ServeClock}
use Rattle.rb_serving.proofs.served_run.run_server.Goals as goal

-- a clock with this first moment and this way to count on
same_clock : {C : Type 0} (first : ℕ) (passed : C) (clock : ServeClock C) → clock.first ≡ first → clock.passed ≡ passed
    → clock ≡ record { first = first; passed = passed }
same_clock first passed clock same_first same_passed i = record { first = same_first i; passed = same_passed i }

pub serve_run-requires-clause-honest : goal.serve_run-requires-clause-honest
serve_run-requires-clause-honest g c κs within =
    let queue = c.in-Ok-open.queue in
    let clock = same_clock c.args.opening.last_at c.args.passed c.new-clock.result c.new-clock.ensures.first c.new-clock.ensures.passed in
    subst (λ (clock : ServeClock g.row.C.Denot). Satisfies
    (terms_of g.D.Reader.Read g.D.Writer.Recipient g.D.Gate.Gate (clock_impl.ghosts g.row.C g.C.Clock g.C.Clock-dict) clock
    c.args.options.now.policy (Delivery.Gathered HandsOn.BeforeReadsAndWaits) queue.shared) g.D.Door.awaits g.D.Door.demands) (sym clock)
    (c.requires.honest queue.shared)

pub returns : goal.returns
returns g c =
    let queue = c.in-Ok-open.queue in
    let clock = same_clock c.args.opening.last_at c.args.passed c.new-clock.result c.new-clock.ensures.first c.new-clock.ensures.passed in
    let served = c.serve_run in record {
      ended = inl (
        queue.shared,
        subst (λ (clock : ServeClock g.row.C.Denot). EndsRun
            (terms_of g.D.Reader.Read g.D.Writer.Recipient g.D.Gate.Gate (clock_impl.ghosts g.row.C g.C.Clock g.C.Clock-dict) clock
            c.args.options.now.policy (Delivery.Gathered HandsOn.BeforeReadsAndWaits) queue.shared)
            g.row.T.Denot g.D.Door.has_joined g.B.Recorder.has_begun g.B.Recorder.keeps g.B.Write.contents c.args.opening c.args.options.now
            c.args.door served.result.0 c.args.recorder served.result.1 g.W.Write.contents c.args.writer.now served.new.writer served.result.2
            ⊎ FailsRun g.D.Door.has_joined g.B.Recorder.has_failed c.args.door served.result.0 c.args.recorder served.result.1
            c.args.writer.now served.new.writer served.result.2)
            clock (served.ensures.ended c.args.opening c.in-Ok-open.ensures.opened),
      );
    }
