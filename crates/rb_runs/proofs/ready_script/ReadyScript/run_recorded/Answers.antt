-- The log that the session led to is what was recorded, if it was.
use Rattle.std.proofs.Common.{refl, sym, ◌∙◌}
use Rattle.rb_runs.proofs.RecordedScripts.{kept, unkept, ran_recorded}
use Rattle.rb_runs.proofs.ready_script.ReadyScript.run_recorded.Goals as goal

pub returns-then-records-clause-ran : goal.returns-then-records-clause-ran
returns-then-records-clause-ran g c =
    let session = c.run_session-writer.ensures in
    ran_recorded g.B.Recorder.keeps g.B.Write.contents _ _ _ _ _ _ _ _ _ _ session.ran
    (kept g.B.Recorder.keeps g.B.Write.contents _ _ _ _ _ (sym c.records.ensures ∙ c.if-records.true)
    (c.recorded-recording.ensures _ session.begun))

pub returns-clause-ran : goal.returns-clause-ran
returns-clause-ran g c =
    let session = c.run_session-writer in
    let recorder = c.args.recorder.now in
    ran_recorded g.B.Recorder.keeps g.B.Write.contents _ _ _ _ _ session.result.2 session.result.1 _ recorder recorder session.ensures.ran
    (unkept g.B.Recorder.keeps g.B.Write.contents session.result.2 session.result.1 recorder recorder
    (sym c.records.ensures ∙ c.if-records.false) refl)
