-- With a device the history was written to it, and without one nothing was to be written.
use Rattle.std.proofs.Common.{refl}
use Rattle.rb_serving.proofs.serve_end.end_server.Goals as goal

pub returns-in-Some-clause-recorded : goal.returns-in-Some-clause-recorded
returns-in-Some-clause-recorded g c = rw c.in-Some.is (rw c.ended.ensures.recorded c.write_recording-recorded.ensures.records)

pub returns-in-None-clause-recorded : goal.returns-in-None-clause-recorded
returns-in-None-clause-recorded g c = rw c.in-None.is (rw c.ended-in-None.ensures.recorded refl)
