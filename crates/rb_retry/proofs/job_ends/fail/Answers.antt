-- The retry was computed from the element that the job is, so its draft is the job's next attempt.
use Rattle.std.proofs.Common.{refl}
use Rattle.rb_retry.proofs.job_ends.fail.Goals as goal

pub returns-in-Ok : goal.returns-in-Ok
returns-in-Ok g c = record { fails = (c.in-Some.draft, rw c.element.ensures at c.in-Some.ensures, c.in-Ok.ensures.step) }

pub returns-in-Err : goal.returns-in-Err
returns-in-Err g c = record { fails = (c.in-Some.draft, rw c.element.ensures at c.in-Some.ensures, c.in-Err.ensures.step, refl) }
