-- The jobs that are left go behind those that are held, the last of them first.
use Rattle.std.proofs.Common.{◌≡◌, ◌+◌, ◌≤◌, ◌++◌}
use Rattle.std.specs.Prelude.{reverse, vec_len, vec_capacity}
use Rattle.rb_session.specs.Held.{AreNew}
use Rattle.rb_session.specs.JobMap.{held_in, AreFiled}
use Rattle.rb_session.specs.declared.held_jobs.TheConstants.{MOST_HELD}
use Rattle.rb_session.proofs.job_map.put_all.Given as goal

abbrev pub invariant-loop-job : goal.invariant-loop-job
invariant-loop-job l = record {
  filed : AreFiled l.jobs l.count;
  few : l.count + vec_len l.fetched ≤ MOST_HELD;
  held : held_in l.jobs.entries l.count ++ reverse l.fetched.items
      ≡ held_in l.fn.jobs.entries l.fn.count ++ l.fn.fetched.items;
  new : AreNew (held_in l.jobs.entries l.count) (reverse l.fetched.items);
  capacity : vec_capacity l.fetched ≡ vec_capacity l.fn.fetched;
}

abbrev pub decreases-loop-job : goal.decreases-loop-job
decreases-loop-job l = vec_len l.fetched
