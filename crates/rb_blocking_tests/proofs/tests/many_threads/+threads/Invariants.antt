-- Each half of the threads is smaller, and at least one thread.
use Rattle.std.proofs.Common.{◌+◌, ◌*◌}
use Rattle.rb_blocking_tests.proofs.tests.many_threads.+threads.Given as goal

abbrev pub decreases-run : goal.decreases-run
decreases-run g l = 2 * l.threads

abbrev pub decreases-front : goal.decreases-front
decreases-front g l = 2 * l.half + 1

abbrev pub decreases-back : goal.decreases-back
decreases-back g l = 2 * l.half + 1
