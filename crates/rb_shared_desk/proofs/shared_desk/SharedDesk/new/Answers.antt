-- No more were made through a desk than its pass has seen, and that is at most MOST_CALLS.
use Rattle.std.proofs.Common.{length}
use Rattle.rb_shared_desk.proofs.SharedEndings.{few_through}
use Rattle.rb_shared_desk.proofs.shared_desk.SharedDesk.new.Goals as goal

pub returns-clause-few : goal.returns-clause-few
returns-clause-few g c = few_through c.args.pass.now (length c.of-start.result.value.mine) c.name.ensures.sound
