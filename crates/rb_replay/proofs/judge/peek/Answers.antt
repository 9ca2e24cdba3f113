-- A peek may show nothing exactly where the size is 0.
use Rattle.rb_replay.proofs.Judgements.{empties_by_size}
use Rattle.rb_replay.proofs.judge.peek.Goals as goal

pub returns-in-None : goal.returns-in-None
returns-in-None c = λ now. rw c.in-None.is (empties_by_size c.args.queue.now now c.size.result c.ensure.result c.size.ensures c.ensure.ensures)
