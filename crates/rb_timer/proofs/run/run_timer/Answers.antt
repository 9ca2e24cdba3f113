-- One more answer is one more step of the run.
use Rattle.std.proofs.Common.{◌<◌, length, rules, arith}
use Rattle.rb_timer.specs.declared.command.TimerCommand.TheVariants.{Insert}
use Rattle.rb_timer.proofs.Runs.{run_taken_more}
use Rattle.rb_timer.proofs.run.run_timer.Goals as goal

pub loop-command-preserved : goal.loop-command-preserved
loop-command-preserved g c =
    let room = g.T.Timer.room c.loop-command.timer in
    let between = g.T.Timer.content c.loop-command.timer in
    let old = g.T.Timer.content c.args.timer.now in
    let new = g.T.Timer.content c.answer.new.timer in
    let commands = c.args.commands.now in
    let place = c.loop-command.command-index in
    let within : place < length commands = omega arith in
    let before = c.loop-command.invariant in
    record {
      run = rw (← before.room) (run_taken_more room between new c.answer.result old commands place
          (Insert 0 0) c.loop-command.answers.items c.push_reserved.new.self.items within c.push_reserved.ensures.items
          (rw before.room before.run) c.answer.ensures.step);
      room = search rules;
      answered = omega arith;
      reserved = omega arith;
    }
