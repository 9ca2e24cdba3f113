-- The answers so far are those to the commands so far, and there is room for the rest.
use Rattle.std.proofs.Common.{◌≡◌, ◌≤◌, length, take, vec_len, vec_capacity}
use Rattle.rb_timer.specs.Run.{Run}
use Rattle.rb_timer.proofs.run.run_timer.Given as goal

abbrev pub invariant-loop-command : goal.invariant-loop-command
invariant-loop-command g l =
    let content = g.T.Timer.content in
    let room = g.T.Timer.room in
    record {
      run : Run (room l.fn.timer) (content l.fn.timer) (take l.command-index l.commands) l.answers.items (content l.timer);
      room : room l.timer ≡ room l.fn.timer;
      answered : vec_len l.answers ≡ l.command-index;
      reserved : length l.commands ≤ vec_capacity l.answers;
    }
