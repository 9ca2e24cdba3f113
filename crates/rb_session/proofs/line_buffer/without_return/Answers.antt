-- A line loses the carriage return at its end, if it has one there.
use Rattle.std.proofs.Common.{arith}
use Rattle.rb_session.proofs.Buffers.{line_of-return, line_of-other}
use Rattle.rb_session.proofs.line_buffer.without_return.Goals as goal
use Rattle.rb_session.proofs.line_buffer.without_return.Goals.{}
use Rattle.rb_session.proofs.line_buffer.without_return.Goals.{else-len-gt0-via-then-len-gt0+else-raw-len-eq-CARRIAGE_RETURN}
use Rattle.rb_session.proofs.line_buffer.without_return.Goals.{else-len-gt0-via-else-len-gt0}

pub returns-then-raw-len-eq-CARRIAGE_RETURN : goal.returns-then-raw-len-eq-CARRIAGE_RETURN
returns-then-raw-len-eq-CARRIAGE_RETURN c = line_of-return c.args.raw.now c.if-len-gt0.true
    c.if-raw-len-eq-CARRIAGE_RETURN.true

pub returns-else-len-gt0 : goal.returns-else-len-gt0
returns-else-len-gt0 c = line_of-other c.args.raw.now (λ some. elim c.else-len-gt0.branch [
  | else-len-gt0-via-then-len-gt0+else-raw-len-eq-CARRIAGE_RETURN w ↦ w.if-raw-len-eq-CARRIAGE_RETURN.false
  | else-len-gt0-via-else-len-gt0 w ↦ λ last. absurd (omega arith)
])
