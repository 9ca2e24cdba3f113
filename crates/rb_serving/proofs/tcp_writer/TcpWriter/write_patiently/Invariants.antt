-- A write that gave up when it had waited long enough appended nothing.
use Rattle.std.specs.Io.KnownBytes.{Keeps}
use Rattle.rb_serving.proofs.tcp_writer.TcpWriter.write_patiently.Given as goal

abbrev pub invariant-loop : goal.invariant-loop
invariant-loop g l = Keeps (g.W.Write.contents l.fn.self.stream) (g.W.Write.contents l.self.stream)
