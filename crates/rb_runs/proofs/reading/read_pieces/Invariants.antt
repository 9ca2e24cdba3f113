-- The text is what was read of the stream so far, no read was given back, and the piece has kept its length.
use Rattle.std.proofs.Common.{◌≡◌, ◌≤◌, length}
use Rattle.std.specs.Io.KnownBytes.{Consumes}
use Rattle.rb_protocol.specs.Reads.{HasNotFailed}
use Rattle.rb_runs.proofs.reading.read_pieces.Given as goal

abbrev pub invariant-loop-reader : goal.invariant-loop-reader
invariant-loop-reader g l = record {
  consumed : Consumes (g.R.Read.remaining l.fn.reader.inner.now) (g.R.Read.remaining l.reader.inner.now) l.text.items;
  fewer : l.reader.left ≤ l.fn.reader.left;
  still : HasNotFailed l.fn.reader.state l.reader.state;
  len : length l.piece ≡ length l.fn.piece;
  same_reference : l.reader.inner.ghost_name ≡ l.fn.reader.inner.ghost_name;
}

-- each turn reads once
abbrev pub decreases-loop-reader : goal.decreases-loop-reader
decreases-loop-reader g l = l.reader.left
