-- There was no memory for a piece that was read: what is lost is the text so far, and that piece.
use Rattle.std.proofs.KnownBytes.{Consumes-trans}
use Rattle.std.proofs.lemmas.Result.{err_from_is_err_and}
use Rattle.rb_runs.proofs.reading.read_pieces.Goals as goal

pub returns-in_err-extend_from_slice-in-Ok-clause-reads : goal.returns-in_err-extend_from_slice-in-Ok-clause-reads
returns-in_err-extend_from_slice-in-Ok-clause-reads g c =
    let p = err_from_is_err_and c.from_residual.result c.from_residual.ensures.1 in
    rw (p.1, p.2) (tt, (_, Consumes-trans _ _ _ _ _ c.loop-reader.invariant.consumed c.in-Ok.ensures.bytes.0))
