-- What each write took goes behind what the writer had got of the bytes before.
use Rattle.std.proofs.Common.{◌-◌, [], ◌≡◌, ◌⊎◌, ℕ, inl, inr, arith, length, length-take, length-drop, drop, Result, Ok, Err}
use Rattle.std.specs.Prelude.{IsErrAnd}
use Rattle.std.specs.declared.io.Error.{Error}
use Rattle.rb_protocol.specs.declared.streams.writer_state.WriterState.{WriterState}
use Rattle.rb_protocol.specs.declared.streams.writer_state.WriterState.TheVariants.{Failed}
use Rattle.rb_protocol.proofs.Accepted.{parts_of}
use Rattle.rb_protocol.proofs.WrittenBytes.{appends_more, writes_then}
use Rattle.rb_protocol.proofs.streams.writing.write_out.Goals as goal

-- a write that took some bytes did not fail
had_failed : (state : WriterState) (count : ℕ) (result : Result ℕ Error) (IsBad : Error → Type 0) → result ≡ Ok count
    → (count ≡ 0 → ⊥) → (state ≡ Failed) ⊎ ((result ≡ Ok 0) ⊎ IsErrAnd result IsBad) → state ≡ Failed
had_failed state count result IsBad is some (inl failed) = failed
had_failed state count (Ok none) IsBad is some (inr (inl nothing)) = absurd (some (cc))
had_failed state count (Ok none) IsBad is some (inr (inr never)) = absurd never
had_failed state count (Err error) IsBad is some (inr either) = absurd (cc)

-- what is left goes behind what was taken
pub write-requires-clause-demanded : goal.write-requires-clause-demanded
write-requires-clause-demanded g c =
    c.requires _ _ [] c.loop-taken.writer.inner.now (parts_of c.args.bytes.now c.loop-taken.taken)
    c.loop-taken.invariant.got.written

pub loop-taken-preserved-in-Ok : goal.loop-taken-preserved-in-Ok
loop-taken-preserved-in-Ok g c =
    let before = c.loop-taken.invariant in record {
      got = record {
        within = omega (arith, c.in-Ok.ensures.bound, before.got.within, length-take (length c.args.bytes.now - c.loop-taken.taken) (drop c.loop-taken.taken c.args.bytes.now), length-drop c.loop-taken.taken c.args.bytes.now);
        written = appends_more _ _ _ _ _ c.in-Ok.count before.got.written c.in-Ok.ensures.bytes;
      };
      well = λ failed. before.well (had_failed c.loop-taken.writer.status.now.state c.in-Ok.count c.write.result _ c.in-Ok.is c.in-Ok.count-test.1 (c.write.ensures.state.0 failed));
      on = writes_then before.on c.write.ensures.on;
    }
