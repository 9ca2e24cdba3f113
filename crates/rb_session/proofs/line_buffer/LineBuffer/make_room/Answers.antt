-- Bytes that are too long for a request are dropped, all of them.
use Rattle.std.proofs.Common.{◌≡◌, ◌<◌, ◌-◌, true, false, drop, length, length-take, length-drop, sym, ◌∙◌, arith}
use Rattle.std.proofs.Common.{⊎_elim}
use Rattle.std.proofs.lemmas.List.{append-nil}
use Rattle.rb_session.specs.Buffer.{held_by}
use Rattle.rb_session.specs.declared.line_buffer.TheConstants.{MOST_RAW_BYTES}
use Rattle.rb_session.proofs.Buffers.{too_long}
use Rattle.rb_session.proofs.line_buffer.LineBuffer.make_room.Goals as goal

pub returns-then-held-gt-MOST_RAW_BYTES-clause-kept : goal.returns-then-held-gt-MOST_RAW_BYTES-clause-kept
returns-then-held-gt-MOST_RAW_BYTES-clause-kept c bytes unserved none =
    let self = c.args.self.now in
    let held : length (held_by self) ≡ self.end - self.start =
    omega (
      arith,
      length-take (self.end - self.start) (drop self.start self.bytes.items),
      length-drop self.start
          self.bytes.items,
      self.ordered,
      self.within,
    ) in
    let more : self.is_long ≡ false → MOST_RAW_BYTES < length (held_by self) = λ short.
    ⊎_elim (λ long. let clash : true ≡ false = sym long ∙ short in absurd (cc)) (λ many. omega (arith, held, many.1))
    c.if-held-gt-MOST_RAW_BYTES.either in
    (bytes, none, too_long self.is_long MOST_RAW_BYTES (held_by self) bytes more unserved, sym (append-nil bytes))
