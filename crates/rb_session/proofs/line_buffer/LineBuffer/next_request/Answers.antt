-- The first line feed ends the first line, which is read as it stands or was too long already.
use Rattle.std.proofs.Common.{◌≡◌, ◌+◌, ◌<◌, List, ℕ, Err, ◌-◌, length, length-drop, length-take, take, drop, ap, refl}
use Rattle.std.proofs.Common.{sym, subst, ◌∙◌, arith, Bool, true, false, Result, Some}
use Rattle.std.specs.Prelude.{slice_range, MatchBool}
use Rattle.rb_session.specs.Buffer.{held_by}
use Rattle.rb_session.specs.Lines.{line_of}
use Rattle.rb_protocol.specs.declared.line_fault.LineFault.TheVariants.{Line}
use Rattle.rb_protocol.specs.declared.line_fault.LineFault.{LineFault}
use Rattle.rb_protocol.specs.declared.request.Request.{Request}
use Rattle.rb_protocol.specs.Reading.{IsReading}
use Rattle.rb_session.specs.declared.line_buffer.TheConstants.{MOST_RAW_BYTES}
use Rattle.rb_session.proofs.Buffers.{first_line, range_after, length-line_of}
use Rattle.rb_session.proofs.LineFeeds.{first_feed}
use Rattle.rb_session.proofs.line_buffer.LineBuffer.next_request.Goals as goal
use Rattle.rb_session.proofs.line_buffer.LineBuffer.next_request.Goals.{then-self, else-self}

-- what stands before a line feed that is too far off is too long for a request
too_long : (raw : List ℕ) → MOST_RAW_BYTES < length raw → IsReading (line_of raw) (Err Line)
too_long raw many = omega (arith, many, length-line_of raw)

-- the line is read as it stands, or is too long already
reading_is : (is_long : Bool) (raw front : List ℕ) (reading : Result Request LineFault)
    → MatchBool is_long (MOST_RAW_BYTES < length raw) (raw ≡ front)
    → (is_long ≡ true → reading ≡ Err Line) → (is_long ≡ false → IsReading (line_of front) reading)
    → IsReading (line_of raw) reading
reading_is true raw front reading many long short =
    subst (λ r. IsReading (line_of raw) r) (sym (long refl)) (too_long raw many)
reading_is false raw front reading same long short =
    subst (λ bytes. IsReading (line_of bytes) reading) (sym same) (short refl)

pub returns-clause-line : goal.returns-clause-line
returns-clause-line c bytes unserved =
    let self = c.args.self.now in
    let feed = first_feed (held_by self) (Some c.in_ok-len.len) (rw c.deref.ensures.value at c.in_ok-len.ensures) in
    let found = first_line self.is_long MOST_RAW_BYTES (held_by self) bytes c.in_ok-len.len feed.0 feed.1 feed.2
    unserved in
    let left = range_after self.bytes.items self.start (c.in_ok-len.len + 1) self.end
    (omega (arith, feed.0, length-take (self.end - self.start) (drop self.start self.bytes.items), self.ordered)) in (
      found.0,
      drop (c.in_ok-len.len + 1) (held_by self),
      found.1,
      found.2,
      reading_is self.is_long found.0 (take c.in_ok-len.len (held_by self)) c.if-self.reading found.3
          (λ long. elim c.if-self.branch [
            | then-self w ↦ w.reading-is
            | else-self w ↦ let clash : true ≡ false =
                sym long ∙ w.if-self.false in absurd (cc)
          ])
          (λ short. elim c.if-self.branch [
            | then-self w ↦ let clash : true ≡ false = sym w.if-self.true ∙ short in absurd (cc)
            | else-self w ↦
                let line = w.without_return.ensures
                ∙ ap (λ (items : List ℕ). line_of (take c.in_ok-len.len (slice_range items self.start self.end)))
                c.deref.ensures.value in
                subst (λ r. IsReading (line_of (take c.in_ok-len.len (held_by self))) r) (sym w.reading-is)
                (subst (λ (bytes : List ℕ). IsReading bytes w.read_request-reading.result) line
                w.read_request-reading.ensures)
          ]),
      sym left,
      omega (
        arith,
        feed.0,
        length-drop (c.in_ok-len.len + 1) (held_by self),
        length-take (self.end - self.start)
            (drop self.start self.bytes.items),
        self.ordered,
        self.within,
        self.small,
      ),
    )
