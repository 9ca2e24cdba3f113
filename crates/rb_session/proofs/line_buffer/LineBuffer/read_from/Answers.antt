-- What is unserved grows at its end by the bytes that were read, and stays where the read failed.
use Rattle.std.proofs.Common.{◌≡◌, ◌<◌, ◌≤◌, ◌-◌, ◌++◌, List, ℕ, ◌+◌, length, take, drop, refl, ap, ◌∙◌, arith}
use borrow.Rule.Slice.PartMut.{post_of}
use Rattle.std.specs.Prelude.{slice_range}
use Rattle.rb_session.specs.Buffer.{held_by}
use Rattle.rb_session.specs.declared.line_buffer.TheConstants.{MOST_RAW_BYTES}
use Rattle.rb_session.proofs.Buffers.{range_more, unserved_more, unserved_same, length-written}
use Rattle.std.proofs.lemmas.List.{with_items_is, length-take-le, append-nil}
use Rattle.std.proofs.lemmas.Result.{err_from_is_err_and}
use Rattle.rb_session.proofs.line_buffer.LineBuffer.read_from.Given.{Over}
use Rattle.rb_session.proofs.line_buffer.LineBuffer.read_from.Goals as goal
use Rattle.rb_session.proofs.line_buffer.LineBuffer.read_from.Goals.{After-read}

abbrev written : (g : Over) → After-read g → List ℕ
written g c =
    let xs = c.deref_mut.result.now in
    take c.make_room.new.self.end xs ++ (c.read.new.buf ++ post_of c.make_room.new.self.end
    (length xs - c.make_room.new.self.end) xs)

-- what is held with the first bytes of those that were read
held_more : (g : Over) (c : After-read g) (count end : ℕ) → end ≡ c.make_room.new.self.end + count
    → count ≤ length c.read.new.buf
    → slice_range (take c.make_room.new.self.bytes.len
    (written g c ++ drop (length (written g c)) c.make_room.new.self.bytes.items)) c.make_room.new.self.start end
    ≡ held_by c.make_room.new.self ++ take count c.read.new.buf
held_more g c count end is fits =
    let before = c.make_room.new.self in
    let xs = c.deref_mut.result.now in
    let within : before.end ≤ length xs = omega (arith, c.make_room.ensures.room, c.deref_mut.ensures.len) in
    let long = length-written xs c.read.new.buf before.end within (omega arith) ∙ c.deref_mut.ensures.len in
    ap (λ (ys : List ℕ). slice_range ys before.start end) (with_items_is before.bytes (written g c) long)
    ∙ ap (slice_range (written g c) before.start) is
    ∙ range_more xs c.read.new.buf (post_of before.end (length xs - before.end) xs) before.start before.end count
    before.ordered within fits
    ∙ ap (λ (ys : List ℕ). slice_range ys before.start before.end ++ take count c.read.new.buf)
    c.deref_mut.ensures.value

pub returns-clause-taken : goal.returns-clause-taken
returns-clause-taken g c bytes unserved none =
    let before = c.make_room.new.self in
    let room : 0 < length c.read.new.buf = omega (arith, c.make_room.ensures.room, c.deref_mut.ensures.len) in
    let grows = held_more g (goal.at.returns-clause-taken g c).After-read c.in_ok-count.count _ refl
    c.in_ok-count.ensures.bound.0 in (
      take c.in_ok-count.count c.read.new.buf,
      c.in_ok-count.ensures.bytes.0,
      unserved_more before.is_long MOST_RAW_BYTES (held_by before) _ _ bytes grows
          (c.make_room.ensures.kept bytes unserved none),
      length-take-le c.in_ok-count.count c.read.new.buf c.in_ok-count.ensures.bound.0,
      λ zero. c.in_ok-count.ensures.bytes.1 zero room,
    )

pub returns-in_err-count-clause-taken : goal.returns-in_err-count-clause-taken
returns-in_err-count-clause-taken g c bytes unserved none =
    let before = c.make_room.new.self in
    let same = held_more g (goal.at.returns-in_err-count-clause-taken g c).After-read 0 before.end (omega arith) (omega arith)
    ∙ append-nil (held_by before) in
    rw (err_from_is_err_and c.from_residual.result c.from_residual.ensures.1).1 (
      c.in_err-count.ensures.bytes,
      unserved_same before.is_long MOST_RAW_BYTES (held_by before) _ bytes same
          (c.make_room.ensures.kept bytes unserved none),
    )
