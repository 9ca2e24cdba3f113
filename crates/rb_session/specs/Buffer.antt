-- Which bytes a buffer still has to serve, and what taking a line and reading more do to them.
use Rattle.std.specs.Prelude.{◌≡◌, ℕ, ◌<◌, List, ◌∷◌, ◌++◌, length, slice_range}
use Rattle.std.specs.Prelude.{Option, Some, None, Result, Ok, Err, MatchBool}
use Rattle.std.specs.Io.KnownBytes.{Consumes, Keeps, IsAtEnd}
use Rattle.std.specs.declared.io.Error.{Error}
use Rattle.rb_protocol.specs.Line.{HasNoLineFeed}
use Rattle.rb_session.specs.Lines.{line_of}
use Rattle.rb_protocol.specs.Reading.{IsReading}
use Rattle.rb_protocol.specs.declared.request.Request.{Request}
use Rattle.rb_protocol.specs.declared.line_fault.LineFault.{LineFault}
use Rattle.rb_session.specs.declared.line_buffer.LineBuffer.{LineBuffer}
use Rattle.rb_protocol.specs.declared.format.TheConstants.{LINE_FEED}
use Rattle.rb_protocol.specs.declared.limits.TheConstants.{BUFFER_BYTES}
use Rattle.rb_session.specs.declared.line_buffer.TheConstants.{MOST_RAW_BYTES}

-- the bytes that it holds
abbrev pub held_by : LineBuffer → List ℕ
held_by buffer = slice_range buffer.bytes.items buffer.start buffer.end

-- The bytes may be those that it still has to serve: it holds them, or it holds the last of them, and the first were
-- dropped because no request is that long.
abbrev pub IsUnserved : LineBuffer → List ℕ → Type 0
IsUnserved buffer bytes = MatchBool buffer.is_long
    ((dropped : List ℕ) × HasNoLineFeed dropped × (MOST_RAW_BYTES < length dropped)
    × (bytes ≡ dropped ++ held_by buffer))
    (bytes ≡ held_by buffer)

-- The first line of the bytes is taken and read, or there is none. What stands behind it came with its end, in one
-- read.
abbrev pub TakesLine : List ℕ → Option (Result Request LineFault) → LineBuffer → Type 0
TakesLine bytes None new = HasNoLineFeed bytes × IsUnserved new bytes
TakesLine bytes (Some reading) new = (raw rest : List ℕ)
    × (bytes ≡ raw ++ LINE_FEED ∷ rest) × HasNoLineFeed raw × IsReading (line_of raw) reading
    × IsUnserved new rest × (length rest < BUFFER_BYTES)

-- this many bytes came, behind those that are not served; none only if the input is over
abbrev pub TakesMore : List ℕ → Option (List ℕ) → Result ℕ Error → LineBuffer → Option (List ℕ) → Type 0
TakesMore bytes left (Ok count) new left' = (more : List ℕ)
    × Consumes left left' more × IsUnserved new (bytes ++ more) × (length more ≡ count) × (count ≡ 0 → IsAtEnd left')
TakesMore bytes left (Err error) new left' = Keeps left left' × IsUnserved new bytes
