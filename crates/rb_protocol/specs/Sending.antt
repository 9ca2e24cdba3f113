-- What a writer has got of a text that was sent to it.
use Rattle.std.specs.Prelude.{◌≡◌, ℕ, List, ◌++◌, Option, Result, Ok, Err}
use Rattle.std.specs.Io.KnownBytes.{Appends}
use Rattle.rb_protocol.specs.declared.streams.writing.WriteFault.{WriteFault}

-- the text was sent whole, or after a fault a first part of it
abbrev pub Sends : {T : Type 0} → Result T WriteFault → Option (List ℕ) → List ℕ → Option (List ℕ) → Type 0
Sends (Ok _) got text got' = Appends got got' text
Sends (Err fault) got text got' = (sent : List ℕ) × (unsent : List ℕ) × (text ≡ sent ++ unsent) × Appends got got' sent

-- The text may be handed to a recipient in pieces, while this is shown to it: of each piece it demands no more than holds
-- once it has got what stands before that.
abbrev pub Accepts : {W V : Type 0} → (W → Option (List ℕ)) → (W → V → List ℕ → Type 0) → W → V → List ℕ → Type 0
Accepts {W = W} contents demands old shown text =
    (earlier piece later : List ℕ) (new : W) → text ≡ earlier ++ (piece ++ later)
    → Appends (contents old) (contents new) earlier → demands new shown piece
