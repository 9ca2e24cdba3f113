-- Where a history's text goes. No public clause cites this module.
use Rattle.std.specs.Prelude.{◌≡◌, ℕ, List, ◌++◌, Option, Result, OnOk}
use Rattle.std.specs.Io.KnownBytes.{Appends}
use Rattle.std.specs.declared.io.Write as Write
use Rattle.rb_protocol.specs.Writes.{WritesOn}
use Rattle.rb_protocol.specs.declared.streams.writing.WriteFault.{WriteFault}
use Rattle.rb_history.specs.declared.outlet.Outlet.{Outlet}

-- Of a text, the writer, which had got `got` before and has got `got'` now, has a first part. While no write has
-- failed, the rest is gathered.
pub record IsShared (sent : Result (Unit {0}) WriteFault) (got got' : Option (List ℕ)) (gathered text : List ℕ) : Type 0 where
  pub passed : List ℕ
  pub rest : List ℕ
  pub parts : text ≡ passed ++ rest
  pub came : Appends got got' passed
  pub held : OnOk sent (rest ≡ gathered)

module _ {W : Type 0} (writer : Write.Ghosts W) where
  -- this text was pushed since the writer had got this
  abbrev pub Holds : Option (List ℕ) → List ℕ → Outlet W writer → Type 0
  Holds got text outlet = IsShared outlet.sent got (writer.contents outlet.writer.inner.now) outlet.gathered.items text

  -- the outlet keeps its writer, and these bytes were pushed behind what was
  pub record Grows (old : Outlet W writer) (bytes : List ℕ) (new : Outlet W writer) : Type 0 where
    pub on : WritesOn old.writer new.writer
    pub holds : (got : Option (List ℕ)) (text : List ℕ) → Holds got text old → Holds got (text ++ bytes) new
