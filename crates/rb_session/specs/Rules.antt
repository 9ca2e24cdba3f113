-- By what rules a session is served.
use Rattle.std.specs.Prelude.{ℕ, List, Option}
use Rattle.std.specs.Io.KnownBytes.{Appends}
use Rattle.rb_retry.specs.DeskRules.{DeskRules}
use Rattle.rb_session.specs.declared.delivery.Delivery.{Delivery}
use Rattle.rb_session.specs.declared.delivery.Delivery.TheVariants.{AtOnce, Gathered}
use Rattle.rb_session.specs.declared.delivery.TheConstants.{GATHERED_BYTES}
use Rattle.rb_session.specs.declared.hands_on.HandsOn.TheVariants.{BeforeReads, BeforeReadsAndWaits}

-- replies are gathered, so that some may be lost which were sent before a write failed
abbrev pub IsGathered : Delivery → Type 0
IsGathered AtOnce = ⊥
IsGathered (Gathered hands_on) = Unit {0}

-- how many bytes of replies may be held back
abbrev pub most_held_back : Delivery → ℕ
most_held_back AtOnce = 0
most_held_back (Gathered hands_on) = GATHERED_BYTES

-- what answers the lines before is written before a request waits
abbrev pub WritesBeforeWaits : Delivery → Type 0
WritesBeforeWaits AtOnce = Unit {0}
WritesBeforeWaits (Gathered BeforeReads) = ⊥
WritesBeforeWaits (Gathered BeforeReadsAndWaits) = Unit {0}

-- The rules of a session: those of its desk, when its replies are written, and which texts its writer had got at some
-- time.
pub record SessionRules (S : Type 0) : Type 1 where
  pub desk : DeskRules S
  pub delivery : Delivery
  pub HadGot : List ℕ → Type 0

-- A writer that gets replies only before reads need not have got them before a wait.
abbrev pub session_rules : {S : Type 0} → DeskRules S → Delivery → (List ℕ → Type 0) → SessionRules S
session_rules desk delivery HadGot =
    record { desk = desk; delivery = delivery; HadGot = λ text. WritesBeforeWaits delivery → HadGot text }

-- Behind these bytes the writer had at some time got just this text. Code over any writer has no value of its type but
-- what its own writer was. Of a writer that doesn't tell its bytes this says nothing.
abbrev pub HadGotBehind : {W : Type 0} → (W → Option (List ℕ)) → Option (List ℕ) → List ℕ → Type 0
HadGotBehind {W = W} contents got text = (writer : W) × Appends got (contents writer) text
