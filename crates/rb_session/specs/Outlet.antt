-- Where a session's replies go. No public clause cites this module.
use Rattle.std.specs.Prelude.{◌≡◌, ℕ, List, ◌++◌, Option, Result}
use Rattle.std.specs.Io.KnownBytes.{Appends, append_known}
use Rattle.rb_protocol.specs.declared.streams.recipient.Recipient as Recipient
use Rattle.rb_protocol.specs.Sending.{Accepts}
use Rattle.rb_protocol.specs.Writes.{WritesOn, TellsOf}
use Rattle.rb_retry.specs.DeskRules.{DeskRules}
use Rattle.rb_session.specs.Growth.{KeepsFront}
use Rattle.rb_session.specs.Rules.{SessionRules, session_rules, HadGotBehind}
use Rattle.rb_session.specs.declared.outlet.Outlet.{Outlet}

module _ {W V : Type 0} (writer : Recipient.Ghosts W V) where
  -- the bytes that were sent to it, after those that its writer had before, if they are known
  abbrev pub sent_to : Outlet W → Option (List ℕ)
  sent_to outlet = append_known (writer.contents outlet.writer.inner.now) outlet.gathered.items

  -- What may become of an outlet: it keeps its writer, never takes back what that has got, and delivers as before.
  pub record Becomes (old new : Outlet W) : Type 0 where
    pub on : WritesOn old.writer new.writer
    pub grows : KeepsFront (writer.contents old.writer.inner.now) (writer.contents new.writer.inner.now)
    pub delivery : new.delivery ≡ old.delivery

  -- This text was sent: what was held back, and then this, is what the writer got in between and what is held back now.
  pub record Passes (old : Outlet W) (text : List ℕ) (new : Outlet W) : Type 0 where
    pub handed : List ℕ
    pub parts : old.gathered.items ++ text ≡ handed ++ new.gathered.items
    pub got : Appends (writer.contents old.writer.inner.now) (writer.contents new.writer.inner.now) handed

  -- its writer accepts what is held back, if this is shown to it
  abbrev pub MayHandOn : Outlet W → V → Type 0
  MayHandOn outlet shown =
      Accepts writer.contents writer.demands outlet.writer.inner.now shown outlet.gathered.items

  -- and this text behind it
  abbrev pub MaySend : Outlet W → V → List ℕ → Type 0
  MaySend outlet shown text =
      Accepts writer.contents writer.demands outlet.writer.inner.now shown (outlet.gathered.items ++ text)

  -- what its writer tells of what gave this result
  abbrev pub WriterTells : {T E : Type 0} → Result T E → Outlet W → Outlet W → Type 0
  WriterTells result old new = TellsOf result old.writer.status.now.state new.writer.status.now

-- the rules of a session from this outlet on
abbrev pub rules_at : {S W V : Type 0} → DeskRules S → (writer : Recipient.Ghosts W V) → Outlet W → SessionRules S
rules_at desk writer outlet =
    session_rules desk outlet.delivery (HadGotBehind writer.contents (sent_to writer outlet))
