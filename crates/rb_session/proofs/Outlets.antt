-- Where serving stopped, and why; what was served, where what answers it could not be handed on.
use Rattle.std.proofs.Common.{◌≡◌, ℕ, ◌<◌, ◌≤◌, List, [], ◌++◌, Option, Some, Result, Ok, Err, inl, inr, sym, ap, subst, ◌∙◌, arith}
use Rattle.std.proofs.lemmas.List.{append-nil}
use Rattle.std.specs.Prelude.{IsErr}
use Rattle.rb_protocol.specs.Line.{HasNoLineFeed}
use Rattle.rb_protocol.specs.declared.streams.limited_reader.LimitedReader.{LimitedReader}
use Rattle.rb_protocol.specs.declared.streams.reader_state.ReaderState.{ReaderState}
use Rattle.rb_protocol.specs.declared.streams.writing.WriteFault.{WriteFault}
use Rattle.rb_session.specs.Rules.{SessionRules, IsGathered, most_held_back}
use Rattle.rb_session.specs.Turn.{Point}
use Rattle.rb_session.specs.Session.{ServesFirst, ServesToEnd}
use Rattle.rb_session.specs.Ran.{BreaksOff, FailsToSend, ServesSome}
use Rattle.rb_session.specs.Reasons.{IsReason}
use Rattle.rb_session.specs.Progress.{Stops, FailsToRead, ReadsOn, end_of}
use Rattle.rb_session.specs.declared.delivery.Delivery.{Delivery}
use Rattle.rb_session.specs.declared.delivery.Delivery.TheVariants.{AtOnce, Gathered}
use Rattle.rb_session.specs.declared.line_buffer.LineBuffer.{LineBuffer}
use Rattle.rb_session.specs.declared.stop.Stop.{Stop}
use Rattle.rb_session.specs.declared.stop.Stop.TheVariants as stops
use Rattle.rb_session.proofs.Turns.{fails_at_end}

-- something is held back only if replies are gathered
pub gathers : (delivery : Delivery) (held_back : ℕ) → 0 < held_back → held_back ≤ most_held_back delivery
    → IsGathered delivery
gathers AtOnce held_back some few = absurd (omega (arith, some, few))
gathers (Gathered hands_on) held_back some few = tt

module _ {R : Type 0} (old : ReaderState) (new : LimitedReader R) where
  -- why the lines stopped is why the session ended, however many jobs are lost
  pub reason_to_end : (stopped : Result Stop WriteFault) (lost : ℕ) → IsReason old new (end_of stopped 0)
      → IsReason old new (end_of stopped lost)
  reason_to_end (Ok stops.Quit) lost is = is
  reason_to_end (Ok stops.EndOfInput) lost is = is
  reason_to_end (Ok stops.Read) lost is = is
  reason_to_end (Ok stops.ReadTurns) lost is = is
  reason_to_end (Err fault) lost is = is

-- nothing behind some bytes
at_nil : (P : List ℕ → Type 0) (bytes more : List ℕ) → more ≡ [] → P bytes → P (bytes ++ more)
at_nil P bytes more none holds = subst P (sym (ap (λ m. bytes ++ m) none ∙ append-nil bytes)) holds

-- a read that could not be made, or not be answered
pub reads_failed : (delivery : Delivery) (Over : Type 0) (bytes more sent : List ℕ)
    (result : Result (Option Stop) WriteFault) (buffer : LineBuffer) → IsErr result
    → FailsToRead delivery Over bytes more sent → ReadsOn delivery Over bytes more sent result buffer
reads_failed delivery Over bytes more sent (Ok read) buffer failed fails = absurd (cc)
reads_failed delivery Over bytes more sent (Err fault) buffer failed fails = fails

module _ {S : Type 0} (rules : SessionRules S) (Over : Type 0) {from : Point S} where
  -- a write failed
  pub stops_failed : (to : Point S) (came sent : List ℕ) (stopped : Result Stop WriteFault) → IsErr stopped
      → FailsToSend rules Over from came sent to → Stops rules Over from came sent stopped to
  stops_failed to came sent (Ok stop) failed fails = absurd (cc)
  stops_failed to came sent (Err fault) failed fails = fails

  -- where the lines stopped, some had been served
  pub stops_served : (to : Point S) (came sent : List ℕ) (stop : Stop) → Stops rules Over from came sent (Ok stop) to
      → ServesSome rules Over from came sent to
  stops_served to came sent stops.Quit stopped = inl stopped
  stops_served to came sent stops.EndOfInput stopped = inr (inl stopped)
  stops_served to came sent stops.Read stopped = inr (inr (inl stopped.0))
  stops_served to came sent stops.ReadTurns stopped = inr (inr (inl stopped.0))

  module _ {here : Point S} {came sent : List ℕ} (first : ServesFirst rules from came sent here)
      (no_feed : HasNoLineFeed first.unserved) (more text : List ℕ) where
    -- what was served could not be handed on before a read, or the last bytes could not be answered
    pub fails_to_read : (delivery : Delivery) → delivery ≡ rules.delivery → FailsToRead delivery Over first.unserved more text
        → FailsToSend rules Over from (came ++ more) (sent ++ text) here
    fails_to_read delivery same (none, inl (late, nothing)) =
        at_nil (λ b. FailsToSend rules Over from b (sent ++ text) here) came more none
        (at_nil (λ t. FailsToSend rules Over from came t here) sent text nothing
        (inr (subst IsGathered same late, inr (inr (inl first)))))
    fails_to_read delivery same (none, inr (over, some, unsent, parts)) =
        at_nil (λ b. FailsToSend rules Over from b (sent ++ text) here) came more none
        (inl (fails_at_end rules first Over over no_feed some text unsent parts))

    broken : more ≡ [] → text ≡ [] → BreaksOff rules from (came ++ more) (sent ++ text) here
    broken none nothing =
        at_nil (λ b. BreaksOff rules from b (sent ++ text) here) came more none
        (at_nil (λ t. BreaksOff rules from came t here) sent text nothing (first, no_feed))

    -- a read stopped the session
    pub stops_reading : (delivery : Delivery) (stop : Stop) (buffer : LineBuffer)
        → ReadsOn delivery Over first.unserved more text (Ok (Some stop)) buffer
        → Stops rules Over from (came ++ more) (sent ++ text) (Ok stop) here
    stops_reading delivery stops.Quit buffer reads = absurd reads
    stops_reading delivery stops.EndOfInput buffer (over, none, is) =
        at_nil (λ b. ServesToEnd rules Over from b (sent ++ text) here) came more none
        (record {
          over = over;
          text = sent;
          first = first;
          no_line = no_feed;
          answers = ap (λ t. sent ++ t) is;
        })
    stops_reading delivery stops.Read buffer (none, nothing) = broken none nothing
    stops_reading delivery stops.ReadTurns buffer (none, nothing) = broken none nothing
