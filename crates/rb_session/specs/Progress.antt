-- How far a session has come. No public clause cites this module.
use Rattle.std.specs.Prelude.{◌≡◌, ℕ, ◌-◌, ◌<◌, ◌⊎◌, Option, Some, None, Result, Ok, Err}
use Rattle.std.specs.Prelude.{List, [], ◌∷◌, ◌++◌, length, map, drop}
use Rattle.rb_delayed.specs.declared.element.Element.{Element}
use Rattle.rb_queue.specs.declared.ask.Ask.{Ask}
use Rattle.rb_queue.specs.declared.ask.Ask.TheVariants.{Offer, Poll, Take, PollFor}
use Rattle.rb_queue.specs.declared.draft.Draft.{Draft}
use Rattle.rb_queue.specs.declared.reply.Reply.{Reply}
use Rattle.rb_kept.specs.declared.fault.CallFault.{CallFault}
use Rattle.rb_retry.specs.Asked.{offer_answer}
use Rattle.rb_retry.specs.declared.desk_fault.DeskFault.{DeskFault}
use Rattle.rb_protocol.specs.declared.line_fault.LineFault.{LineFault}
use Rattle.rb_protocol.specs.declared.request.Request.{Request}
use Rattle.rb_protocol.specs.declared.request.Request.TheVariants as requests
use Rattle.rb_protocol.specs.declared.line_reply.LineReply.{LineReply}
use Rattle.rb_protocol.specs.declared.line_reply.LineReply.TheVariants as lines
use Rattle.rb_protocol.specs.declared.streams.writing.WriteFault.{WriteFault}
use Rattle.rb_session.specs.Buffer.{IsUnserved}
use Rattle.rb_session.specs.Rules.{SessionRules, IsGathered}
use Rattle.rb_session.specs.Turn.{Point, IsFirstDraft, fault_line, reply_line, lines_for, fetched_by}
use Rattle.rb_session.specs.Session.{ServesToEnd, ServesToQuit, rest_text}
use Rattle.rb_session.specs.Ran.{BreaksOff, FailsToSend}
use Rattle.rb_session.specs.declared.delivery.Delivery.{Delivery}
use Rattle.rb_session.specs.declared.line_buffer.LineBuffer.{LineBuffer}
use Rattle.rb_session.specs.declared.ended.Ended.{Ended}
use Rattle.rb_session.specs.declared.ended.Ended.TheVariants as ends
use Rattle.rb_session.specs.declared.session_fault.SessionFault.{SessionFault}
use Rattle.rb_session.specs.declared.session_fault.SessionFault.TheVariants as faults
use Rattle.rb_session.specs.declared.stop.Stop.{Stop}
use Rattle.rb_session.specs.declared.stop.Stop.TheVariants.{Quit, EndOfInput, Read, ReadTurns}

-- the first line for an answer
abbrev pub answer_line : Result Reply DeskFault → LineReply
answer_line (Ok reply) = reply_line reply
answer_line (Err fault) = fault_line fault

-- an element is offered for the first time, and this is the line for what the desk answers
pub record OffersAt {S : Type 0} (Steps : S → ℕ → Ask → Result Reply DeskFault → S → Type 0) (old : S)
    (now expires : ℕ) (bytes : List ℕ) (reply : LineReply) (new : S) : Type 0 where
  pub draft : Draft
  pub is_first : IsFirstDraft draft expires bytes
  pub offered : Result Element CallFault
  pub steps : Steps old now (Offer draft) (offer_answer offered) new
  pub line : reply ≡ answer_line (offer_answer offered)

-- all lines of a reply: behind a drain's come the last elements that are held
abbrev pub replies_of : LineReply → List Element → List LineReply
replies_of (lines.Drained count) held = lines.Drained count ∷ map lines.Item (drop (length held - count) held)
replies_of reply held = reply ∷ []

-- the line is a request that may wait: for an expiry, or for another client's offer
abbrev pub AsksToWait : Result Request LineFault → Type 0
AsksToWait (Ok requests.Take) = Unit {0}
AsksToWait (Ok (requests.PollFor timeout)) = Unit {0}
AsksToWait _ = ⊥

-- the ask is one by which a session fetches one job, at the moment that it names, or at none if it waits by the clock
abbrev pub FetchesOne : ℕ → Ask → Type 0
FetchesOne asked Poll = Unit {0}
FetchesOne asked Take = asked ≡ 0
FetchesOne asked (PollFor start timeout) = asked ≡ start
FetchesOne asked _ = ⊥

-- what an answer hands out is held, and this is its line
pub record IsHolding (old : List Element) (answer : Result Reply DeskFault) (reply : LineReply)
    (new : List Element) : Type 0 where
  pub lines : replies_of reply new ≡ lines_for answer
  pub held : new ≡ old ++ fetched_by answer

-- what is held back could not be handed on before a read, or a part of what answers the last bytes could not be sent
abbrev pub FailsToRead : Delivery → Type 0 → List ℕ → List ℕ → List ℕ → Type 0
FailsToRead delivery Over bytes more sent = (more ≡ [])
    × ((IsGathered delivery × (sent ≡ []))
    ⊎ (Over × (0 < length bytes) × (unsent : List ℕ) × (rest_text bytes ≡ sent ++ unsent)))

-- What reading once comes to, with these bytes still to serve: more came, or the input is over and bytes that no line
-- feed ends are answered.
abbrev pub ReadsOn : Delivery → Type 0 → List ℕ → List ℕ → List ℕ → Result (Option Stop) WriteFault → LineBuffer
    → Type 0
ReadsOn delivery Over bytes more sent (Ok None) buffer = (sent ≡ []) × IsUnserved buffer (bytes ++ more)
ReadsOn delivery Over bytes more sent (Ok (Some EndOfInput)) buffer = Over × (more ≡ []) × (sent ≡ rest_text bytes)
ReadsOn delivery Over bytes more sent (Ok (Some Quit)) buffer = ⊥
ReadsOn delivery Over bytes more sent (Ok (Some stop)) buffer = (more ≡ []) × (sent ≡ [])
ReadsOn delivery Over bytes more sent (Err fault) buffer = FailsToRead delivery Over bytes more sent

-- how a session ends that stopped so
abbrev pub end_of : Result Stop WriteFault → ℕ → Result Ended SessionFault
end_of (Ok Quit) lost = Ok (ends.Quit lost)
end_of (Ok EndOfInput) lost = Ok (ends.EndOfInput lost)
end_of (Ok Read) lost = Err (faults.Read lost)
end_of (Ok ReadTurns) lost = Err (faults.ReadTurns lost)
end_of (Err fault) lost = Err (faults.Write lost)

-- what serving what comes leads to
abbrev pub Stops : {S : Type 0} → SessionRules S → Type 0 → Point S → List ℕ → List ℕ → Result Stop WriteFault
    → Point S → Type 0
Stops rules Over from came sent (Ok Quit) to = ServesToQuit rules from came sent to
Stops rules Over from came sent (Ok EndOfInput) to = ServesToEnd rules Over from came sent to
Stops rules Over from came sent (Ok Read) to = BreaksOff rules from came sent to
Stops rules Over from came sent (Ok ReadTurns) to = BreaksOff rules from came sent to
Stops rules Over from came sent (Err fault) to = FailsToSend rules Over from came sent to
