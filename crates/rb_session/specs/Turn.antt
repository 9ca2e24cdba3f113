-- What a session answers to one line, at a desk of any kind.
use Rattle.std.specs.Prelude.{◌≡◌, ℕ, ◌+◌, ◌-◌, min, nat_le, nat_lt, MatchBool, MatchOption, Result, Ok, Err}
use Rattle.std.specs.Prelude.{List, [], ◌∷◌, ◌++◌, length, map, remove, slice_get, Option, Some, None}
use Rattle.rb_delayed.specs.declared.element.Element.{Element}
use Rattle.rb_delayed.specs.declared.moment.TheConstants.{GREATEST_MOMENT}
use Rattle.rb_queue.specs.declared.draft.Draft.{Draft}
use Rattle.rb_queue.specs.declared.ask.Ask.{Ask}
use Rattle.rb_queue.specs.declared.ask.Ask.TheVariants as asks
use Rattle.rb_queue.specs.declared.reply.Reply.{Reply}
use Rattle.rb_queue.specs.declared.reply.Reply.TheVariants.{Offered, Item, Nothing, Head}
use Rattle.rb_queue.specs.declared.reply.Reply.TheVariants.{Removed, Drained, Cleared, Size}
use Rattle.rb_kept.specs.declared.fault.CallFault.{CallFault}
use Rattle.rb_retry.specs.DeskRules.{DeskRules}
use Rattle.rb_retry.specs.Jobs.{FailsTo}
use Rattle.rb_retry.specs.KeptSteps.{fault_of}
use Rattle.rb_retry.specs.declared.desk_fault.DeskFault.{DeskFault}
use Rattle.rb_retry.specs.declared.desk_fault.DeskFault.TheVariants.{Full, Memory, Stopped}
use Rattle.rb_retry.specs.declared.verdict.Verdict.{Verdict}
use Rattle.rb_retry.specs.declared.verdict.Verdict.TheVariants.{Again, Dead}
use Rattle.rb_protocol.specs.declared.request.Request.{Request}
use Rattle.rb_protocol.specs.declared.request.Request.TheVariants as requests
use Rattle.rb_protocol.specs.declared.line_fault.LineFault.{LineFault}
use Rattle.rb_protocol.specs.declared.line_reply.LineReply.{LineReply}
use Rattle.rb_protocol.specs.declared.line_reply.LineReply.TheVariants as lines
use Rattle.rb_protocol.specs.declared.err_word.ErrWord.TheVariants as words
use Rattle.rb_protocol.specs.FaultWord.{word_for}
use Rattle.rb_session.specs.Held.{place_of}
use Rattle.rb_session.specs.declared.held_jobs.TheConstants.{MOST_HELD}

-- the line for a fault of the desk
abbrev pub fault_line : DeskFault → LineReply
fault_line Full = lines.Err words.Full
fault_line Memory = lines.Err words.Memory
fault_line Stopped = lines.Stopped

-- the first line for a reply: a drain's items come behind it
abbrev pub reply_line : Reply → LineReply
reply_line (Offered element) = lines.Offered element.id element.expiry
reply_line (Item element) = lines.Item element
reply_line Nothing = lines.Nothing
reply_line (Head element) = lines.Head element
reply_line (Removed found) = lines.Removed found
reply_line (Drained items) = lines.Drained (length items)
reply_line Cleared = lines.Cleared
reply_line (Size count) = lines.Size count

-- the elements that an answer hands out
abbrev pub fetched_by : Result Reply DeskFault → List Element
fetched_by (Ok (Item element)) = element ∷ []
fetched_by (Ok (Drained items)) = items
fetched_by _ = []

-- the lines for an answer of the desk
abbrev pub lines_for : Result Reply DeskFault → List LineReply
lines_for (Ok (Drained items)) = lines.Drained (length items) ∷ map lines.Item items
lines_for (Ok reply) = reply_line reply ∷ []
lines_for (Err fault) = fault_line fault ∷ []

-- the line for a moment that was set, or for a clock that can't be set
abbrev pub moment_line : Option ℕ → LineReply
moment_line (Some moment) = lines.Now moment
moment_line None = lines.Err words.Syntax

-- the line for a job that failed
abbrev pub verdict_line : Result Verdict (Element × CallFault) → LineReply
verdict_line (Ok (Again again)) = lines.Again again.id again.expiry
verdict_line (Ok (Dead dead)) = lines.Dead dead.id
verdict_line (Err (back, fault)) = fault_line (fault_of fault)

-- what is held after the element at this place failed: not that one, unless its next attempt was refused
abbrev pub held_after : Result Verdict (Element × CallFault) → List Element → ℕ → List Element
held_after (Ok verdict) held place = remove held place
held_after (Err refused) held place = held

-- the draft of a first element with this expiry and this payload
pub record IsFirstDraft (draft : Draft) (expires : ℕ) (bytes : List ℕ) : Type 0 where
  pub expiry : draft.expiry ≡ expires
  pub origin : draft.origin ≡ None
  pub first : draft.first ≡ None
  pub attempt : draft.attempt ≡ 1
  pub payload : draft.payload ≡ bytes

-- Before a line: the desk's state, and what the session holds.
pub record Point (S : Type 0) : Type 0 where
  pub desk : S
  pub held : List Element

abbrev pub point : {S : Type 0} → S → List Element → Point S
point desk held = record { desk = desk; held = held }

-- the desk is left alone, and this is the one line
abbrev pub AnswersAlone : {S : Type 0} → LineReply → Point S → List LineReply → Point S → Type 0
AnswersAlone due old replies new = (replies ≡ due ∷ []) × (new ≡ old)

-- the job at this place is done, and the desk is left alone
abbrev pub IsDone : {S : Type 0} → Point S → ℕ → ℕ → List LineReply → Point S → Type 0
IsDone old id place replies new =
    (replies ≡ lines.Done id ∷ []) × (new.desk ≡ old.desk) × (new.held ≡ remove old.held place)

-- the clock is set, where it can be
abbrev pub IsSetting : {S : Type 0} → (S → ℕ → Option ℕ → S → Type 0) → Point S → ℕ → List LineReply → Point S → Type 0
IsSetting Sets old moment replies new =
    (result : Option ℕ) × Sets old.desk moment result new.desk
    × (replies ≡ moment_line result ∷ []) × (new.held ≡ old.held)

module _ {S : Type 0} (Steps : S → ℕ → Ask → Result Reply DeskFault → S → Type 0) where
  -- the desk is asked, the lines are its answer's, and what it hands out is held
  abbrev pub IsCall : Point S → ℕ → Ask → List LineReply → Point S → Type 0
  IsCall old handed ask replies new =
      (answer : Result Reply DeskFault) × Steps old.desk handed ask answer new.desk
      × (replies ≡ lines_for answer) × (new.held ≡ old.held ++ fetched_by answer)

  -- a fetch of one job, unless as many are held as may be
  abbrev pub IsFetch : Point S → ℕ → Ask → List LineReply → Point S → Type 0
  IsFetch old handed ask replies new = MatchBool (nat_lt (length old.held) MOST_HELD)
      (IsCall old handed ask replies new)
      (AnswersAlone (lines.Err words.Held) old replies new)

module _ {S : Type 0} (rules : DeskRules S) where
  -- the job at this place fails
  abbrev pub IsFailure : Point S → ℕ → ℕ → List LineReply → Point S → Type 0
  IsFailure old now place replies new =
      (element : Element) × (slice_get old.held place ≡ Some element)
      × (result : Result Verdict (Element × CallFault))
      × FailsTo rules element now old.desk result new.desk
      × (replies ≡ verdict_line result ∷ []) × (new.held ≡ held_after result old.held place)

  -- What a request gets at one reading of the desk's clock: the lines, and the point after it. A take
  -- hands in no moment.
  abbrev pub IsServed : Point S → ℕ → Request → List LineReply → Point S → Type 0
  IsServed old now (requests.Offer delay payload) replies new = MatchBool (nat_le (now + delay) GREATEST_MOMENT)
      ((draft : Draft) × IsFirstDraft draft (now + delay) payload
      × IsCall rules.Steps old now (asks.Offer draft) replies new)
      (AnswersAlone (lines.Err words.Range) old replies new)
  IsServed old now (requests.OfferAt expiry payload) replies new =
      (draft : Draft) × IsFirstDraft draft expiry payload
      × IsCall rules.Steps old now (asks.Offer draft) replies new
  IsServed old now requests.Poll replies new = IsFetch rules.Steps old now asks.Poll replies new
  IsServed old now (requests.PollFor timeout) replies new =
      IsFetch rules.Steps old now (asks.PollFor now timeout) replies new
  IsServed old now requests.Take replies new = IsFetch rules.Steps old 0 asks.Take replies new
  IsServed old now requests.Peek replies new = IsCall rules.Steps old now asks.Peek replies new
  IsServed old now (requests.Remove id) replies new = IsCall rules.Steps old now (asks.Remove id) replies new
  IsServed old now (requests.Drain most) replies new =
      IsCall rules.Steps old now (asks.Drain (min most (MOST_HELD - length old.held))) replies new
  IsServed old now requests.Clear replies new = IsCall rules.Steps old now asks.Clear replies new
  IsServed old now requests.Size replies new = IsCall rules.Steps old now asks.Size replies new
  IsServed old now (requests.Done id) replies new = MatchOption (place_of old.held id)
      (AnswersAlone (lines.Err words.NotHeld) old replies new)
      (λ place. IsDone old id place replies new)
  IsServed old now (requests.Fail id) replies new = MatchOption (place_of old.held id)
      (AnswersAlone (lines.Err words.NotHeld) old replies new)
      (λ place. IsFailure old now place replies new)
  IsServed old now (requests.At moment) replies new = IsSetting rules.Sets old moment replies new
  IsServed old now requests.Quit replies new = AnswersAlone lines.Bye old replies new

  -- What a line gets, by what it is read as.
  abbrev pub IsTurn : Point S → Result Request LineFault → List LineReply → Point S → Type 0
  IsTurn old (Err fault) replies new = AnswersAlone (lines.Err (word_for fault)) old replies new
  IsTurn old (Ok request) replies new = (now : ℕ) × rules.gives old.desk now × IsServed old now request replies new

  -- The line did not have to wait: it is no request that may, for an expiry or for another client's offer; or one try at
  -- a reading of the desk's clock answered it with these lines, and led to this point.
  abbrev pub NeedsNoWait : Point S → Result Request LineFault → List LineReply → Point S → Type 0
  NeedsNoWait old (Ok requests.Take) replies new =
      (now : ℕ) × rules.gives old.desk now × IsFetch rules.Tries old now asks.Take replies new
  NeedsNoWait old (Ok (requests.PollFor timeout)) replies new =
      (now : ℕ) × rules.gives old.desk now × IsFetch rules.Tries old now (asks.PollFor now timeout) replies new
  NeedsNoWait old reading replies new = Unit {0}
