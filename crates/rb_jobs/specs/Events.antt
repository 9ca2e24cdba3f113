-- Which events a session makes at its desk: at most one for each line, and each has the reply that the line got.
use Rattle.std.specs.Prelude.{◌≡◌, ℕ, ◌+◌, ◌<◌, ◌≤◌, ◌⊎◌, max, sum_by, List, [], ◌∷◌, ◌++◌, length, Some, Result, Ok}
use Rattle.rb_delayed.specs.declared.element.Element.{Element}
use Rattle.rb_queue.specs.Opening.{ids_of}
use Rattle.rb_queue.specs.declared.ask.Ask.{Ask}
use Rattle.rb_queue.specs.declared.ask.Ask.TheVariants as asks
use Rattle.rb_queue.specs.declared.reply.Reply.{Reply}
use Rattle.rb_queue.specs.declared.reply.Reply.TheVariants.{Offered}
use Rattle.rb_kept.specs.Log.{Log}
use Rattle.rb_kept.specs.Tries.{IsActOf}
use Rattle.rb_retry.specs.Made.{Made, made_after}
use Rattle.rb_retry.specs.KeptSteps.{KeptState}
use Rattle.rb_retry.specs.DeskRules.{DeskRules, desk_rules}
use Rattle.rb_retry.specs.declared.desk.Desk as Desk
use Rattle.rb_retry.specs.declared.policy.Policy.{Policy}
use Rattle.rb_protocol.specs.declared.request.Request.{Request}
use Rattle.rb_protocol.specs.declared.request.Request.TheVariants as requests
use Rattle.rb_protocol.specs.declared.line_fault.LineFault.{LineFault}
use Rattle.rb_protocol.specs.declared.line_reply.LineReply.{LineReply}
use Rattle.rb_protocol.specs.declared.line_reply.LineReply.TheVariants as lines
use Rattle.rb_jobs.specs.HeldIds.{AreHeldOnce}
use Rattle.rb_jobs.specs.JobEnds.{AreSpent, AreUnspent, done_by, dead_by, handed_by}
use Rattle.rb_session.specs.Turn.{Point, IsFirstDraft, lines_for}
use Rattle.rb_session.specs.Session.{Turn, Serves}
use Rattle.rb_session.specs.Closing.{Closes}

-- the ask is one that the request makes
abbrev pub IsAskOf : Request → Ask → Type 0
IsAskOf (requests.Offer delay payload) (asks.Offer draft) = (expiry : ℕ) × IsFirstDraft draft expiry payload
IsAskOf (requests.OfferAt expiry payload) (asks.Offer draft) = IsFirstDraft draft expiry payload
IsAskOf requests.Poll asks.Poll = Unit {0}
IsAskOf (requests.PollFor timeout) (asks.PollFor start within) = within ≡ timeout
IsAskOf requests.Take asks.Take = Unit {0}
IsAskOf requests.Peek asks.Peek = Unit {0}
IsAskOf (requests.Remove id) (asks.Remove removed) = removed ≡ id
IsAskOf (requests.Drain most) (asks.Drain drained) = drained ≤ most
IsAskOf requests.Clear asks.Clear = Unit {0}
IsAskOf requests.Size asks.Size = Unit {0}
IsAskOf (requests.Fail id) (asks.Offer draft) = (origin : ℕ) × (draft.origin ≡ Some origin)
IsAskOf _ _ = ⊥

-- the element is of that one's job, one attempt later
abbrev pub IsNextOf : Element → Element → Type 0
IsNextOf element again = (again.origin ≡ element.origin) × (again.attempt ≡ element.attempt + 1)
    × (again.payload ≡ element.payload)

-- an element that is offered begins a job, whose origin it is
abbrev pub BeginsOne : Reply → Type 0
BeginsOne (Offered element) =
    (element.origin ≡ element.id) × (element.first ≡ element.expiry) × (element.attempt ≡ 1)
BeginsOne _ = Unit {0}

-- The lines that a request got tell of an event with this reply, and these elements failed: of a failure the one that it
-- names, whose next attempt was offered, and otherwise none.
abbrev pub TellsOf : Request → Reply → List LineReply → List Element → Type 0
TellsOf (requests.Fail id) (Offered again) replies failed =
    (element : Element) × (failed ≡ element ∷ []) × (element.id ≡ id) × IsNextOf element again
    × (replies ≡ lines.Again again.id again.expiry ∷ [])
TellsOf (requests.Fail id) _ replies failed = ⊥
TellsOf _ reply replies failed = (failed ≡ []) × BeginsOne reply × (replies ≡ lines_for (Ok reply))

-- the line answers what was read, and tells of no event
abbrev pub TellsOfNone : LineReply → Result Request LineFault → Type 0
TellsOfNone (lines.Err word) reading = Unit {0}
TellsOfNone lines.Stopped reading = Unit {0}
TellsOfNone (lines.Now moment) (Ok (requests.At set)) = Unit {0}
TellsOfNone (lines.Done id) (Ok (requests.Done done)) = id ≡ done
TellsOfNone (lines.Dead id) (Ok (requests.Fail failed)) = id ≡ failed
TellsOfNone lines.Bye (Ok requests.Quit) = Unit {0}
TellsOfNone _ _ = ⊥

-- One event was made by a line: it is of what the line's request asks, and the line's replies tell of it.
pub record IsOfLine (reading : Result Request LineFault) (replies : List LineReply) (made : Made) (failed : List Element)
    : Type 0 where
  pub request : Request
  pub read : reading ≡ Ok request
  pub ask : Ask
  pub asks : IsAskOf request ask
  pub act : IsActOf ask made.event.act
  pub reply : Reply
  pub replied : made.reply ≡ Some reply
  pub tells : TellsOf request reply replies failed

-- what a line made: an event of which its replies tell, or none, and then they tell of none; and which elements failed
abbrev pub AreOfLine : Result Request LineFault → List LineReply → List Made → List Element → Type 0
AreOfLine reading replies [] failed =
    (failed ≡ []) × (line : LineReply) × (replies ≡ line ∷ []) × TellsOfNone line reading
AreOfLine reading replies (made ∷ []) failed = IsOfLine reading replies made failed
AreOfLine reading replies _ failed = ⊥

-- What a line did, from the jobs that were held before it to those that are held behind it: the event that it made, or
-- none; and each job that was held or was handed out is held on, or the line says that it is done, is dead after its
-- last attempt, or failed and was offered again. That is so however much each element counts.
pub record IsOfTurn (policy : Policy) (before : List Element) (turn : Turn) (made : List Made)
    (done dead failed after : List Element) : Type 0 where
  pub events : AreOfLine turn.reading turn.replies made failed
  pub done_ids : ids_of done ≡ done_by turn.replies
  pub dead_ids : ids_of dead ≡ dead_by turn.replies
  pub spent : AreSpent policy dead
  pub unspent : AreUnspent policy failed
  pub parted : (amount : Element → ℕ) → sum_by amount before + sum_by amount (handed_by turn.replies)
      ≡ sum_by amount done + sum_by amount dead + sum_by amount failed + sum_by amount after

-- what these lines made, one after the other, and which elements they say are done and dead
abbrev pub AreOfLines : Policy → List Element → List Turn → List Made → List Element → List Element → List Element → Type 0
AreOfLines policy before [] made done dead after = (made ≡ []) × (done ≡ []) × (dead ≡ []) × (after ≡ before)
AreOfLines policy before (turn ∷ turns) made done dead after =
    (here : List Made) × (more : List Made) × (made ≡ here ++ more)
    × (ended : List Element) × (others : List Element) × (done ≡ ended ++ others)
    × (died : List Element) × (rest : List Element) × (dead ≡ died ++ rest)
    × (failed : List Element) × (between : List Element) × IsOfTurn policy before turn here ended died failed between
    × AreOfLines policy between turns more others rest after

-- What these held jobs made as a session ended, in their order, and which were lost: each had had its last attempt, or
-- made the offer of its next one, or was lost.
abbrev pub AreOfClosing : Policy → List Element → List Made → List Element → Type 0
AreOfClosing policy [] made lost = (made ≡ []) × (lost ≡ [])
AreOfClosing policy (element ∷ held) made lost =
    ((policy.attempts ≤ element.attempt) × AreOfClosing policy held made lost)
    ⊎ (((again : Element) × (first : Made) × (more : List Made) × (made ≡ first ∷ more)
    × (first.reply ≡ Some (Offered again)) × IsNextOf element again
    × (element.attempt < policy.attempts) × AreOfClosing policy held more lost)
    ⊎ ((more : List Element) × (lost ≡ element ∷ more)
    × (element.attempt < policy.attempts) × AreOfClosing policy held made more))

-- the moment after a line of a desk whose clock stands still until it is set
abbrev pub moment_after : ℕ → Result Request LineFault → ℕ
moment_after moment (Ok (requests.At set)) = max set moment
moment_after moment _ = moment

-- the moment after these lines
abbrev pub latest : ℕ → List Turn → ℕ
latest moment [] = moment
latest moment (turn ∷ turns) = latest (moment_after moment turn.reading) turns

module _ {D V : Type 0} (words : Desk.Ghosts D V) where
  -- the law of lines that are served: what the desk made is what these lines made
  abbrev pub MakesByLines : Type 0
  MakesByLines =
      (policy : Policy) (from to : Point words.State) (turns : List Turn)
      → Serves (desk_rules words policy) from turns to
      → (made : List Made) × (words.mine to.desk ≡ words.mine from.desk ++ made)
      × (done : List Element) × (dead : List Element) × AreOfLines policy from.held turns made done dead to.held

  -- the law of jobs that are held at the end
  abbrev pub MakesByClosing : Type 0
  MakesByClosing =
      (policy : Policy) (from to : words.State) (held : List Element) (lost : ℕ)
      → Closes (desk_rules words policy) from held lost to
      → (made : List Made) × (words.mine to ≡ words.mine from ++ made)
      × (gone : List Element) × (length gone ≡ lost) × AreOfClosing policy held made gone

  -- the law of what is held: a session that begins with nothing never holds two jobs of one id
  abbrev pub HoldsOnce : Type 0
  HoldsOnce =
      (policy : Policy) (from to : Point words.State) (turns : List Turn) → from.held ≡ []
      → Serves (desk_rules words policy) from turns to → AreHeldOnce to.held

-- the events of a log's history, each with its reply
abbrev pub made_in : Log → List Made
made_in log = made_after log.opening [] log.history

-- at a desk over a kept queue, by its rules under each policy
module _ (rules : Policy → DeskRules KeptState) where
  -- the law of lines: the history grows by what they made, each event with its reply, and the clock stands at the latest
  -- moment
  abbrev pub RecordsByLines : Type 0
  RecordsByLines =
      (policy : Policy) (from to : Point KeptState) (turns : List Turn) → Serves (rules policy) from turns to
      → (made : List Made) × (made_in to.desk.log ≡ made_in from.desk.log ++ made)
      × (done : List Element) × (dead : List Element) × AreOfLines policy from.held turns made done dead to.held
      × (to.desk.moment ≡ latest from.desk.moment turns)

  -- the law of jobs that are held at the end
  abbrev pub RecordsByClosing : Type 0
  RecordsByClosing =
      (policy : Policy) (from to : KeptState) (held : List Element) (lost : ℕ)
      → Closes (rules policy) from held lost to
      → (made : List Made) × (made_in to.log ≡ made_in from.log ++ made)
      × (gone : List Element) × (length gone ≡ lost) × AreOfClosing policy held made gone × (to.moment ≡ from.moment)
