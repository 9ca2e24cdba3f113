-- Which events a whole run of a session makes at its desk, however it ends.
use Rattle.std.specs.Prelude.{◌≡◌, ℕ, ◌<◌, ◌⊎◌, List, [], ◌∷◌, ◌++◌, length, Option, Result, Err}
use Rattle.std.specs.Io.KnownBytes.{IsAtEnd}
use Rattle.rb_delayed.specs.declared.element.Element.{Element}
use Rattle.rb_retry.specs.Made.{Made}
use Rattle.rb_retry.specs.KeptSteps.{KeptState}
use Rattle.rb_retry.specs.DeskRules.{DeskRules, desk_rules}
use Rattle.rb_retry.specs.declared.desk.Desk as Desk
use Rattle.rb_retry.specs.declared.policy.Policy.{Policy}
use Rattle.rb_protocol.specs.declared.format.TheConstants.{LINE_FEED}
use Rattle.rb_protocol.specs.declared.line_fault.LineFault.TheVariants.{Line}
use Rattle.rb_protocol.specs.Line.{HasNoLineFeed}
use Rattle.rb_session.specs.Rules.{session_rules, HadGotBehind}
use Rattle.rb_session.specs.Served.{Served, lost_in}
use Rattle.rb_session.specs.Session.{Turn, IsLine, answers_of}
use Rattle.rb_session.specs.Ran.{Ran}
use Rattle.rb_jobs.specs.JobEnds.{handed_out}
use Rattle.rb_jobs.specs.Events.{AreOfLines, AreOfClosing, made_in, latest}
use Rattle.rb_session.specs.declared.delivery.Delivery.{Delivery}
use Rattle.rb_session.specs.declared.ended.Ended.{Ended}
use Rattle.rb_session.specs.declared.session_fault.SessionFault.{SessionFault}
use Rattle.rb_session.specs.declared.session_fault.SessionFault.TheVariants.{Write}

-- These lines stand first in the bytes, one after the other, and are read so. Once the input is over, a truncated
-- line may be the last.
abbrev pub StandFirst : Type 0 → List ℕ → List Turn → Type 0
StandFirst Over bytes [] = Unit {0}
StandFirst Over bytes (turn ∷ turns) =
    ((rest : List ℕ) × (bytes ≡ turn.raw ++ LINE_FEED ∷ rest) × IsLine turn.raw turn.reading
    × StandFirst Over rest turns)
    ⊎ (Over × (bytes ≡ turn.raw) × (0 < length bytes) × HasNoLineFeed bytes
    × (turn.reading ≡ Err Line) × (turns ≡ []))

-- some of these elements, in their order
abbrev pub AreSomeOf : List Element → List Element → Type 0
AreSomeOf [] all = Unit {0}
AreSomeOf (element ∷ elements) [] = ⊥
AreSomeOf (element ∷ elements) (first ∷ all) =
    ((element ≡ first) × AreSomeOf elements all) ⊎ AreSomeOf (element ∷ elements) all

-- nothing was left unsent, unless a write failed
abbrev pub SendsAll : Result Ended SessionFault → List ℕ → Type 0
SendsAll (Err (Write lost)) unsent = Unit {0}
SendsAll ended unsent = unsent ≡ []

-- Some lines were served, which stand first in what came, a QUIT and a truncated line among them. Their replies are
-- what was sent and, after a failing write, what was not. The lines made events and ended jobs, one after the
-- other; then each job that was still held had had its last attempt, was offered again, or was lost. By all these events it
-- grew.
pub record MadeByRun (policy : Policy) (Over : Type 0) (served : Served) (Grows : List Made → Type 0) : Type 0 where
  pub lines : List Turn
  pub stand : StandFirst Over served.came lines
  pub unsent : List ℕ
  pub answers : answers_of lines ≡ served.sent ++ unsent
  pub all_sent : SendsAll served.ended unsent
  pub by_lines : List Made
  pub held : List Element
  pub handed : AreSomeOf held (handed_out lines)
  pub done : List Element
  pub dead : List Element
  pub of_lines : AreOfLines policy [] lines by_lines done dead held
  pub by_closing : List Made
  pub lost : List Element
  pub of_closing : AreOfClosing policy held by_closing lost
  pub lost_count : length lost ≡ lost_in served.ended
  pub grows : Grows (by_lines ++ by_closing)

-- the law of runs: what was made through the desk grows by just what the run made
abbrev pub MakesByRun : {D V W : Type 0} → Desk.Ghosts D V → (W → Option (List ℕ)) → Type 0
MakesByRun words contents =
    (policy : Policy) (got : Option (List ℕ)) (delivery : Delivery) (rest : Option (List ℕ))
    (from to : words.State) (served : Served)
    → Ran (session_rules (desk_rules words policy) delivery (HadGotBehind contents got)) (IsAtEnd rest) from served to
    → MadeByRun policy (IsAtEnd rest) served (λ made. words.mine to ≡ words.mine from ++ made)

-- the law of runs at a desk over a kept queue, by its rules under each policy: the history grows by just what the run
-- made, each event with its reply, the clock stands at the latest moment, and what the log began with stays
abbrev pub RecordsByRun : {W : Type 0} → (Policy → DeskRules KeptState) → (W → Option (List ℕ)) → Type 0
RecordsByRun rules contents =
    (policy : Policy) (got : Option (List ℕ)) (delivery : Delivery) (rest : Option (List ℕ))
    (from to : KeptState) (served : Served)
    → Ran (session_rules (rules policy) delivery (HadGotBehind contents got)) (IsAtEnd rest) from served to
    → (run : MadeByRun policy (IsAtEnd rest) served (λ made. made_in to.log ≡ made_in from.log ++ made))
    × (to.moment ≡ latest from.moment run.lines) × (to.log.opening ≡ from.log.opening)
