-- What lines keep true of a desk and of what is held. So a part of a desk's state that neither a call nor setting its clock
-- changes, such as its name, stays through a run.
use Rattle.std.proofs.Common.{◌≡◌, ℕ, ◌+◌, Bool, true, false, List, [], ◌∷◌, ◌++◌, Option, Some, None, Result, Ok, Err}
use Rattle.std.proofs.Common.{inl, inr, refl, sym, ap, subst, ◌∙◌, remove}
use Rattle.std.proofs.lemmas.List.{append-nil}
use Rattle.std.specs.Prelude.{MatchBool, MatchOption, nat_le, nat_lt, length}
use Rattle.rb_delayed.specs.declared.element.Element.{Element}
use Rattle.rb_delayed.specs.declared.moment.TheConstants.{GREATEST_MOMENT}
use Rattle.rb_queue.specs.declared.ask.Ask.{Ask}
use Rattle.rb_queue.specs.declared.reply.Reply.{Reply}
use Rattle.rb_kept.specs.declared.fault.CallFault.{CallFault}
use Rattle.rb_retry.specs.DeskRules.{DeskRules}
use Rattle.rb_retry.specs.Jobs.{FailsTo}
use Rattle.rb_retry.specs.declared.desk_fault.DeskFault.{DeskFault}
use Rattle.rb_retry.specs.declared.verdict.Verdict.{Verdict}
use Rattle.rb_retry.specs.declared.verdict.Verdict.TheVariants.{Again, Dead}
use Rattle.rb_protocol.specs.declared.line_fault.LineFault.{LineFault}
use Rattle.rb_protocol.specs.declared.line_reply.LineReply.{LineReply}
use Rattle.rb_protocol.specs.declared.request.Request.{Request}
use Rattle.rb_protocol.specs.declared.request.Request.TheVariants as requests
use Rattle.rb_session.specs.Closing.{Closes}
use Rattle.rb_session.specs.Held.{place_of}
use Rattle.rb_session.specs.Ran.{FailsToSend, RanUntil, ServesSome}
use Rattle.rb_session.specs.Rules.{SessionRules}
use Rattle.rb_session.specs.Served.{Served}
use Rattle.rb_session.specs.Session.{Turn, Serves, ServesFirst}
use Rattle.rb_session.specs.Turn.{Point, point, IsTurn, IsServed, IsCall, IsFetch, AnswersAlone, fetched_by, held_after}
use Rattle.rb_session.specs.declared.held_jobs.TheConstants.{MOST_HELD}
use Rattle.rb_session.specs.declared.ended.Ended.{Ended}
use Rattle.rb_session.specs.declared.ended.Ended.TheVariants as ends
use Rattle.rb_session.specs.declared.session_fault.SessionFault.{SessionFault}
use Rattle.rb_session.specs.declared.session_fault.SessionFault.TheVariants as faults

-- one of two cases
pub of_bool : (test : Bool) (One Other Goal : Type 0) → (One → Goal) → (Other → Goal) → MatchBool test One Other → Goal
of_bool true One Other Goal first second holds = first holds
of_bool false One Other Goal first second holds = second holds

-- nothing, or something at the place that is found
pub of_found : (place : Option ℕ) (None' : Type 0) (At : ℕ → Type 0) (Goal : Type 0) → (None' → Goal)
    → ((p : ℕ) → place ≡ Some p → At p → Goal) → MatchOption place None' At → Goal
of_found None None' At Goal first second holds = first holds
of_found (Some p) None' At Goal first second holds = second p refl holds

-- What calls, removals and settings of the clock keep true of a desk and of what is held, lines keep true.
module _ {S : Type 0} (rules : DeskRules S) (Holds : S → List Element → Type 0)
    (calls : (old new : S) (asked : ℕ) (ask : Ask) (answer : Result Reply DeskFault) (held : List Element)
    → rules.Steps old asked ask answer new → Holds old held → Holds new (held ++ fetched_by answer))
    (removes : (desk : S) (held : List Element) (place : ℕ) → Holds desk held → Holds desk (remove held place))
    (sets : (old new : S) (moment : ℕ) (result : Option ℕ) (held : List Element) → rules.Sets old moment result new
    → Holds old held → Holds new held) where
  abbrev KeptBy : Point S → Point S → Type 0
  KeptBy old new = Holds old.desk old.held → Holds new.desk new.held

  by_call : (old new : Point S) (handed : ℕ) (ask : Ask) (replies : List LineReply)
      → IsCall rules.Steps old handed ask replies new → KeptBy old new
  by_call old new handed ask replies (answer, steps, are, held) holds =
      subst (Holds new.desk) (sym held) (calls old.desk new.desk handed ask answer old.held steps holds)

  left_alone : (old new : Point S) (line : LineReply) (replies : List LineReply) → AnswersAlone line old replies new
      → KeptBy old new
  left_alone old new line replies (is, same) holds = subst (λ (p : Point S). Holds p.desk p.held) (sym same) holds

  by_fetch : (old new : Point S) (handed : ℕ) (ask : Ask) (replies : List LineReply)
      → IsFetch rules.Steps old handed ask replies new → KeptBy old new
  by_fetch old new handed ask replies =
      of_bool (nat_lt (length old.held) MOST_HELD) _ _ _
      (by_call old new handed ask replies) (left_alone old new _ replies)

  pub by_failing : (element : Element) (now : ℕ) (old new : S) (result : Result Verdict (Element × CallFault))
      (held : List Element) (place : ℕ) → FailsTo rules element now old result new → Holds old held
      → Holds new (held_after result held place)
  by_failing element now old new (Ok (Again again)) held place (draft, retry, steps) holds =
      removes new held place (subst (Holds new) (append-nil held) (calls old new now _ _ held steps holds))
  by_failing element now old new (Ok (Dead dead)) held place (retry, is_dead, same) holds =
      removes new held place (subst (λ (s : S). Holds s held) (sym same) holds)
  by_failing element now old new (Err (back, fault)) held place (draft, retry, steps, is_back) holds =
      subst (Holds new) (append-nil held) (calls old new now _ _ held steps holds)

  by_request : (old new : Point S) (now : ℕ) (request : Request) (replies : List LineReply)
      → IsServed rules old now request replies new → KeptBy old new
  by_request old new now (requests.Offer delay payload) replies =
      of_bool (nat_le (now + delay) GREATEST_MOMENT) _ _ _
      (λ offers. by_call old new now _ replies offers.2) (left_alone old new _ replies)
  by_request old new now (requests.OfferAt expiry payload) replies = λ offers. by_call old new now _ replies offers.2
  by_request old new now requests.Poll replies = by_fetch old new now _ replies
  by_request old new now (requests.PollFor timeout) replies = by_fetch old new now _ replies
  by_request old new now requests.Take replies = by_fetch old new 0 _ replies
  by_request old new now (requests.Done id) replies =
      of_found (place_of old.held id) _ _ _ (left_alone old new _ replies)
      (λ place found is holds. subst (Holds new.desk) (sym is.2)
      (removes new.desk old.held place (subst (λ (s : S). Holds s old.held) (sym is.1) holds)))
  by_request old new now (requests.Fail id) replies =
      of_found (place_of old.held id) _ _ _ (left_alone old new _ replies)
      (λ place found fails holds. subst (Holds new.desk) (sym fails.5)
      (by_failing fails.0 now old.desk new.desk fails.2 old.held place fails.3 holds))
  by_request old new now (requests.At moment) replies =
      λ setting holds. subst (Holds new.desk) (sym setting.3)
      (sets old.desk new.desk moment setting.0 old.held setting.1 holds)
  by_request old new now requests.Quit replies = left_alone old new _ replies
  by_request old new now requests.Peek replies = by_call old new now _ replies
  by_request old new now (requests.Remove id) replies = by_call old new now _ replies
  by_request old new now (requests.Drain most) replies = by_call old new now _ replies
  by_request old new now requests.Clear replies = by_call old new now _ replies
  by_request old new now requests.Size replies = by_call old new now _ replies

  pub by_line : (old new : Point S) (reading : Result Request LineFault) (replies : List LineReply)
      → IsTurn rules old reading replies new → KeptBy old new
  by_line old new (Err fault) replies = left_alone old new _ replies
  by_line old new (Ok request) replies = λ turn. by_request old new turn.0 request replies turn.2

  pub by_lines : (old new : Point S) (turns : List Turn) → Serves rules old turns new → KeptBy old new
  by_lines old new [] same holds = subst (λ (p : Point S). Holds p.desk p.held) (sym same) holds
  by_lines old new (turn ∷ turns) (between, is_line, goes_on, is_turn, rest) holds =
      by_lines between new turns rest (by_line old between turn.reading turn.replies is_turn holds)

module _ {S X : Type 0} (rules : SessionRules S) (part : S → X)
    (by_step : (old new : S) (asked : ℕ) (ask : Ask) (answer : Result Reply DeskFault)
    → rules.desk.Steps old asked ask answer new → part new ≡ part old)
    (by_setting : (old new : S) (moment : ℕ) (result : Option ℕ) → rules.desk.Sets old moment result new
    → part new ≡ part old)
    (by_miss : (old new : S) → rules.desk.Misses old new → part new ≡ part old) (Over : Type 0) (from to : S) where
  abbrev IsSame : S → List Element → Type 0
  IsSame desk held = part desk ≡ part from

  called : (old new : S) (asked : ℕ) (ask : Ask) (answer : Result Reply DeskFault) (held : List Element)
      → rules.desk.Steps old asked ask answer new → IsSame old held → IsSame new (held ++ fetched_by answer)
  called old new asked ask answer held steps same = by_step old new asked ask answer steps ∙ same

  removed : (desk : S) (held : List Element) (place : ℕ) → IsSame desk held → IsSame desk (remove held place)
  removed desk held place same = same

  set : (old new : S) (moment : ℕ) (result : Option ℕ) (held : List Element) → rules.desk.Sets old moment result new
      → IsSame old held → IsSame new held
  set old new moment result held sets same = by_setting old new moment result sets ∙ same

  closing : (last end : S) (held : List Element) (lost : ℕ) → Closes rules.desk last held lost end → IsSame last held
      → IsSame end []
  closing last end [] lost (zero, same) is = ap part same ∙ is
  closing last end (element ∷ held) lost (now, is_now, result, between, fails, fewer, rest, sum) is =
      closing between end held fewer rest
      (by_failing rules.desk IsSame called removed set element now last between result [] 0 fails is)

  first_lines : {last : Point S} {came text : List ℕ} → ServesFirst rules (point from []) came text last
      → part last.desk ≡ part from
  first_lines {last = last} first =
      by_lines rules.desk IsSame called removed set (point from []) last first.turns first.serves refl

  some_lines : {last : Point S} {came text : List ℕ} → ServesSome rules Over (point from []) came text last
      → part last.desk ≡ part from
  some_lines (inl quits) = first_lines quits.first
  some_lines (inr (inl ending)) = first_lines ending.first
  some_lines (inr (inr (inl first))) = first_lines first
  some_lines (inr (inr (inr (last, first, missed, same)))) = by_miss last.desk _ missed ∙ first_lines first

  pub stays : (served : Served) (ended : Result Ended SessionFault) → RanUntil rules Over from served ended to
      → part to ≡ part from
  stays served (Ok (ends.Quit lost)) (last, quits, closes) =
      closing last.desk to last.held lost closes (first_lines quits.first)
  stays served (Ok (ends.EndOfInput lost)) (last, ending, closes) =
      closing last.desk to last.held lost closes (first_lines ending.first)
  stays served (Err (faults.Read lost)) (last, breaks, closes) =
      closing last.desk to last.held lost closes (first_lines breaks.0)
  stays served (Err (faults.ReadTurns lost)) (last, breaks, closes) =
      closing last.desk to last.held lost closes (first_lines breaks.0)
  stays served (Err (faults.Write lost)) (last, loses, closes) =
      closing last.desk to last.held lost closes (sent_some loses.fails)
    where
      sent_some : FailsToSend rules Over (point from []) served.came loses.passed last → part last.desk ≡ part from
      sent_some (inl fails) =
          by_line rules.desk IsSame called removed set fails.before_last last fails.reading fails.replies fails.turn
          (first_lines fails.first)
      sent_some (inr (gathers, some)) = some_lines some
  stays served (Err faults.Memory) (same, nothing, silent) = ap part same
