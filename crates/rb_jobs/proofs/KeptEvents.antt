-- At a kept desk the history grows by what a session makes, and the clock stands at the latest moment that was set.
use Rattle.std.proofs.Common.{◌≡◌, ℕ, List, [], ◌∷◌, Option, Result, Ok, Err, sym, ap, ◌∙◌, arith}
use Rattle.rb_queue.specs.declared.ask.Ask.{Ask}
use Rattle.rb_queue.specs.declared.reply.Reply.{Reply}
use Rattle.rb_retry.specs.Made.{Made}
use Rattle.rb_retry.specs.KeptSteps.{KeptState, KeptSteps, SetsKept, made_at}
use Rattle.rb_retry.specs.KeptLaws.{kept_makes, kept_refuses}
use Rattle.rb_retry.specs.declared.desk_fault.DeskFault.{DeskFault}
use Rattle.rb_retry.specs.declared.policy.Policy.{Policy}
use Rattle.rb_retry.specs.declared.verdict.Verdict.{Verdict}
use Rattle.rb_retry.specs.declared.verdict.Verdict.TheVariants.{Again, Dead}
use Rattle.rb_retry.specs.Asked.{Makes, MayGet}
use Rattle.rb_retry.specs.DeskRules.{kept_rules}
use Rattle.rb_retry.specs.Jobs.{FailsTo}
use Rattle.rb_kept.specs.declared.fault.CallFault.{CallFault}
use Rattle.rb_delayed.specs.declared.element.Element.{Element}
use Rattle.rb_protocol.specs.declared.request.Request.{Request}
use Rattle.rb_protocol.specs.declared.line_fault.LineFault.{LineFault}
use Rattle.rb_protocol.specs.declared.line_reply.LineReply.{LineReply}
use Rattle.rb_session.specs.Turn.{Point}
use Rattle.rb_session.specs.Session.{Turn, Serves}
use Rattle.rb_session.specs.Closing.{Closes}
use Rattle.rb_jobs.specs.Events.{moment_after, latest, RecordsByLines, RecordsByClosing}
use Rattle.rb_jobs.proofs.Events.{makes_by_lines, makes_by_closing}
use Rattle.rb_jobs.proofs.Ways.{Way, way_of, did_nothing, did_end, did_call, did_retry, did_set}

-- the desk as if it had been made before the first event
abbrev pub whole : KeptState → KeptState
whole state = record state { before = 0 }

steps_whole : (old new : KeptState) (handed : ℕ) (ask : Ask) (result : Result Reply DeskFault)
    → KeptSteps old handed ask result new → KeptSteps (whole old) handed ask result (whole new)
steps_whole old new handed ask result steps = record {
  earlier = omega arith;
  outcome = steps.outcome;
  answers = steps.answers;
  steps = steps.steps;
  counts = steps.counts;
  stays = ap whole steps.stays;
}

abbrev pub kept_gives : KeptState → ℕ → Type 0
kept_gives state moment = moment ≡ state.moment

-- all that was made at the desk's queue
abbrev pub whole_mine : KeptState → List Made
whole_mine state = made_at (whole state)

pub makes_whole : (old new : KeptState) (asked : ℕ) (ask : Ask) (reply : Reply) → KeptSteps old asked ask (Ok reply) new
    → Makes (kept_gives old) asked ask reply (whole_mine old) (whole_mine new)
makes_whole old new asked ask reply steps = kept_makes (whole old) (whole new) asked ask reply
    (steps_whole old new asked ask (Ok reply) steps)

pub refuses_whole : (old new : KeptState) (asked : ℕ) (ask : Ask) (fault : DeskFault)
    → KeptSteps old asked ask (Err fault) new
    → MayGet ask fault × (whole_mine new ≡ whole_mine old)
refuses_whole old new asked ask fault steps =
    kept_refuses (whole old) (whole new) asked ask fault (steps_whole old new asked ask (Err fault) steps)

pub stays_whole : (old new : KeptState) (moment : ℕ) (result : Option ℕ) → SetsKept old moment result new
    → whole_mine new ≡ whole_mine old
stays_whole old new moment result sets = ap whole_mine sets.1

-- the moment after one line
pub moment_of : (policy : Policy) (reading : Result Request LineFault) (replies : List LineReply) (old new : Point KeptState)
    → Way (kept_rules policy) reading replies old new → new.desk.moment ≡ moment_after old.desk.moment reading
moment_of policy reading replies old new (did_nothing nothing) =
    ap (λ (p : Point KeptState). p.desk.moment) nothing.same ∙ sym (nothing.stands old.desk.moment)
moment_of policy reading replies old new (did_end end) =
    ap (λ (s : KeptState). s.moment) end.same ∙ sym (end.stands old.desk.moment)
moment_of policy reading replies old new (did_call call) =
    ap (λ (s : KeptState). s.moment) call.steps.stays ∙ sym (call.stands old.desk.moment)
moment_of policy reading replies old new (did_retry retry) =
    ap (λ (s : KeptState). s.moment) retry.steps.stays ∙ ap (moment_after old.desk.moment) (sym retry.read)
moment_of policy reading replies old new (did_set set) =
    ap (λ (s : KeptState). s.moment) set.sets.1 ∙ ap (moment_after old.desk.moment) (sym set.read)

pub latest_moment : (policy : Policy) (from to : Point KeptState) (turns : List Turn)
    → Serves (kept_rules policy) from turns to → to.desk.moment ≡ latest from.desk.moment turns
latest_moment policy from to [] same = ap (λ (p : Point KeptState). p.desk.moment) same
latest_moment policy from to (turn ∷ turns) (between, is_line, goes_on, is_turn, rest) =
    latest_moment policy between to turns rest
    ∙ ap (λ (m : ℕ). latest m turns) (moment_of policy turn.reading turn.replies from between
    (way_of (kept_rules policy) turn.reading from between turn.replies is_turn))

pub records_by_lines : RecordsByLines kept_rules
records_by_lines policy from to turns serves =
    let (made, grows, done, dead, are) =
    makes_by_lines (kept_rules policy) whole_mine makes_whole refuses_whole stays_whole from to turns serves in
    (made, grows, done, dead, are, latest_moment policy from to turns serves)

-- no failure sets the clock
same_moment : (policy : Policy) (element : Element) (now : ℕ) (old new : KeptState)
    (result : Result Verdict (Element × CallFault))
    → FailsTo (kept_rules policy) element now old result new → new.moment ≡ old.moment
same_moment policy element now old new (Ok (Again again)) (draft, retry, steps) =
    ap (λ (s : KeptState). s.moment) steps.stays
same_moment policy element now old new (Ok (Dead dead)) (retry, is_dead, same) = ap (λ (s : KeptState). s.moment) same
same_moment policy element now old new (Err (back, fault)) (draft, retry, steps, is_back) =
    ap (λ (s : KeptState). s.moment) steps.stays

pub closing_moment : (policy : Policy) (from to : KeptState) (held : List Element) (lost : ℕ)
    → Closes (kept_rules policy) from held lost to → to.moment ≡ from.moment
closing_moment policy from to [] lost (zero, same) = ap (λ (s : KeptState). s.moment) same
closing_moment policy from to (element ∷ held) lost (now, is_now, result, between, fails, fewer, rest, sum) =
    closing_moment policy between to held fewer rest ∙ same_moment policy element now from between result fails

pub records_by_closing : RecordsByClosing kept_rules
records_by_closing policy from to held lost closes =
    let (made, grows, gone, many, are) =
    makes_by_closing (kept_rules policy) whole_mine makes_whole refuses_whole stays_whole from to held lost closes in
    (made, grows, gone, many, are, closing_moment policy from to held lost closes)
