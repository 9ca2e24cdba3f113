-- What holds along each line of a session and along each end of a held job holds along a whole session.
use Rattle.std.proofs.Common.{inl, inr, ◌≡◌, ℕ, List, [], ◌∷◌, Result, ap}
use Rattle.rb_delayed.specs.declared.element.Element.{Element}
use Rattle.rb_kept.specs.declared.fault.CallFault.{CallFault}
use Rattle.rb_retry.specs.Jobs.{FailsTo}
use Rattle.rb_retry.specs.declared.verdict.Verdict.{Verdict}
use Rattle.rb_protocol.specs.declared.line_fault.LineFault.{LineFault}
use Rattle.rb_protocol.specs.declared.line_reply.LineReply.{LineReply}
use Rattle.rb_protocol.specs.declared.request.Request.{Request}
use Rattle.rb_session.specs.Closing.{Closes}
use Rattle.rb_session.specs.Ran.{Ran}
use Rattle.rb_session.specs.Rules.{SessionRules}
use Rattle.rb_session.specs.Served.{Served}
use Rattle.rb_session.specs.Session.{Turn, Serves}
use Rattle.rb_session.specs.Turn.{Point, point}
use Rattle.rb_jobs.proofs.RunEvents.{Starts, ends_of}
use Rattle.rb_jobs.proofs.Ways.{Way, WaysAlong, ways_of}

module _ {S : Type 0} (rules : SessionRules S) (Along : Point S → Point S → Type 0)
    (stays : (from to : Point S) → to ≡ from → Along from to)
    (then : (one two three : Point S) → Along one two → Along two three → Along one three)
    (line : (from to : Point S) (reading : Result Request LineFault) (replies : List LineReply)
    → Way rules.desk reading replies from to → Along from to)
    (ends : (from to : S) (element : Element) (held : List Element) (now : ℕ)
    (result : Result Verdict (Element × CallFault)) → FailsTo rules.desk element now from result to
    → Along (point from (element ∷ held)) (point to held)) where
  along_ways : (from to : Point S) (turns : List Turn) → WaysAlong rules.desk from turns to → Along from to
  along_ways from to [] same = stays from to same
  along_ways from to (turn ∷ turns) (between, way, rest) =
      then from between to (line from between turn.reading turn.replies way) (along_ways between to turns rest)

  pub along_lines : (from to : Point S) (turns : List Turn) → Serves rules.desk from turns to → Along from to
  along_lines from to turns serves = along_ways from to turns (ways_of rules.desk from to turns serves)

  pub along_closing : (from to : S) (held : List Element) (lost : ℕ) → Closes rules.desk from held lost to
      → Along (point from held) (point to [])
  along_closing from to [] lost (zero, same) =
      stays (point from []) (point to []) (ap (λ (s : S). point s []) same)
  along_closing from to (element ∷ held) lost (now, is_now, result, between, fails, more, rest, sum) =
      then (point from (element ∷ held)) (point between held) (point to [])
      (ends from between element held now result fails) (along_closing between to held more rest)

  -- a try that finds nothing leads on, too
  module _ (misses : (from to : S) (held : List Element) → rules.desk.Misses from to
      → Along (point from held) (point to held)) where
    along_start : (last start : S) (held : List Element) → Starts rules.desk last start
        → Along (point last held) (point start held)
    along_start last start held (inl same) =
        stays (point last held) (point start held) (ap (λ (s : S). point s held) same)
    along_start last start held (inr missed) = misses last start held missed

    pub along_run : (Over : Type 0) (from to : S) (served : Served) → Ran rules Over from served to
        → Along (point from []) (point to [])
    along_run Over from to served ran =
        let run = ends_of rules Over from to served served.ended ran in
        then (point from []) run.last (point to [])
        (along_ways (point from []) run.last run.path.lines run.path.ways)
        (then run.last (point run.start run.last.held) (point to [])
        (along_start run.last.desk run.start run.last.held run.begun)
        (along_closing run.start to run.last.held run.lost run.closes))
