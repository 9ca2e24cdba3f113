-- What a whole run of a session makes: what its lines made, and then what the jobs made that were still held.
use Rattle.std.proofs.Common.{◌⊎◌, ◌≡◌, ℕ, List, [], ◌∷◌, ◌++◌, Option, Result, Ok, Err, inl, inr}
use Rattle.std.proofs.Common.{refl, sym, ap, subst, ◌∙◌, append-nil, append_assoc, arith}
use Rattle.std.specs.Io.KnownBytes.{IsAtEnd}
use Rattle.rb_queue.specs.declared.ask.Ask.{Ask}
use Rattle.rb_queue.specs.declared.reply.Reply.{Reply}
use Rattle.rb_kept.specs.Log.{Log}
use Rattle.rb_kept.specs.Tries.{StepsTo}
use Rattle.rb_kept.specs.declared.fault.CallFault.{CallFault}
use Rattle.rb_kept.specs.declared.fault.CallFault.TheVariants as refusals
use Rattle.rb_kept.specs.declared.outcome.Outcome.{Outcome}
use Rattle.rb_kept.specs.declared.outcome.Outcome.TheVariants.{Done, Later}
use Rattle.rb_kept.specs.declared.tries.Try.{Try}
use Rattle.rb_retry.specs.Asked.{Makes, MayGet}
use Rattle.rb_retry.specs.DeskRules.{DeskRules, kept_rules}
use Rattle.rb_retry.specs.KeptSteps.{KeptState, KeptSteps}
use Rattle.rb_retry.specs.Made.{Made}
use Rattle.rb_retry.specs.declared.desk_fault.DeskFault.{DeskFault}
use Rattle.rb_retry.specs.declared.policy.Policy.{Policy}
use Rattle.rb_protocol.specs.ReplyText.{text_of}
use Rattle.rb_protocol.specs.declared.err_word.ErrWord.TheVariants as words
use Rattle.rb_protocol.specs.declared.format.TheConstants.{LINE_FEED}
use Rattle.rb_protocol.specs.declared.line_fault.LineFault.{LineFault}
use Rattle.rb_protocol.specs.declared.line_fault.LineFault.TheVariants.{Line}
use Rattle.rb_protocol.specs.declared.line_reply.LineReply.{LineReply}
use Rattle.rb_protocol.specs.declared.line_reply.LineReply.TheVariants as lines
use Rattle.rb_protocol.specs.declared.request.Request.{Request}
use Rattle.rb_protocol.specs.declared.request.Request.TheVariants as requests
use Rattle.rb_protocol.specs.Line.{HasNoLineFeed}
use Rattle.rb_session.specs.Rules.{SessionRules, session_rules, HadGotBehind}
use Rattle.rb_session.specs.Turn.{Point, point}
use Rattle.rb_session.specs.Session.{Turn, Serves, ServesFirst, ServesToEnd, ServesToQuit}
use Rattle.rb_session.specs.Session.{bytes_of, answers_of, texts_of, rest_text}
use Rattle.rb_session.specs.Closing.{Closes}
use Rattle.rb_session.specs.Served.{Served, lost_in}
use Rattle.rb_session.specs.Ran.{BeginsWith, FailsToWrite, FailsToSend, LosesReplies, RanUntil, ServesSome}
use Rattle.rb_jobs.specs.Events.{latest}
use Rattle.rb_jobs.specs.RunEvents.{StandFirst, SendsAll, MadeByRun, RecordsByRun}
use Rattle.rb_session.specs.declared.ended.Ended.{Ended}
use Rattle.rb_session.specs.declared.ended.Ended.TheVariants as ends
use Rattle.rb_session.specs.declared.session_fault.SessionFault.{SessionFault}
use Rattle.rb_session.specs.declared.session_fault.SessionFault.TheVariants as faults
use Rattle.rb_session.proofs.DeskParts.{stays}
use Rattle.rb_jobs.proofs.HandedOut.{ways_hold}
use Rattle.rb_jobs.proofs.Events.{makes_by_closing, ways_make}
use Rattle.rb_session.proofs.Turns.{answers_of-append}
use Rattle.rb_jobs.proofs.Ways.{WaysAlong, alone, way_of, ways_append, ways_of}
use Rattle.rb_jobs.proofs.KeptEvents.{whole_mine, makes_whole, refuses_whole, stays_whole}
use Rattle.rb_jobs.proofs.KeptEvents.{moment_of, closing_moment}

-- the answer to one line
answers_one : (turn : Turn) → answers_of (turn ∷ []) ≡ texts_of turn.replies
answers_one turn = append-nil (texts_of turn.replies)

-- the text of one reply
texts_one : (reply : LineReply) → texts_of (reply ∷ []) ≡ text_of reply
texts_one reply = append-nil (text_of reply)

module _ {S : Type 0} (rules : DeskRules S) where
  -- These lines were served, stand first in what came, and are answered by this text.
  pub record Path (Over : Type 0) (from : S) (came text : List ℕ) (to : Point S) : Type 0 where
    pub lines : List Turn
    pub stand : StandFirst Over came lines
    pub answers : answers_of lines ≡ text
    pub ways : WaysAlong rules (point from []) lines to

  -- the desk is where serving stopped, or was tried there for one line more, and found nothing
  abbrev pub Starts : S → S → Type 0
  Starts last start = (start ≡ last) ⊎ rules.Misses last start

  -- a path to where serving stopped, which is this point, or one that a try that found nothing led to
  abbrev pub PathTo : Type 0 → S → List ℕ → List ℕ → Point S → Type 0
  PathTo Over from came text to =
      (last : Point S) × Path Over from came text last × Starts last.desk to.desk × (to.held ≡ last.held)

  -- What a run comes to: a path to where serving stopped, and the end of the jobs that were held there.
  pub record Ends (Over : Type 0) (from : S) (served : Served) (ended : Result Ended SessionFault)
      (to : S) : Type 0 where
    pub unsent : List ℕ
    pub all_sent : SendsAll ended unsent
    pub last : Point S
    pub path : Path Over from served.came (served.sent ++ unsent) last
    pub start : S
    pub begun : Starts last.desk start
    pub lost : ℕ
    pub lost_is : lost ≡ lost_in ended
    pub closes : Closes rules start last.held lost to

  module _ (Over : Type 0) where
    -- all was sent
    ends_whole : (from : S) (served : Served) (ended : Result Ended SessionFault) (to : S) (last : Point S) (lost : ℕ)
        → SendsAll ended [] → Path Over from served.came served.sent last → Closes rules last.desk last.held lost to
        → lost ≡ lost_in ended → Ends Over from served ended to
    ends_whole from served ended to last lost all way closes lost_is = record {
      unsent = [];
      all_sent = all;
      last = last;
      path = subst (λ text. Path Over from served.came text last) (sym (append-nil served.sent)) way;
      start = last.desk;
      begun = inl refl;
      lost = lost;
      lost_is = lost_is;
      closes = closes;
    }

    -- nothing was done
    ends_unbegun : (from to : S) (served : Served) → to ≡ from → served.sent ≡ []
        → Ends Over from served (Err faults.Memory) to
    ends_unbegun from to served same silent = record {
      unsent = [];
      all_sent = refl;
      last = point from [];
      path = record {
        lines = [];
        stand = tt;
        answers = sym silent ∙ sym (append-nil served.sent);
        ways = refl;
      };
      start = from;
      begun = inl refl;
      lost = 0;
      lost_is = refl;
      closes = (refl, same);
    }

    -- the first part of the replies was sent
    ends_part : (from : S) (served : Served) (to : S) (last : Point S) (lost : ℕ)
        → ((unsent : List ℕ) × PathTo Over from served.came (served.sent ++ unsent) last)
        → Closes rules last.desk last.held lost to → Ends Over from served (Err (faults.Write lost)) to
    ends_part from served to last lost (unsent, (at, way, begun, same)) closes = record {
      unsent = unsent;
      all_sent = tt;
      last = at;
      path = way;
      start = last.desk;
      begun = begun;
      lost = lost;
      lost_is = refl;
      closes = subst (λ held. Closes rules last.desk held lost to) same closes;
    }

  -- what lines and a closing add to what a desk made
  module _ (mine : S → List Made)
      (makes : (old new : S) (asked : ℕ) (ask : Ask) (reply : Reply) → rules.Steps old asked ask (Ok reply) new
      → Makes (rules.gives old) asked ask reply (mine old) (mine new))
      (refuses : (old new : S) (asked : ℕ) (ask : Ask) (fault : DeskFault) → rules.Steps old asked ask (Err fault) new
      → MayGet ask fault × (mine new ≡ mine old))
      (stays : (old new : S) (moment : ℕ) (result : Option ℕ) → rules.Sets old moment result new
      → mine new ≡ mine old)
      (misses : (old new : S) → rules.Misses old new → mine new ≡ mine old) where
    started : (last start : S) → Starts last start → mine start ≡ mine last
    started last start (inl same) = ap mine same
    started last start (inr missed) = misses last start missed

    pub made_by_ends : (Over : Type 0) (from to : S) (served : Served) → (run : Ends Over from served served.ended to)
        → (made : MadeByRun rules.policy Over served (λ made. mine to ≡ mine from ++ made))
        × (made.lines ≡ run.path.lines)
    made_by_ends Over from to served run =
        let (by_lines, grows, done, dead, of_lines) =
        ways_make rules mine makes refuses stays (point from []) run.last run.path.lines run.path.ways in
        let (by_closing, grows_more, lost, many, of_closing) =
        makes_by_closing rules mine makes refuses stays run.start to run.last.held run.lost run.closes in (
          record {
            lines = run.path.lines;
            stand = run.path.stand;
            unsent = run.unsent;
            answers = run.path.answers;
            all_sent = run.all_sent;
            by_lines = by_lines;
            held = run.last.held;
            handed = ways_hold rules (point from []) run.last run.path.lines run.path.ways;
            done = done;
            dead = dead;
            of_lines = of_lines;
            by_closing = by_closing;
            lost = lost;
            of_closing = of_closing;
            lost_count = many ∙ run.lost_is;
            grows = grows_more
                ∙ ap (λ (m : List Made). m ++ by_closing) (started run.last.desk run.start run.begun ∙ grows)
                ∙ append_assoc (mine from) by_lines by_closing;
          },
          refl,
        )

-- lines that are served stand before the bytes behind them
stands : {S : Type 0} (rules : DeskRules S) (Over : Type 0) (from to : Point S) (turns more : List Turn)
    (bytes : List ℕ) → Serves rules from turns to → StandFirst Over bytes more
    → StandFirst Over (bytes_of turns ++ bytes) (turns ++ more)
stands rules Over from to [] more bytes same stand = stand
stands rules Over from to (turn ∷ turns) more bytes (between, is_line, goes_on, is_turn, rest) stand = inl (
  bytes_of turns ++ bytes,
  append_assoc turn.raw (LINE_FEED ∷ bytes_of turns) bytes,
  is_line,
  stands rules Over between to turns more bytes rest stand,
)

-- a line that begins the bytes
begins_stand : (Over : Type 0) (bytes : List ℕ) (reading : Result Request LineFault) (replies : List LineReply)
    → BeginsWith Over bytes reading
    → (raw : List ℕ) × StandFirst Over bytes (record { raw = raw; reading = reading; replies = replies } ∷ [])
begins_stand Over bytes reading replies (inl (raw, rest, split, is_line)) = (raw, inl (rest, split, is_line, tt))
begins_stand Over bytes reading replies (inr (over, some, no_line, is)) =
    (bytes, inr (over, refl, some, no_line, is, refl))

module _ {S : Type 0} (rules : SessionRules S) (Over : Type 0) (from : S) where
  -- lines that are served, and more of them
  path : {to : Point S} {came text : List ℕ} (first : ServesFirst rules (point from []) came text to)
      (more : List Turn) (tail : List ℕ) (last : Point S) → StandFirst Over first.unserved more
      → answers_of more ≡ tail → WaysAlong rules.desk to more last → Path rules.desk Over from came (text ++ tail) last
  path {to = to} {text = text} first more tail last stand answers ways = record {
    lines = first.turns ++ more;
    stand = subst (λ all. StandFirst Over all (first.turns ++ more)) (sym first.split)
        (stands rules.desk Over (point from []) to first.turns more first.unserved first.serves stand);
    answers = answers_of-append first.turns more ∙ ap (λ (t : List ℕ). t ++ answers_of more) (sym first.answers)
        ∙ ap (λ (t : List ℕ). text ++ t) answers;
    ways = ways_append rules.desk (point from []) to last first.turns more
        (ways_of rules.desk (point from []) to first.turns first.serves) ways;
  }

  path_to_first : (to : Point S) (came text : List ℕ) → ServesFirst rules (point from []) came text to
      → Path rules.desk Over from came text to
  path_to_first to came text first =
      subst (λ all. Path rules.desk Over from came all to) (append-nil text) (path first [] [] to tt refl refl)

  path_to_quit : (to : Point S) (came sent : List ℕ) → ServesToQuit rules (point from []) came sent to
      → Path rules.desk Over from came sent to
  path_to_quit to came sent quits =
      let turn : Turn = record { raw = quits.raw; reading = Ok requests.Quit; replies = lines.Bye ∷ [] } in
      subst (λ text. Path rules.desk Over from came text to) (sym quits.answers)
      (path quits.first (turn ∷ []) (text_of lines.Bye) to (inl (quits.unserved, quits.split, quits.quit, tt))
      (answers_one turn ∙ texts_one lines.Bye) (
        to,
        alone rules.desk (Ok requests.Quit) lines.Bye tt tt (λ moment. refl) to to turn.replies (refl, refl),
        refl,
      ))

  -- what stands behind the last line feed
  rest_stands : (to : Point S) (bytes : List ℕ) → HasNoLineFeed bytes → Over
      → (more : List Turn) × StandFirst Over bytes more × (answers_of more ≡ rest_text bytes)
      × WaysAlong rules.desk to more to
  rest_stands to [] no_line over = ([], tt, refl, refl)
  rest_stands to (byte ∷ rest) no_line over =
      let turn : Turn = record { raw = byte ∷ rest; reading = Err Line; replies = lines.Err words.Line ∷ [] } in (
        turn ∷ [],
        inr (over, refl, omega arith, no_line, refl, refl),
        answers_one turn ∙ texts_one (lines.Err words.Line),
        (
          to,
          alone rules.desk (Err Line) (lines.Err words.Line) tt tt (λ moment. refl) to to turn.replies (refl, refl),
          refl,
        ),
      )

  path_to_end : (to : Point S) (came sent : List ℕ) → ServesToEnd rules Over (point from []) came sent to
      → Path rules.desk Over from came sent to
  path_to_end to came sent ending =
      let rest = rest_stands to ending.first.unserved ending.no_line ending.over in
      subst (λ text. Path rules.desk Over from came text to) (sym ending.answers)
      (path ending.first rest.0 (rest_text ending.first.unserved) to rest.1 rest.2 rest.3)

  -- the text of the line whose reply failed was sent in part
  path_to_fault : (to : Point S) (came sent : List ℕ) → FailsToWrite rules Over (point from []) came sent to
      → (unsent : List ℕ) × Path rules.desk Over from came (sent ++ unsent) to
  path_to_fault to came sent fails =
      let stand = begins_stand Over fails.first.unserved fails.reading fails.replies fails.begins in
      let turn : Turn = record { raw = stand.0; reading = fails.reading; replies = fails.replies } in (
        fails.unsent,
        subst (λ text. Path rules.desk Over from came text to)
            (ap (λ (t : List ℕ). fails.text ++ t) fails.parts ∙ sym (append_assoc fails.text fails.part fails.unsent)
            ∙ ap (λ (t : List ℕ). t ++ fails.unsent) (sym fails.answers))
            (path fails.first (turn ∷ []) (texts_of fails.replies) to stand.1 (answers_one turn)
            (to, way_of rules.desk fails.reading fails.before_last to fails.replies fails.turn, refl)),
      )

  path_to_some : (to : Point S) (came text : List ℕ) → ServesSome rules Over (point from []) came text to
      → PathTo rules.desk Over from came text to
  path_to_some to came text (inl quits) = (to, path_to_quit to came text quits, inl refl, refl)
  path_to_some to came text (inr (inl ending)) = (to, path_to_end to came text ending, inl refl, refl)
  path_to_some to came text (inr (inr (inl first))) = (to, path_to_first to came text first, inl refl, refl)
  path_to_some to came text (inr (inr (inr (last, first, missed, same)))) =
      (last, path_to_first last came text first, inr missed, same)

  path_to_loss : (to : Point S) (came sent : List ℕ) → LosesReplies rules Over (point from []) came sent to
      → (unsent : List ℕ) × PathTo rules.desk Over from came (sent ++ unsent) to
  path_to_loss to came sent loses = late loses.passed loses.parts loses.fails
    where
      late : (passed : List ℕ) → passed ≡ sent ++ loses.held_back
          → FailsToSend rules Over (point from []) came passed to
          → (unsent : List ℕ) × PathTo rules.desk Over from came (sent ++ unsent) to
      late passed parts (inl fails) =
          let found = path_to_fault to came passed fails in (
            loses.held_back ++ found.0,
            (
              to,
              subst (λ text. Path rules.desk Over from came text to)
                  (ap (λ (text : List ℕ). text ++ found.0) parts ∙ append_assoc sent loses.held_back found.0) found.1,
              inl refl,
              refl,
            ),
          )
      late passed parts (inr (gathers, some)) = (
        loses.held_back,
        subst (λ text. PathTo rules.desk Over from came text to) parts (path_to_some to came passed some),
      )

  pub ends_of : (to : S) (served : Served) (ended : Result Ended SessionFault)
      → RanUntil rules Over from served ended to → Ends rules.desk Over from served ended to
  ends_of to served (Ok (ends.Quit lost)) (last, quits, closes) =
      ends_whole rules.desk Over from served (Ok (ends.Quit lost)) to last lost refl
      (path_to_quit last served.came served.sent quits) closes refl
  ends_of to served (Ok (ends.EndOfInput lost)) (last, ending, closes) =
      ends_whole rules.desk Over from served (Ok (ends.EndOfInput lost)) to last lost refl
      (path_to_end last served.came served.sent ending) closes refl
  ends_of to served (Err (faults.Read lost)) (last, breaks, closes) =
      ends_whole rules.desk Over from served (Err (faults.Read lost)) to last lost refl
      (path_to_first last served.came served.sent breaks.0) closes refl
  ends_of to served (Err (faults.ReadTurns lost)) (last, breaks, closes) =
      ends_whole rules.desk Over from served (Err (faults.ReadTurns lost)) to last lost refl
      (path_to_first last served.came served.sent breaks.0) closes refl
  ends_of to served (Err (faults.Write lost)) (last, loses, closes) =
      ends_part rules.desk Over from served to last lost (path_to_loss last served.came served.sent loses) closes
  ends_of to served (Err faults.Memory) (same, nothing, silent) =
      ends_unbegun rules.desk Over from to served same silent

-- a run's growth in other words
pub grows_so : {policy : Policy} {Over : Type 0} {served : Served} {Grows More : List Made → Type 0}
    → ((made : List Made) → Grows made → More made) → (run : MadeByRun policy Over served Grows)
    → (so : MadeByRun policy Over served More) × (so.lines ≡ run.lines)
grows_so implies run = (
  record {
    lines = run.lines;
    stand = run.stand;
    unsent = run.unsent;
    answers = run.answers;
    all_sent = run.all_sent;
    by_lines = run.by_lines;
    held = run.held;
    handed = run.handed;
    done = run.done;
    dead = run.dead;
    of_lines = run.of_lines;
    by_closing = run.by_closing;
    lost = run.lost;
    of_closing = run.of_closing;
    lost_count = run.lost_count;
    grows = implies (run.by_lines ++ run.by_closing) run.grows;
  },
  refl,
)

-- no try changes what a log began with
same_opening : (old new : Log) (try : Try) (outcome : Result Outcome CallFault) → StepsTo old try outcome new
    → new.opening ≡ old.opening
same_opening old new try (Ok (Done reply)) (room, (event, is, records)) = ap (λ (log : Log). log.opening) is
same_opening old new try (Ok (Later next)) (room, (waits, is)) = ap (λ (log : Log). log.opening) is
same_opening old new try (Err refusals.Full) (full, is) = ap (λ (log : Log). log.opening) is
same_opening old new try (Err refusals.Memory) (room, takes, is) = ap (λ (log : Log). log.opening) is

step_opening : (old new : KeptState) (handed : ℕ) (ask : Ask) (result : Result Reply DeskFault)
    → KeptSteps old handed ask result new → new.log.opening ≡ old.log.opening
step_opening old new handed ask result steps = same_opening old.log new.log _ steps.outcome steps.steps

-- along these lines the clock comes to the latest moment
ways_moment : (policy : Policy) (old new : Point KeptState) (turns : List Turn)
    → WaysAlong (kept_rules policy) old turns new → new.desk.moment ≡ latest old.desk.moment turns
ways_moment policy old new [] same = ap (λ (p : Point KeptState). p.desk.moment) same
ways_moment policy old new (turn ∷ turns) (between, way, rest) =
    ways_moment policy between new turns rest
    ∙ ap (λ (m : ℕ). latest m turns) (moment_of policy turn.reading turn.replies old between way)

-- a desk over a kept queue never misses
start_moment : (policy : Policy) (last start : KeptState) → Starts (kept_rules policy) last start → start.moment ≡ last.moment
start_moment policy last start (inl same) = ap (λ (state : KeptState). state.moment) same
start_moment policy last start (inr missed) = absurd missed

pub records_by_run : {W : Type 0} (contents : W → Option (List ℕ)) → RecordsByRun kept_rules contents
records_by_run contents policy got delivery rest from to served ran =
    let desk = kept_rules policy in
    let rules = session_rules desk delivery (HadGotBehind contents got) in
    let run = ends_of rules (IsAtEnd rest) from to served served.ended ran in
    let made = made_by_ends desk whole_mine makes_whole refuses_whole stays_whole (λ old new missed. absurd missed)
    (IsAtEnd rest) from to served run in (
      made.0,
      closing_moment policy run.start to run.last.held run.lost run.closes
          ∙ start_moment policy run.last.desk run.start run.begun
          ∙ ways_moment policy (point from []) run.last run.path.lines run.path.ways
          ∙ ap (latest from.moment) (sym made.1),
      stays rules (λ (state : KeptState). state.log.opening) step_opening
          (λ old new moment result sets. ap (λ (state : KeptState). state.log.opening) sets.1)
          (λ old new missed. absurd missed) (IsAtEnd rest) from to served served.ended ran,
    )
