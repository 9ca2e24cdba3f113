-- What a line does at the desk and with the jobs that are held: it leaves both alone, ends a job, makes one call, offers
-- the next attempt of a job, or sets the clock.
use Rattle.std.proofs.Common.{◌≡◌, ℕ, ◌+◌, List, [], ◌∷◌, ◌++◌, Option, Some, Result, Ok, Err}
use Rattle.std.proofs.Common.{refl, sym, ap, subst, ◌∙◌, arith, remove, get_or}
use Rattle.std.proofs.Math.Nat.{min-le_left}
use Rattle.std.proofs.lemmas.Bool.Decides.{nat_tests}
use Rattle.std.proofs.lemmas.List.Quantifiers.{position-Some}
use Rattle.std.proofs.lemmas.Option.{same_Some, slice_get-get_or}
use Rattle.std.specs.Prelude.{◌≤◌, nat_le, nat_lt, length, min, ◌-◌, slice_get, unwrap_or, ◌==◌}
use Rattle.rb_delayed.specs.declared.element.Element.{Element}
use Rattle.rb_delayed.specs.declared.moment.TheConstants.{GREATEST_MOMENT}
use Rattle.rb_queue.specs.declared.ask.Ask.{Ask}
use Rattle.rb_queue.specs.declared.ask.Ask.TheVariants as asks
use Rattle.rb_queue.specs.declared.draft.Draft.{Draft}
use Rattle.rb_queue.specs.declared.reply.Reply.{Reply}
use Rattle.rb_queue.specs.declared.reply.Reply.TheVariants.{Offered}
use Rattle.rb_kept.specs.declared.fault.CallFault.{CallFault}
use Rattle.rb_retry.specs.Asked.{IsReplyTo}
use Rattle.rb_retry.specs.DeskRules.{DeskRules}
use Rattle.rb_retry.specs.Jobs.{offer_answer}
use Rattle.rb_retry.specs.KeptSteps.{fault_of}
use Rattle.rb_retry.specs.Retry.{IsRetry}
use Rattle.rb_retry.specs.declared.desk_fault.DeskFault.{DeskFault}
use Rattle.rb_retry.specs.declared.policy.Policy.{Policy}
use Rattle.rb_retry.specs.declared.verdict.Verdict.TheVariants.{Again, Dead}
use Rattle.rb_protocol.specs.declared.request.Request.{Request}
use Rattle.rb_protocol.specs.declared.request.Request.TheVariants as requests
use Rattle.rb_protocol.specs.declared.line_fault.LineFault.{LineFault}
use Rattle.rb_protocol.specs.declared.line_reply.LineReply.{LineReply}
use Rattle.rb_protocol.specs.declared.line_reply.LineReply.TheVariants as lines
use Rattle.rb_protocol.specs.declared.err_word.ErrWord.TheVariants as words
use Rattle.rb_jobs.specs.Events.{BeginsOne, IsAskOf, TellsOf, TellsOfNone, moment_after}
use Rattle.rb_session.proofs.DeskParts.{of_bool, of_found}
use Rattle.rb_session.specs.Held.{place_of}
use Rattle.rb_session.specs.Session.{Turn, Serves}
use Rattle.rb_session.specs.Turn.{Point, IsTurn, IsServed, IsCall, IsFetch, IsFailure, IsFirstDraft, AnswersAlone, fetched_by}
use Rattle.rb_protocol.specs.FaultWord.{word_for}
use Rattle.rb_session.specs.Turn.{fault_line, lines_for, moment_line}
use Rattle.rb_session.specs.declared.held_jobs.TheConstants.{MOST_HELD}

-- the element at the place that is found has the id
found_at : (held : List Element) (id place : ℕ) → place_of held id ≡ Some place
    → (element : Element) × (slice_get held place ≡ Some element) × (element.id ≡ id)
found_at [] id place is = absurd (cc)
found_at (first ∷ held) id place is =
    let at = position-Some (λ (element : Element). element.id == id) (first ∷ held) place first is in
    let passes = at.1 in (
      get_or (first ∷ held) place first,
      slice_get-get_or (first ∷ held) place first at.0,
      grind (arith, nat_tests, passes),
    )

-- what an ask that offers a first draft, or none, is answered begins a job if it offers one
abbrev pub Begins : Ask → Type 0
Begins ask = (reply : Reply) → IsReplyTo ask reply → BeginsOne reply

pub first_begins : (draft : Draft) (expiry : ℕ) (payload : List ℕ) → IsFirstDraft draft expiry payload
    → Begins (asks.Offer draft)
first_begins draft expiry payload first (Offered element) drafted = (
  drafted.origin ∙ ap (λ (o : Option ℕ). unwrap_or o element.id) first.origin,
  drafted.first ∙ ap (λ (o : Option ℕ). unwrap_or o element.expiry) first.first,
  drafted.attempt ∙ first.attempt,
)
first_begins draft expiry payload first _ answered = absurd answered

-- an ask that offers nothing
abbrev pub IsQuiet : Ask → Type 0
IsQuiet (asks.Offer draft) = ⊥
IsQuiet _ = Unit {0}

not_offered : (ask : Ask) (element : Element) → IsQuiet ask → IsReplyTo ask (Offered element) → ⊥
not_offered (asks.Offer draft) element quiet answered = quiet
not_offered _ element quiet answered = answered

quiet_begins : (ask : Ask) → IsQuiet ask → Begins ask
quiet_begins ask quiet (Offered element) answered = absurd (not_offered ask element quiet answered)
quiet_begins ask quiet _ answered = tt

-- the line is of a refusal, or the last of a session
abbrev pub IsIdle : LineReply → Type 0
IsIdle (lines.Err word) = Unit {0}
IsIdle lines.Bye = Unit {0}
IsIdle _ = ⊥

-- the line says that the job of this element is done, or is dead after its last attempt
abbrev pub EndsJob : Policy → Element → LineReply → Type 0
EndsJob policy element (lines.Done id) = id ≡ element.id
EndsJob policy element (lines.Dead id) = (id ≡ element.id) × (policy.attempts ≤ element.attempt)
EndsJob policy element _ = ⊥

module _ {S : Type 0} (rules : DeskRules S) where
  -- nothing changes
  pub record Leaves (reading : Result Request LineFault) (replies : List LineReply) (old new : Point S) : Type 0 where
    pub line : LineReply
    pub is : replies ≡ line ∷ []
    pub idle : IsIdle line
    pub none : TellsOfNone line reading
    pub same : new ≡ old
    pub stands : (moment : ℕ) → moment_after moment reading ≡ moment

  -- a job that is held ends, and the desk is left alone
  pub record EndsHeld (reading : Result Request LineFault) (replies : List LineReply) (old new : Point S) : Type 0 where
    pub place : ℕ
    pub element : Element
    pub at : slice_get old.held place ≡ Some element
    pub line : LineReply
    pub is : replies ≡ line ∷ []
    pub ends : EndsJob rules.policy element line
    pub none : TellsOfNone line reading
    pub held : new.held ≡ remove old.held place
    pub same : new.desk ≡ old.desk
    pub stands : (moment : ℕ) → moment_after moment reading ≡ moment

  -- one call is made, the line's replies are of its answer, and what it hands out is held
  pub record Calls (reading : Result Request LineFault) (replies : List LineReply) (old new : Point S) : Type 0 where
    pub request : Request
    pub read : reading ≡ Ok request
    pub ask : Ask
    pub asks : IsAskOf request ask
    pub begins : Begins ask
    pub handed : ℕ
    pub answer : Result Reply DeskFault
    pub steps : rules.Steps old.desk handed ask answer new.desk
    pub tells : (reply : Reply) → BeginsOne reply → TellsOf request reply (lines_for (Ok reply)) []
    pub are : replies ≡ lines_for answer
    pub held : new.held ≡ old.held ++ fetched_by answer
    pub stands : (moment : ℕ) → moment_after moment reading ≡ moment

  -- what is answered, and held then, where the next attempt is offered, or is refused
  abbrev pub Retried : Result Element CallFault → List LineReply → List Element → ℕ → List Element → Type 0
  Retried (Ok again) replies held place after =
      (replies ≡ lines.Again again.id again.expiry ∷ []) × (after ≡ remove held place)
  Retried (Err fault) replies held place after = (replies ≡ fault_line (fault_of fault) ∷ []) × (after ≡ held)

  -- a job that is held failed, and the desk is asked to take its next attempt
  pub record Retries (reading : Result Request LineFault) (replies : List LineReply) (old new : Point S) : Type 0 where
    pub id : ℕ
    pub read : reading ≡ Ok (requests.Fail id)
    pub place : ℕ
    pub element : Element
    pub at : slice_get old.held place ≡ Some element
    pub named : element.id ≡ id
    pub now : ℕ
    pub draft : Draft
    pub retry : IsRetry rules.policy element now (Some draft)
    pub result : Result Element CallFault
    pub steps : rules.Steps old.desk now (asks.Offer draft) (offer_answer result) new.desk
    pub retried : Retried result replies old.held place new.held

  -- the clock is set
  pub record SetsTo (reading : Result Request LineFault) (replies : List LineReply) (old new : Point S) : Type 0 where
    pub moment : ℕ
    pub read : reading ≡ Ok (requests.At moment)
    pub result : Option ℕ
    pub sets : rules.Sets old.desk moment result new.desk
    pub is : replies ≡ moment_line result ∷ []
    pub held : new.held ≡ old.held

  pub data Way (reading : Result Request LineFault) (replies : List LineReply) (old new : Point S) : Type 0 where
    did_nothing : Leaves reading replies old new → Way reading replies old new
    did_end : EndsHeld reading replies old new → Way reading replies old new
    did_call : Calls reading replies old new → Way reading replies old new
    did_retry : Retries reading replies old new → Way reading replies old new
    did_set : SetsTo reading replies old new → Way reading replies old new

  pub alone : (reading : Result Request LineFault) (line : LineReply) → IsIdle line → TellsOfNone line reading
      → ((moment : ℕ) → moment_after moment reading ≡ moment)
      → (old new : Point S) (replies : List LineReply) → AnswersAlone line old replies new
      → Way reading replies old new
  alone reading line idle none stands old new replies (is, same) =
      did_nothing (record { line = line; is = is; idle = idle; none = none; same = same; stands = stands })

  call : (request : Request) (ask : Ask) → IsAskOf request ask → Begins ask
      → ((reply : Reply) → BeginsOne reply → TellsOf request reply (lines_for (Ok reply)) [])
      → ((moment : ℕ) → moment_after moment (Ok request) ≡ moment)
      → (old new : Point S) (handed : ℕ) (replies : List LineReply) → IsCall rules.Steps old handed ask replies new
      → Way (Ok request) replies old new
  call request ask asked begins tells stands old new handed replies (answer, steps, are, held) = did_call (record {
    request = request;
    read = refl;
    ask = ask;
    asks = asked;
    begins = begins;
    handed = handed;
    answer = answer;
    steps = steps;
    tells = tells;
    are = are;
    held = held;
    stands = stands;
  })

  fetch : (request : Request) (ask : Ask) → IsAskOf request ask → Begins ask
      → ((reply : Reply) → BeginsOne reply → TellsOf request reply (lines_for (Ok reply)) [])
      → ((moment : ℕ) → moment_after moment (Ok request) ≡ moment)
      → (old new : Point S) (handed : ℕ) (replies : List LineReply) → IsFetch rules.Steps old handed ask replies new
      → Way (Ok request) replies old new
  fetch request ask asked begins tells stands old new handed replies =
      of_bool (nat_lt (length old.held) MOST_HELD) _ _ _
      (call request ask asked begins tells stands old new handed replies)
      (alone (Ok request) (lines.Err words.Held) tt tt stands old new replies)

  failure : (id : ℕ) (old new : Point S) (now place : ℕ) (replies : List LineReply) → place_of old.held id ≡ Some place
      → IsFailure rules old now place replies new → Way (Ok (requests.Fail id)) replies old new
  failure id old new now place replies found (element, at, Ok (Again again), (draft, retry, steps), are, held) =
      let (other, there, named) = found_at old.held id place found in
      did_retry (record {
        id = id;
        read = refl;
        place = place;
        element = other;
        at = there;
        named = named;
        now = now;
        draft = draft;
        retry = subst (λ (e : Element). IsRetry rules.policy e now (Some draft))
            (same_Some element other (sym at ∙ there)) retry;
        result = Ok again;
        steps = steps;
        retried = (are, held);
      })
  failure id old new now place replies found (element, at, Ok (Dead dead), (retry, is_dead, same), are, held) =
      let (other, there, named) = found_at old.held id place found in
      did_end (record {
        place = place;
        element = element;
        at = at;
        line = lines.Dead dead.id;
        is = are;
        ends = (ap (λ (e : Element). e.id) is_dead, retry);
        none = ap (λ (e : Element). e.id) (is_dead ∙ same_Some element other (sym at ∙ there)) ∙ named;
        held = held;
        same = same;
        stands = λ moment. refl;
      })
  failure id old new now place replies found (element, at, Err (back, fault), (draft, retry, steps, is_back), are, held) =
      let (other, there, named) = found_at old.held id place found in
      did_retry (record {
        id = id;
        read = refl;
        place = place;
        element = other;
        at = there;
        named = named;
        now = now;
        draft = draft;
        retry = subst (λ (e : Element). IsRetry rules.policy e now (Some draft))
            (same_Some element other (sym at ∙ there)) retry;
        result = Err fault;
        steps = steps;
        retried = (are, held);
      })

  finished : (id : ℕ) (old new : Point S) (place : ℕ) (replies : List LineReply) → place_of old.held id ≡ Some place
      → (replies ≡ lines.Done id ∷ []) × (new.desk ≡ old.desk) × (new.held ≡ remove old.held place)
      → Way (Ok (requests.Done id)) replies old new
  finished id old new place replies found (are, same, held) =
      let (element, at, named) = found_at old.held id place found in
      did_end (record {
        place = place;
        element = element;
        at = at;
        line = lines.Done id;
        is = are;
        ends = sym named;
        none = refl;
        held = held;
        same = same;
        stands = λ moment. refl;
      })

  -- what each request does
  served : (request : Request) (old new : Point S) (now : ℕ) (replies : List LineReply)
      → IsServed rules old now request replies new → Way (Ok request) replies old new
  served (requests.Offer delay payload) old new now replies =
      of_bool (nat_le (now + delay) GREATEST_MOMENT) _ _ _
      (λ offers. call (requests.Offer delay payload) (asks.Offer offers.0) (now + delay, offers.1)
      (first_begins offers.0 (now + delay) payload offers.1) (λ reply begins. (refl, begins, refl))
      (λ moment. refl) old new now replies offers.2)
      (alone (Ok (requests.Offer delay payload)) (lines.Err words.Range) tt tt (λ moment. refl) old new replies)
  served (requests.OfferAt expiry payload) old new now replies =
      λ offers. call (requests.OfferAt expiry payload) (asks.Offer offers.0) offers.1
      (first_begins offers.0 expiry payload offers.1) (λ reply begins. (refl, begins, refl))
      (λ moment. refl) old new now replies offers.2
  served requests.Poll old new now replies =
      fetch requests.Poll asks.Poll tt (quiet_begins asks.Poll tt) (λ reply begins. (refl, begins, refl))
      (λ moment. refl) old new now replies
  served (requests.PollFor timeout) old new now replies =
      fetch (requests.PollFor timeout) (asks.PollFor now timeout) refl (quiet_begins (asks.PollFor now timeout) tt) (λ reply begins. (refl, begins, refl))
      (λ moment. refl) old new now replies
  served requests.Take old new now replies =
      fetch requests.Take asks.Take tt (quiet_begins asks.Take tt) (λ reply begins. (refl, begins, refl))
      (λ moment. refl) old new 0 replies
  served requests.Peek old new now replies =
      call requests.Peek asks.Peek tt (quiet_begins asks.Peek tt) (λ reply begins. (refl, begins, refl))
      (λ moment. refl) old new now replies
  served (requests.Remove id) old new now replies =
      call (requests.Remove id) (asks.Remove id) refl (quiet_begins (asks.Remove id) tt) (λ reply begins. (refl, begins, refl))
      (λ moment. refl) old new now replies
  served (requests.Drain most) old new now replies =
      call (requests.Drain most) (asks.Drain (min most (MOST_HELD - length old.held)))
      (min-le_left most (MOST_HELD - length old.held))
      (quiet_begins (asks.Drain (min most (MOST_HELD - length old.held))) tt) (λ reply begins. (refl, begins, refl))
      (λ moment. refl) old new now replies
  served requests.Clear old new now replies =
      call requests.Clear asks.Clear tt (quiet_begins asks.Clear tt) (λ reply begins. (refl, begins, refl))
      (λ moment. refl) old new now replies
  served requests.Size old new now replies =
      call requests.Size asks.Size tt (quiet_begins asks.Size tt) (λ reply begins. (refl, begins, refl))
      (λ moment. refl) old new now replies
  served (requests.Done id) old new now replies =
      of_found (place_of old.held id) _ _ _
      (alone (Ok (requests.Done id)) (lines.Err words.NotHeld) tt tt (λ moment. refl) old new replies)
      (λ place found. finished id old new place replies found)
  served (requests.Fail id) old new now replies =
      of_found (place_of old.held id) _ _ _
      (alone (Ok (requests.Fail id)) (lines.Err words.NotHeld) tt tt (λ moment. refl) old new replies)
      (λ place found. failure id old new now place replies found)
  served (requests.At moment) old new now replies =
      λ setting. did_set (record {
        moment = moment;
        read = refl;
        result = setting.0;
        sets = setting.1;
        is = setting.2;
        held = setting.3;
      })
  served requests.Quit old new now replies = alone (Ok requests.Quit) lines.Bye tt tt (λ moment. refl) old new replies

  pub way_of : (reading : Result Request LineFault) (old new : Point S) (replies : List LineReply)
      → IsTurn rules old reading replies new → Way reading replies old new
  way_of (Err fault) old new replies = alone (Err fault) (lines.Err (word_for fault)) tt tt (λ moment. refl) old new replies
  way_of (Ok request) old new replies = λ turn. served request old new turn.0 replies turn.2

  -- these lines, one after the other
  abbrev pub WaysAlong : Point S → List Turn → Point S → Type 0
  WaysAlong old [] new = new ≡ old
  WaysAlong old (turn ∷ turns) new =
      (between : Point S) × Way turn.reading turn.replies old between × WaysAlong between turns new

  pub ways_of : (from to : Point S) (turns : List Turn) → Serves rules from turns to → WaysAlong from turns to
  ways_of from to [] same = same
  ways_of from to (turn ∷ turns) (between, is_line, goes_on, is_turn, rest) =
      (between, way_of turn.reading from between turn.replies is_turn, ways_of between to turns rest)

  pub ways_append : (one two three : Point S) (turns more : List Turn) → WaysAlong one turns two
      → WaysAlong two more three → WaysAlong one (turns ++ more) three
  ways_append one two three [] more same ways = subst (λ at. WaysAlong at more three) same ways
  ways_append one two three (turn ∷ turns) more (between, way, rest) ways =
      (between, way, ways_append between two three turns more rest ways)
