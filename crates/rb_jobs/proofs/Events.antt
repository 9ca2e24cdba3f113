-- What a line, and a job that is held at the end, add to the events of a desk and take from the jobs that are held.
use Rattle.std.proofs.Common.{◌≡◌, ℕ, zero, suc, ◌+◌, List, [], ◌∷◌, ◌++◌, length, map, Option, Some, None, Result, Ok, Err, inl, inr}
use Rattle.std.proofs.Common.{refl, sym, ap, subst, ◌∙◌, append-nil, append_assoc, arith, remove}
use Rattle.std.proofs.lemmas.List.Sums.{sum_by-append, sum_by-cons}
use Rattle.std.proofs.lemmas.Option.{same_Some}
use Rattle.std.specs.Prelude.{sum_by, slice_get, unwrap_or}
use Rattle.rb_delayed.specs.declared.element.Element.{Element}
use Rattle.rb_queue.specs.Draft.{IsDrafted}
use Rattle.rb_queue.specs.Opening.{ids_of}
use Rattle.rb_queue.specs.declared.ask.Ask.{Ask}
use Rattle.rb_queue.specs.declared.ask.Ask.TheVariants as asks
use Rattle.rb_queue.specs.declared.draft.Draft.{Draft}
use Rattle.rb_queue.specs.declared.reply.Reply.{Reply}
use Rattle.rb_queue.specs.declared.reply.Reply.TheVariants.{Offered, Item, Nothing, Head, Removed, Drained, Cleared, Size}
use Rattle.rb_kept.specs.declared.fault.CallFault.{CallFault}
use Rattle.rb_retry.specs.Made.{Made}
use Rattle.rb_retry.specs.Asked.{Makes, MayGet}
use Rattle.rb_retry.specs.Retry.{IsNextAttempt}
use Rattle.rb_retry.specs.DeskRules.{DeskRules}
use Rattle.rb_retry.specs.Jobs.{FailsTo, offer_answer}
use Rattle.rb_retry.specs.KeptSteps.{fault_of}
use Rattle.rb_retry.specs.declared.desk_fault.DeskFault.{DeskFault}
use Rattle.rb_retry.specs.declared.desk_fault.DeskFault.TheVariants.{Full, Memory, Stopped}
use Rattle.rb_retry.specs.declared.policy.Policy.{Policy}
use Rattle.rb_retry.specs.declared.verdict.Verdict.{Verdict}
use Rattle.rb_retry.specs.declared.verdict.Verdict.TheVariants.{Again, Dead}
use Rattle.rb_protocol.specs.declared.request.Request.{Request}
use Rattle.rb_protocol.specs.declared.request.Request.TheVariants as requests
use Rattle.rb_protocol.specs.declared.line_fault.LineFault.{LineFault}
use Rattle.rb_protocol.specs.declared.line_reply.LineReply.{LineReply}
use Rattle.rb_protocol.specs.declared.line_reply.LineReply.TheVariants as lines
use Rattle.rb_session.specs.Closing.{Closes, lost_by}
use Rattle.rb_jobs.specs.JobEnds.{AreSpent, AreUnspent, done_by, dead_by, handed_by}
use Rattle.rb_session.specs.Session.{Turn, Serves}
use Rattle.rb_session.specs.Turn.{Point, fault_line, fetched_by, lines_for, moment_line}
use Rattle.rb_jobs.specs.Events.{IsNextOf, TellsOf, TellsOfNone, AreOfLine, AreOfLines, AreOfClosing}
use Rattle.rb_jobs.proofs.Ways.{Calls, Retries, Retried, Way, WaysAlong, IsIdle, EndsJob, did_nothing, did_end, did_call, did_retry, did_set, ways_of}

-- an element that is taken out
pub sum_taken : (amount : Element → ℕ) (held : List Element) (place : ℕ) (element : Element)
    → slice_get held place ≡ Some element → sum_by amount held ≡ amount element + sum_by amount (remove held place)
sum_taken amount [] place element at = absurd (cc)
sum_taken amount (first ∷ held) zero element at =
    sum_by-cons amount first held
    ∙ ap (λ (e : Element). amount e + sum_by amount held) (same_Some first element at)
sum_taken amount (first ∷ held) (suc place) element at =
    omega (
      arith,
      sum_taken amount held place element at,
      sum_by-cons amount first held,
      sum_by-cons amount first (remove held place),
    )

-- what is handed out by the lines for an answer is what is fetched by it, and they end nothing
handed_items : (items : List Element) → handed_by (map lines.Item items) ≡ items
handed_items [] = refl
handed_items (item ∷ items) = ap (λ (rest : List Element). item ∷ rest) (handed_items items)

items_done : (items : List Element) → done_by (map lines.Item items) ≡ []
items_done [] = refl
items_done (item ∷ items) = items_done items

items_dead : (items : List Element) → dead_by (map lines.Item items) ≡ []
items_dead [] = refl
items_dead (item ∷ items) = items_dead items

pub record TellsAnswer (answer : Result Reply DeskFault) : Type 0 where
  pub hands : handed_by (lines_for answer) ≡ fetched_by answer
  pub none_done : done_by (lines_for answer) ≡ []
  pub none_dead : dead_by (lines_for answer) ≡ []

pub tells_answer : (answer : Result Reply DeskFault) → TellsAnswer answer
tells_answer (Ok (Offered element)) = record { hands = refl; none_done = refl; none_dead = refl }
tells_answer (Ok (Item element)) = record { hands = refl; none_done = refl; none_dead = refl }
tells_answer (Ok Nothing) = record { hands = refl; none_done = refl; none_dead = refl }
tells_answer (Ok (Head element)) = record { hands = refl; none_done = refl; none_dead = refl }
tells_answer (Ok (Removed found)) = record { hands = refl; none_done = refl; none_dead = refl }
tells_answer (Ok (Drained items)) =
    record { hands = handed_items items; none_done = items_done items; none_dead = items_dead items }
tells_answer (Ok Cleared) = record { hands = refl; none_done = refl; none_dead = refl }
tells_answer (Ok (Size count)) = record { hands = refl; none_done = refl; none_dead = refl }
tells_answer (Err Full) = record { hands = refl; none_done = refl; none_dead = refl }
tells_answer (Err Memory) = record { hands = refl; none_done = refl; none_dead = refl }
tells_answer (Err Stopped) = record { hands = refl; none_done = refl; none_dead = refl }

-- a line that ends nothing and hands nothing out
record IsSilent (line : LineReply) : Type 0 where
  none_done : done_by (line ∷ []) ≡ []
  none_dead : dead_by (line ∷ []) ≡ []
  hands : handed_by (line ∷ []) ≡ []

idle_silent : (line : LineReply) → IsIdle line → IsSilent line
idle_silent (lines.Err word) idle = record { none_done = refl; none_dead = refl; hands = refl }
idle_silent lines.Bye idle = record { none_done = refl; none_dead = refl; hands = refl }
idle_silent _ idle = absurd idle

fault_silent : (fault : DeskFault) → IsSilent (fault_line fault)
fault_silent Full = record { none_done = refl; none_dead = refl; hands = refl }
fault_silent Memory = record { none_done = refl; none_dead = refl; hands = refl }
fault_silent Stopped = record { none_done = refl; none_dead = refl; hands = refl }

fault_none : (fault : DeskFault) (reading : Result Request LineFault) → TellsOfNone (fault_line fault) reading
fault_none Full reading = tt
fault_none Memory reading = tt
fault_none Stopped reading = tt

moment_silent : (result : Option ℕ) → IsSilent (moment_line result)
moment_silent None = record { none_done = refl; none_dead = refl; hands = refl }
moment_silent (Some moment) = record { none_done = refl; none_dead = refl; hands = refl }

moment_none : (result : Option ℕ) (moment : ℕ) → TellsOfNone (moment_line result) (Ok (requests.At moment))
moment_none None moment = tt
moment_none (Some set) moment = tt

-- what the policy offers again is of the same job, one attempt later
pub is_next : (policy : Policy) (element again : Element) (now : ℕ) (draft : Draft)
    → IsNextAttempt policy element now draft → IsDrafted draft again → IsNextOf element again
is_next policy element again now draft next drafted = (
  drafted.origin ∙ ap (λ (o : Option ℕ). unwrap_or o again.id) next.origin,
  drafted.attempt ∙ next.attempt,
  drafted.payload ∙ next.payload,
)

module _ {S : Type 0} (rules : DeskRules S) (mine : S → List Made)
    (makes : (old new : S) (asked : ℕ) (ask : Ask) (reply : Reply) → rules.Steps old asked ask (Ok reply) new
    → Makes (rules.gives old) asked ask reply (mine old) (mine new))
    (refuses : (old new : S) (asked : ℕ) (ask : Ask) (fault : DeskFault) → rules.Steps old asked ask (Err fault) new
    → MayGet ask fault × (mine new ≡ mine old))
    (stays : (old new : S) (moment : ℕ) (result : Option ℕ) → rules.Sets old moment result new
    → mine new ≡ mine old) where
  -- what one line does
  record Does (reading : Result Request LineFault) (replies : List LineReply) (old new : Point S) : Type 0 where
    here : List Made
    grows : mine new.desk ≡ mine old.desk ++ here
    failed : List Element
    of_line : AreOfLine reading replies here failed
    unspent : AreUnspent rules.policy failed
    done : List Element
    done_ids : ids_of done ≡ done_by replies
    dead : List Element
    dead_ids : ids_of dead ≡ dead_by replies
    spent : AreSpent rules.policy dead
    parted : (amount : Element → ℕ) → sum_by amount old.held + sum_by amount (handed_by replies)
        ≡ sum_by amount done + sum_by amount dead + sum_by amount failed + sum_by amount new.held

  does_none : (reading : Result Request LineFault) (old new : Point S) (replies : List LineReply) (line : LineReply)
      → replies ≡ line ∷ [] → IsSilent line → TellsOfNone line reading → mine new.desk ≡ mine old.desk
      → new.held ≡ old.held → Does reading replies old new
  does_none reading old new replies line is silent none same held = record {
    here = [];
    grows = same ∙ sym (append-nil (mine old.desk));
    failed = [];
    unspent = tt;
    of_line = (refl, line, is, none);
    done = [];
    done_ids = sym (ap done_by is ∙ silent.none_done);
    dead = [];
    dead_ids = sym (ap dead_by is ∙ silent.none_dead);
    spent = tt;
    parted = λ amount. omega (
      arith,
      ap (λ (all : List LineReply). sum_by amount (handed_by all)) is,
      ap (sum_by amount) silent.hands,
      ap (sum_by amount) held,
    );
  }

  does_end : (reading : Result Request LineFault) (old new : Point S) (replies : List LineReply) (line : LineReply)
      (place : ℕ) (element : Element) → replies ≡ line ∷ [] → EndsJob rules.policy element line
      → TellsOfNone line reading → slice_get old.held place ≡ Some element → new.held ≡ remove old.held place
      → new.desk ≡ old.desk → Does reading replies old new
  does_end reading old new replies (lines.Done id) place element is ends none at held same = record {
    here = [];
    grows = ap mine same ∙ sym (append-nil (mine old.desk));
    failed = [];
    unspent = tt;
    of_line = (refl, lines.Done id, is, none);
    done = element ∷ [];
    done_ids = ap (λ (i : ℕ). i ∷ []) (sym ends) ∙ sym (ap done_by is);
    dead = [];
    dead_ids = sym (ap dead_by is);
    spent = tt;
    parted = λ amount. omega (
      arith,
      ap (λ (all : List LineReply). sum_by amount (handed_by all)) is,
      sum_taken amount old.held place element at,
      sum_by-cons amount element [],
      ap (sum_by amount) held,
    );
  }
  does_end reading old new replies (lines.Dead id) place element is (ends, is_spent) none at held same = record {
    here = [];
    grows = ap mine same ∙ sym (append-nil (mine old.desk));
    failed = [];
    unspent = tt;
    of_line = (refl, lines.Dead id, is, none);
    done = [];
    done_ids = sym (ap done_by is);
    dead = element ∷ [];
    dead_ids = ap (λ (i : ℕ). i ∷ []) (sym ends) ∙ sym (ap dead_by is);
    spent = (is_spent, tt);
    parted = λ amount. omega (
      arith,
      ap (λ (all : List LineReply). sum_by amount (handed_by all)) is,
      sum_taken amount old.held place element at,
      sum_by-cons amount element [],
      ap (sum_by amount) held,
    );
  }
  does_end reading old new replies _ place element is ends none at held same = absurd ends

  does_call : (reading : Result Request LineFault) (replies : List LineReply) (old new : Point S)
      → (call : Calls rules reading replies old new) → (answer : Result Reply DeskFault) → call.answer ≡ answer
      → Does reading replies old new
  does_call reading replies old new call (Ok reply) is =
      let made = makes old.desk new.desk call.handed call.ask reply
      (subst (λ a. rules.Steps old.desk call.handed call.ask a new.desk) is call.steps) in
      let are : replies ≡ lines_for (Ok reply) = call.are ∙ ap lines_for is in
      let held : new.held ≡ old.held ++ fetched_by (Ok reply) =
      call.held ∙ ap (λ (a : Result Reply DeskFault). old.held ++ fetched_by a) is in
      let told = tells_answer (Ok reply) in
      record {
        here = record { event = made.event; reply = Some reply } ∷ [];
        grows = made.grows;
        failed = [];
        unspent = tt;
        of_line = record {
          request = call.request;
          read = call.read;
          ask = call.ask;
          asks = call.asks;
          act = made.of_ask;
          reply = reply;
          replied = refl;
          tells = subst (λ all. TellsOf call.request reply all []) (sym are)
              (call.tells reply (call.begins reply made.answered));
        };
        done = [];
        done_ids = sym (ap done_by are ∙ told.none_done);
        dead = [];
        dead_ids = sym (ap dead_by are ∙ told.none_dead);
        spent = tt;
        parted = λ amount. omega (
          arith,
          ap (λ (all : List LineReply). sum_by amount (handed_by all)) are,
          ap (sum_by amount) told.hands,
          ap (sum_by amount) held,
          sum_by-append amount old.held (fetched_by (Ok reply)),
        );
      }
  does_call reading replies old new call (Err fault) is =
      does_none reading old new replies (fault_line fault) (call.are ∙ ap lines_for is) (fault_silent fault)
      (fault_none fault reading)
      (refuses old.desk new.desk call.handed call.ask fault
      (subst (λ a. rules.Steps old.desk call.handed call.ask a new.desk) is call.steps)).1
      (call.held ∙ ap (λ (a : Result Reply DeskFault). old.held ++ fetched_by a) is ∙ append-nil old.held)

  does_retry : (reading : Result Request LineFault) (replies : List LineReply) (old new : Point S)
      → (retry : Retries rules reading replies old new) → (result : Result Element CallFault)
      → rules.Steps old.desk retry.now (asks.Offer retry.draft) (offer_answer result) new.desk
      → Retried rules result replies old.held retry.place new.held → Does reading replies old new
  does_retry reading replies old new retry (Ok again) steps (are, held) =
      let made = makes old.desk new.desk retry.now (asks.Offer retry.draft) (Offered again) steps in
      record {
        here = record { event = made.event; reply = Some (Offered again) } ∷ [];
        grows = made.grows;
        failed = retry.element ∷ [];
        unspent = (retry.retry.0, tt);
        of_line = record {
          request = requests.Fail retry.id;
          read = retry.read;
          ask = asks.Offer retry.draft;
          asks = (retry.element.origin, retry.retry.1.origin);
          act = made.of_ask;
          reply = Offered again;
          replied = refl;
          tells = (
            retry.element,
            refl,
            retry.named,
            is_next rules.policy retry.element again retry.now retry.draft retry.retry.1 made.answered,
            are,
          );
        };
        done = [];
        done_ids = sym (ap done_by are);
        dead = [];
        dead_ids = sym (ap dead_by are);
        spent = tt;
        parted = λ amount. omega (
          arith,
          ap (λ (all : List LineReply). sum_by amount (handed_by all)) are,
          sum_taken amount old.held retry.place retry.element retry.at,
          sum_by-cons amount retry.element [],
          ap (sum_by amount) held,
        );
      }
  does_retry reading replies old new retry (Err fault) steps (are, held) =
      does_none reading old new replies (fault_line (fault_of fault)) are (fault_silent (fault_of fault))
      (fault_none (fault_of fault) reading)
      (refuses old.desk new.desk retry.now (asks.Offer retry.draft) (fault_of fault) steps).1 held

  does : (reading : Result Request LineFault) (replies : List LineReply) (old new : Point S)
      → Way rules reading replies old new → Does reading replies old new
  does reading replies old new (did_nothing nothing) =
      does_none reading old new replies nothing.line nothing.is (idle_silent nothing.line nothing.idle) nothing.none
      (ap (λ (p : Point S). mine p.desk) nothing.same) (ap (λ (p : Point S). p.held) nothing.same)
  does reading replies old new (did_end end) =
      does_end reading old new replies end.line end.place end.element end.is end.ends end.none
      end.at end.held end.same
  does reading replies old new (did_call call) = does_call reading replies old new call call.answer refl
  does reading replies old new (did_retry retry) =
      does_retry reading replies old new retry retry.result retry.steps retry.retried
  does reading replies old new (did_set set) =
      does_none reading old new replies (moment_line set.result) set.is (moment_silent set.result)
      (subst (TellsOfNone (moment_line set.result)) (sym set.read) (moment_none set.result set.moment))
      (stays old.desk new.desk set.moment set.result set.sets) set.held

  -- what lines do, one after the other
  pub ways_make : (old new : Point S) (turns : List Turn) → WaysAlong rules old turns new
      → (made : List Made) × (mine new.desk ≡ mine old.desk ++ made)
      × (done : List Element) × (dead : List Element) × AreOfLines rules.policy old.held turns made done dead new.held
  ways_make old new [] same = (
    [],
    ap (λ (p : Point S). mine p.desk) same ∙ sym (append-nil (mine old.desk)),
    [],
    [],
    (refl, refl, refl, ap (λ (p : Point S). p.held) same),
  )
  ways_make old new (turn ∷ turns) (between, way, rest) =
      let first = does turn.reading turn.replies old between way in
      let (more, grows, done, dead, others) = ways_make between new turns rest in (
        first.here ++ more,
        grows ∙ ap (λ (m : List Made). m ++ more) first.grows ∙ append_assoc (mine old.desk) first.here more,
        first.done ++ done,
        first.dead ++ dead,
        (
          first.here,
          more,
          refl,
          first.done,
          done,
          refl,
          first.dead,
          dead,
          refl,
          first.failed,
          between.held,
          record {
            events = first.of_line;
            done_ids = first.done_ids;
            dead_ids = first.dead_ids;
            spent = first.spent;
            unspent = first.unspent;
            parted = first.parted;
          },
          others,
        ),
      )

  pub makes_by_lines : (from to : Point S) (turns : List Turn) → Serves rules from turns to
      → (made : List Made) × (mine to.desk ≡ mine from.desk ++ made)
      × (done : List Element) × (dead : List Element) × AreOfLines rules.policy from.held turns made done dead to.held
  makes_by_lines from to turns serves = ways_make from to turns (ways_of rules from to turns serves)

  -- each job that is held at the end was offered again, had had its last attempt, or is lost
  pub makes_by_closing : (from to : S) (held : List Element) (lost : ℕ) → Closes rules from held lost to
      → (made : List Made) × (mine to ≡ mine from ++ made)
      × (gone : List Element) × (length gone ≡ lost) × AreOfClosing rules.policy held made gone
  makes_by_closing from to [] lost (nobody, same) =
      ([], ap mine same ∙ sym (append-nil (mine from)), [], sym nobody, (refl, refl))
  makes_by_closing from to (element ∷ held) lost (now, is_now, result, between, fails, fewer, rest, sum) =
      behind result fails sum (makes_by_closing between to held fewer rest)
    where
      behind : (result : Result Verdict (Element × CallFault)) → FailsTo rules element now from result between
          → lost ≡ lost_by result + fewer
          → (made : List Made) × (mine to ≡ mine between ++ made)
          × (gone : List Element) × (length gone ≡ fewer) × AreOfClosing rules.policy held made gone
          → (made : List Made) × (mine to ≡ mine from ++ made)
          × (gone : List Element) × (length gone ≡ lost) × AreOfClosing rules.policy (element ∷ held) made gone
      behind (Ok (Again again)) (draft, retry, steps) sum (made, is, gone, many, are) =
          let call = makes from between now (asks.Offer draft) (Offered again) steps in
          let first : Made = record { event = call.event; reply = Some (Offered again) } in (
            first ∷ made,
            is ∙ ap (λ (m : List Made). m ++ made) call.grows ∙ append_assoc (mine from) (first ∷ []) made,
            gone,
            omega (arith, many, sum),
            inr (inl (
              again,
              first,
              made,
              refl,
              refl,
              is_next rules.policy element again now draft retry.1 call.answered,
              retry.0,
              are,
            )),
          )
      behind (Ok (Dead dead)) (retry, is_dead, same) sum (made, is, gone, many, are) = (
        made,
        is ∙ ap (λ (m : List Made). m ++ made) (ap mine same),
        gone,
        omega (arith, many, sum),
        inl (retry, are),
      )
      behind (Err (back, fault)) (draft, retry, steps, is_back) sum (made, is, gone, many, are) = (
        made,
        is ∙ ap (λ (m : List Made). m ++ made) (refuses from between now (asks.Offer draft) (fault_of fault) steps).1,
        element ∷ gone,
        omega (arith, many, sum),
        inr (inr (gone, refl, retry.0, are)),
      )
