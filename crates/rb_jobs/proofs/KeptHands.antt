-- A session at a kept queue is all that the queue's history has, under one seat.
use Rattle.std.proofs.Common.{◌≡◌, ◌≢◌, ℕ, ◌⊎◌, inl, inr, List, [], ◌∷◌, ◌++◌, Bool, cond, Option, Result, Ok, Err, refl, sym, ap, subst, ◌∙◌, eq-eqb, ne_eqb}
use Rattle.std.specs.Prelude.{filter, ◌==◌}
use Rattle.std.specs.Io.KnownBytes.{IsAtEnd}
use Rattle.rb_delayed.specs.declared.element.Element.{Element}
use Rattle.rb_queue.specs.History.{IsLegal}
use Rattle.rb_queue.specs.Replies.{reply_of}
use Rattle.rb_queue.specs.declared.ask.Ask.{Ask}
use Rattle.rb_queue.specs.declared.event.Event.{Event}
use Rattle.rb_queue.specs.declared.opening.Opening.{Opening}
use Rattle.rb_queue.specs.declared.reply.Reply.{Reply}
use Rattle.rb_queue.proofs.Options.{same_or_not}
use Rattle.rb_kept.specs.Log.{Log}
use Rattle.rb_kept.specs.Tries.{StepsTo}
use Rattle.rb_kept.specs.declared.fault.CallFault.{CallFault}
use Rattle.rb_kept.specs.declared.fault.CallFault.TheVariants as refusals
use Rattle.rb_kept.specs.declared.outcome.Outcome.{Outcome}
use Rattle.rb_kept.specs.declared.outcome.Outcome.TheVariants.{Done, Later}
use Rattle.rb_retry.specs.DeskRules.{kept_rules}
use Rattle.rb_retry.specs.Jobs.{FailsTo}
use Rattle.rb_retry.specs.KeptSteps.{KeptState, KeptSteps, asked_at}
use Rattle.rb_retry.specs.Made.{Made, made_after, made_by}
use Rattle.rb_retry.specs.declared.desk_fault.DeskFault.{DeskFault}
use Rattle.rb_retry.specs.declared.policy.Policy.{Policy}
use Rattle.rb_retry.specs.declared.verdict.Verdict.{Verdict}
use Rattle.rb_retry.specs.declared.verdict.Verdict.TheVariants.{Again, Dead}
use Rattle.rb_protocol.specs.declared.request.Request.{Request}
use Rattle.rb_protocol.specs.declared.line_fault.LineFault.{LineFault}
use Rattle.rb_protocol.specs.declared.line_reply.LineReply.{LineReply}
use Rattle.rb_session.specs.Rules.{SessionRules, session_rules}
use Rattle.rb_session.specs.Served.{Served}
use Rattle.rb_session.specs.Turn.{Point, point}
use Rattle.rb_session.specs.declared.delivery.Delivery.{Delivery}
use Rattle.rb_session.specs.declared.delivery.Delivery.TheVariants.{AtOnce}
use Rattle.rb_jobs.proofs.Ways.{Way, did_nothing, did_end, did_call, did_retry, did_set}
use Rattle.rb_jobs.proofs.KeptEvents.{whole_mine, makes_whole, refuses_whole, stays_whole}
use Rattle.rb_runs.specs.Script.{IsNew, RanSession, script_terms}
use Rattle.rb_jobs.specs.Hands.{HandlesAll, AreHands}
use Rattle.rb_jobs.specs.SessionHands.{LeadsOn}
use Rattle.rb_jobs.specs.RunJobs.{LinesKeepJobs, ScriptKeepsJobs, empty_hands, only_hands}
use Rattle.rb_jobs.proofs.Histories.{jobs_are_kept}
use Rattle.rb_jobs.proofs.SessionHands.{goes_same, goes_then, goes_way, goes_ends}
use Rattle.rb_jobs.proofs.Sessions.{along_lines, along_run}

-- each event is of this seat
abbrev AreOfSeat : ℕ → List Event → Type 0
AreOfSeat seat [] = Unit {0}
AreOfSeat seat (event ∷ events) = (event.seat ≡ seat) × AreOfSeat seat events

of_seat_more : (seat : ℕ) (events : List Event) (event : Event) → AreOfSeat seat events → event.seat ≡ seat
    → AreOfSeat seat (events ++ event ∷ [])
of_seat_more seat [] event are is = (is, tt)
of_seat_more seat (first ∷ events) event are is = (are.0, of_seat_more seat events event are.1 is)

-- so all of them are what that seat made, and no other made any
own_all : (seat : ℕ) (opening : Opening) (before events : List Event) → AreOfSeat seat events
    → filter (λ (made : Made). made.event.seat == seat) (made_after opening before events)
    ≡ made_after opening before events
own_all seat opening before [] are = refl
own_all seat opening before (event ∷ events) are =
    let here : Made = record { event = event; reply = reply_of opening (before ++ event ∷ []) } in
    let rest : List Made =
    filter (λ (made : Made). made.event.seat == seat) (made_after opening (before ++ event ∷ []) events) in
    ap (λ (test : Bool). cond test (here ∷ rest) rest) (eq-eqb event.seat seat are.0)
    ∙ ap (λ (more : List Made). here ∷ more) (own_all seat opening (before ++ event ∷ []) events are.1)

own_none : (seat other : ℕ) (opening : Opening) (before events : List Event) → AreOfSeat seat events → other ≢ seat
    → filter (λ (made : Made). made.event.seat == other) (made_after opening before events) ≡ []
own_none seat other opening before [] are differ = refl
own_none seat other opening before (event ∷ events) are differ =
    let here : Made = record { event = event; reply = reply_of opening (before ++ event ∷ []) } in
    let rest : List Made =
    filter (λ (made : Made). made.event.seat == other) (made_after opening (before ++ event ∷ []) events) in
    ap (λ (test : Bool). cond test (here ∷ rest) rest)
    (ne_eqb event.seat other (λ same. differ (sym same ∙ are.0)))
    ∙ own_none seat other opening (before ++ event ∷ []) events are.1 differ

-- The log began with this opening, and its history is legal and of seat 0.
pub record IsOwn (opening : Opening) (state : KeptState) : Type 0 where
  pub opening_is : state.log.opening ≡ opening
  pub legal : IsLegal opening state.log.history
  pub own : AreOfSeat 0 state.log.history

module _ (opening : Opening) where
  own_log : (old new : KeptState) → new.log ≡ old.log → IsOwn opening old → IsOwn opening new
  own_log old new same own = record {
    opening_is = ap (λ (log : Log). log.opening) same ∙ own.opening_is;
    legal = subst (λ (log : Log). IsLegal opening log.history) (sym same) own.legal;
    own = subst (λ (log : Log). AreOfSeat 0 log.history) (sym same) own.own;
  }

  own_steps : (old new : KeptState) (handed : ℕ) (ask : Ask) (result : Result Reply DeskFault)
      → KeptSteps old handed ask result new → IsOwn opening old → IsOwn opening new
  own_steps old new handed ask result steps own = of_outcome steps.outcome steps.steps
    where
      of_outcome : (outcome : Result Outcome CallFault)
          → StepsTo old.log (record { seat = 0; asked = asked_at old.moment ask handed; ask = ask }) outcome new.log
          → IsOwn opening new
      of_outcome (Ok (Done reply)) (room, (event, is, records)) = record {
        opening_is = ap (λ (log : Log). log.opening) is ∙ own.opening_is;
        legal = subst (λ (log : Log). IsLegal opening log.history) (sym is)
            (subst (λ o. IsLegal o (old.log.history ++ event ∷ [])) own.opening_is records.legal);
        own = subst (λ (log : Log). AreOfSeat 0 log.history) (sym is)
            (of_seat_more 0 old.log.history event own.own records.seat);
      }
      of_outcome (Ok (Later next)) (room, (waits, is)) = own_log old new is own
      of_outcome (Err refusals.Full) (full, is) = own_log old new is own
      of_outcome (Err refusals.Memory) (room, takes, is) = own_log old new is own

  -- it stays so
  abbrev StaysOwn : Point KeptState → Point KeptState → Type 0
  StaysOwn from to = IsOwn opening from.desk → IsOwn opening to.desk

  own_same : (from to : Point KeptState) → to ≡ from → StaysOwn from to
  own_same from to same own = subst (λ (p : Point KeptState). IsOwn opening p.desk) (sym same) own

  own_then : (one two three : Point KeptState) → StaysOwn one two → StaysOwn two three → StaysOwn one three
  own_then one two three first second own = second (first own)

  own_way : (policy : Policy) (old new : Point KeptState) (reading : Result Request LineFault) (replies : List LineReply)
      → Way (kept_rules policy) reading replies old new → StaysOwn old new
  own_way policy old new reading replies (did_nothing nothing) own = own_same old new nothing.same own
  own_way policy old new reading replies (did_end end) own = subst (IsOwn opening) (sym end.same) own
  own_way policy old new reading replies (did_call call) own =
      own_steps old.desk new.desk call.handed call.ask call.answer call.steps own
  own_way policy old new reading replies (did_retry retry) own =
      own_steps old.desk new.desk retry.now _ _ retry.steps own
  own_way policy old new reading replies (did_set set) own =
      own_log old.desk new.desk (ap (λ (s : KeptState). s.log) set.sets.1) own

  own_ends : (policy : Policy) (from to : KeptState) (element : Element) (held : List Element) (now : ℕ)
      (result : Result Verdict (Element × CallFault)) → FailsTo (kept_rules policy) element now from result to
      → StaysOwn (point from (element ∷ held)) (point to held)
  own_ends policy from to element held now (Ok (Again again)) (draft, retry, steps) own =
      own_steps from to now _ _ steps own
  own_ends policy from to element held now (Ok (Dead dead)) (retry, is_dead, same) own =
      subst (IsOwn opening) (sym same) own
  own_ends policy from to element held now (Err (back, fault)) (draft, retry, steps, is_back) own =
      own_steps from to now _ _ steps own

  -- what a new desk is
  own_new : (desk : KeptState) (calls : ℕ) → IsNew desk opening calls → IsOwn opening desk
  own_new desk calls new = record {
    opening_is = new.log.opening_is;
    legal = subst (IsLegal opening) (sym new.log.history) tt;
    own = subst (AreOfSeat 0) (sym new.log.history) tt;
  }

  -- behind a new desk, the history is all that was made
  handles_own : (policy : Policy) (from to : KeptState) (calls : ℕ) (held : List Element) → IsNew from opening calls
      → IsOwn opening to → LeadsOn policy whole_mine (point from []) (point to held)
      → HandlesAll policy [] (made_after opening [] to.log.history) held
  handles_own policy from to calls held new own (made, grows, handles) =
      let none : whole_mine from ≡ [] = ap (made_after from.log.opening []) new.log.history in
      let all : made_after opening [] to.log.history ≡ made =
      ap (λ (o : Opening). made_after o [] to.log.history) (sym own.opening_is) ∙ grows
      ∙ ap (λ (mades : List Made). mades ++ made) none in
      subst (λ mades. HandlesAll policy [] mades held) (sym all) handles

  hands_at : (policy : Policy) (history : List Event) (held : List Element) → AreOfSeat 0 history
      → HandlesAll policy [] (made_after opening [] history) held → (seat : ℕ) (hand : List Element)
      → (seat ≡ 0 → hand ≡ held) → (seat ≢ 0 → hand ≡ []) → HandlesAll policy [] (made_by seat opening history) hand
  hands_at policy history held own handles seat hand here other = by_seat (same_or_not seat 0)
    where
      by_seat : (seat ≡ 0) ⊎ (seat ≢ 0) → HandlesAll policy [] (made_by seat opening history) hand
      by_seat (inl same) =
          subst (HandlesAll policy [] (made_by seat opening history)) (sym (here same))
          (subst (λ mades. HandlesAll policy [] mades held)
          (sym (own_all 0 opening [] history own) ∙ ap (λ (s : ℕ). made_by s opening history) (sym same)) handles)
      by_seat (inr differ) =
          subst (HandlesAll policy [] (made_by seat opening history)) (sym (other differ))
          (subst (λ mades. HandlesAll policy [] mades []) (sym (own_none 0 seat opening [] history own differ)) tt)

pub lines_keep_jobs : LinesKeepJobs
lines_keep_jobs policy calls opening from to turns jobs new serves =
    let rules : SessionRules KeptState = session_rules (kept_rules policy) AtOnce (λ text. Unit {0}) in
    let goes = along_lines rules (LeadsOn policy whole_mine)
    (goes_same (kept_rules policy) whole_mine makes_whole refuses_whole stays_whole)
    (goes_then (kept_rules policy) whole_mine makes_whole refuses_whole stays_whole)
    (goes_way (kept_rules policy) whole_mine makes_whole refuses_whole stays_whole)
    (goes_ends (kept_rules policy) whole_mine makes_whole refuses_whole stays_whole)
    (point from []) to turns serves in
    let own = along_lines rules (StaysOwn opening) (own_same opening) (own_then opening) (own_way opening policy)
    (own_ends opening policy) (point from []) to turns serves (own_new opening from calls new) in
    let hands : AreHands policy opening to.desk.log.history (only_hands to.held) =
    λ seat. hands_at opening policy to.desk.log.history to.held own.own
    (handles_own opening policy from to.desk calls to.held new own goes) seat (only_hands to.held seat)
    (λ same. ap (λ (b : Bool). cond b to.held []) (eq-eqb seat 0 same))
    (λ differ. ap (λ (b : Bool). cond b to.held []) (ne_eqb seat 0 differ)) in
    (jobs_are_kept policy opening to.desk.log.history (only_hands to.held) jobs own.legal hands, hands)

-- the history of a script is legal, and of one seat
own_script : {W : Type 0} (sends : W → Option (List ℕ)) (got : Option (List ℕ)) (policy : Policy) (calls : ℕ)
    (delivery : Delivery) (rest : Option (List ℕ)) (opening : Opening) (served : Served) (to : KeptState)
    → RanSession (script_terms sends got policy calls delivery opening) (IsAtEnd rest) served to → IsOwn opening to
own_script sends got policy calls delivery rest opening served to ran =
    along_run (script_terms sends got policy calls delivery opening).rules (StaysOwn opening) (own_same opening)
    (own_then opening) (own_way opening policy) (own_ends opening policy) (λ from to held missed. absurd missed)
    (IsAtEnd rest) ran.from to served ran.ran
    (own_new opening ran.from calls ran.new)

pub legal_script : {W : Type 0} (sends : W → Option (List ℕ)) (got : Option (List ℕ)) (policy : Policy) (calls : ℕ)
    (delivery : Delivery) (rest : Option (List ℕ)) (opening : Opening) (served : Served) (to : KeptState)
    → RanSession (script_terms sends got policy calls delivery opening) (IsAtEnd rest) served to
    → IsLegal opening to.log.history
legal_script sends got policy calls delivery rest opening served to ran =
    (own_script sends got policy calls delivery rest opening served to ran).legal

pub script_keeps_jobs : {W : Type 0} (sends : W → Option (List ℕ)) → ScriptKeepsJobs sends
script_keeps_jobs sends got policy calls delivery rest opening served to jobs ran =
    let rules : SessionRules KeptState = (script_terms sends got policy calls delivery opening).rules in
    let goes = along_run rules (LeadsOn policy whole_mine)
    (goes_same (kept_rules policy) whole_mine makes_whole refuses_whole stays_whole)
    (goes_then (kept_rules policy) whole_mine makes_whole refuses_whole stays_whole)
    (goes_way (kept_rules policy) whole_mine makes_whole refuses_whole stays_whole)
    (goes_ends (kept_rules policy) whole_mine makes_whole refuses_whole stays_whole)
    (λ from to held missed. absurd missed) (IsAtEnd rest) ran.from to served ran.ran in
    let own = own_script sends got policy calls delivery rest opening served to ran in
    let hands : AreHands policy opening to.log.history empty_hands =
    λ seat. hands_at opening policy to.log.history [] own.own
    (handles_own opening policy ran.from to calls [] ran.new own goes) seat [] (λ same. refl) (λ differ. refl) in
    record { keeps = jobs_are_kept policy opening to.log.history empty_hands jobs own.legal hands; hands = hands }
