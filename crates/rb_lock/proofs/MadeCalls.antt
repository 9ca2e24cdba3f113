-- A call through a pass: the lock is taken, the kept queue is called where it lies, the lock is given back.
use Rattle.std.proofs.Common.{◌≡◌, ◌≢◌, ℕ, ◌≤◌, Bool, cond, List, [], ◌∷◌, ◌++◌, length, refl, ap, sym, subst, ◌∙◌, arith, eq-eqb, ne_eqb, length-append}
use Rattle.std.specs.Prelude.{Some, Result, Ok, Err}
use Rattle.std.proofs.lemmas.List.{append-nil}
use mathlib.Core.List.{IsPrefix}
use Rattle.atomic_table.specs.Seated.{TableId}
use Rattle.rb_ledger.specs.declared.totals.Totals.{Totals}
use Rattle.rb_queue.specs.Counts.{events_of}
use Rattle.rb_queue.specs.History.{IsLegal}
use Rattle.rb_queue.specs.declared.event.Event.{Event}
use Rattle.rb_kept.specs.Log.{Log, HasRoom, IsFull, with_events}
use Rattle.rb_kept.specs.Tries.{StepsTo, Records, Waits}
use Rattle.rb_kept.specs.Shares.{Grows, totals_of, share_with}
use Rattle.rb_kept.specs.declared.tries.Try.{Try}
use Rattle.rb_kept.specs.declared.outcome.Outcome.{Outcome}
use Rattle.rb_kept.specs.declared.outcome.Outcome.TheVariants.{Done, Later}
use Rattle.rb_kept.specs.declared.fault.CallFault.{CallFault}
use Rattle.rb_kept.specs.declared.fault.CallFault.TheVariants.{Full, Memory}
use Rattle.rb_lock.specs.Records.{calls_of}
use Rattle.rb_lock.specs.Passes.{PassState, IsSoundPass, Learns, log_at, capped, tally_of}
use Rattle.rb_lock.specs.SharedCalls.{Answered}
use Rattle.rb_lock.specs.Views.{idle, pass_of, holder_of, caught_up}
use Rattle.rb_lock.specs.Rule.{pair_of}
use Rattle.rb_lock.specs.LockSteps.{LockSeat, Noted, TakesLock, Grown, MayGive, ActsIn, IsPass, in_hand}
use Rattle.rb_lock.specs.declared.pair.Pair.{Pair}
use Rattle.rb_lock.specs.declared.stage.Stage.TheVariants.{Idle}
use Rattle.rb_lock.proofs.Beginnings.{prefix_trans, append_same}
use Rattle.rb_lock.proofs.LongerHistories.{events_of-append}
use Rattle.rb_lock.proofs.CallTotals.{share_with-capped, capped-between}
use Rattle.rb_lock.proofs.RestingPasses.{learned, found_pair}

-- one event is its seat's alone
own_event : (event : Event) (seat : ℕ) → event.seat ≡ seat → events_of (event ∷ []) seat ≡ event ∷ []
own_event event seat is = ap (λ (b : Bool). cond b (event ∷ []) []) (eq-eqb event.seat seat is)

other_event : (event : Event) (seat other : ℕ) → event.seat ≡ seat → other ≢ seat → events_of (event ∷ []) other ≡ []
other_event event seat other is apart = ap (λ (b : Bool). cond b (event ∷ []) []) (ne_eqb event.seat other (λ e. apart (sym e ∙ is)))

-- what a step added to the log is of the try's seat alone
pub record IsOf (seat : ℕ) (more : List Event) : Type 0 where
  pub own : events_of more seat ≡ more
  pub others : (other : ℕ) → other ≢ seat → events_of more other ≡ []

none_of : (old new : Log) (seat : ℕ) (more : List Event) → new ≡ with_events old more → new ≡ old → IsOf seat more
none_of old new seat more adds same =
    let none : more ≡ [] = append_same old.history more [] (ap (λ (l : Log). l.history) (sym adds ∙ same) ∙ sym (append-nil old.history)) in
    subst (IsOf seat) (sym none) (record { own = refl; others = λ other apart. refl })

pub is_of_step : (old new : Log) (try : Try) (step : Result Outcome CallFault) (more : List Event) → StepsTo old try step new → new ≡ with_events old more → IsOf try.seat more
is_of_step old new try (Ok (Done reply)) more (room, (event, is, records)) adds =
    let one : more ≡ event ∷ [] = append_same old.history more (event ∷ []) (ap (λ (l : Log). l.history) (sym adds ∙ is)) in
    subst (IsOf try.seat) (sym one)
    (record { own = own_event event try.seat records.seat; others = λ other apart. other_event event try.seat other records.seat apart })
is_of_step old new try (Ok (Later next)) more (room, (waits, is)) adds = none_of old new try.seat more adds is
is_of_step old new try (Err Full) more (full, is) adds = none_of old new try.seat more adds is
is_of_step old new try (Err Memory) more (room, takes, is) adds = none_of old new try.seat more adds is

-- a step keeps the history legal, and within its room
pub legal_after : (old new : Log) (try : Try) (step : Result Outcome CallFault) → StepsTo old try step new → IsLegal old.opening old.history → IsLegal new.opening new.history
legal_after old new try (Ok (Done reply)) (room, (event, is, records)) legal = subst (λ (l : Log). IsLegal l.opening l.history) (sym is) records.legal
legal_after old new try (Ok (Later next)) (room, (waits, is)) legal = subst (λ (l : Log). IsLegal l.opening l.history) (sym is) legal
legal_after old new try (Err Full) (full, is) legal = subst (λ (l : Log). IsLegal l.opening l.history) (sym is) legal
legal_after old new try (Err Memory) (room, takes, is) legal = subst (λ (l : Log). IsLegal l.opening l.history) (sym is) legal

pub few_after : (old new : Log) (try : Try) (step : Result Outcome CallFault) → StepsTo old try step new → length new.history ≤ new.capacity
few_after old new try (Ok (Done reply)) (room, (event, is, records)) =
    subst (λ (l : Log). length l.history ≤ l.capacity) (sym is) (omega (arith, length-append old.history (event ∷ []), room))
few_after old new try (Ok (Later next)) (room, (waits, is)) = subst (λ (l : Log). length l.history ≤ l.capacity) (sym is) (omega (arith, room))
few_after old new try (Err Full) (full, is) = subst (λ (l : Log). length l.history ≤ l.capacity) (sym is) (omega (arith, full))
few_after old new try (Err Memory) (room, takes, is) = subst (λ (l : Log). length l.history ≤ l.capacity) (sym is) (omega (arith, room))

-- where nothing was added, the pass's calls are as before
no_more : (pass : PassState) (log new : Log) (more : List Event) → new ≡ with_events log more → new ≡ log → events_of new.history pass.name ≡ pass.mine ++ more → events_of new.history pass.name ≡ pass.mine
no_more pass log new more adds same mine =
    let none : more ≡ [] = append_same log.history more [] (ap (λ (l : Log). l.history) (sym adds ∙ same) ∙ sym (append-nil log.history)) in
    mine ∙ ap (λ (es : List Event). pass.mine ++ es) none ∙ append-nil pass.mine

-- how a step of the log that was found answers the pass
answered_by : (pass : PassState) (try : Try) (step : Result Outcome CallFault) (names : ℕ) (log new : Log) (more : List Event) → log ≡ log_at pass log.history → StepsTo log try step new
    → new ≡ with_events log more → events_of new.history pass.name ≡ pass.mine ++ more → IsPrefix pass.seen log.history
    → Answered pass (learned pass names new.history) try step
answered_by pass try (Ok (Done reply)) names log new more ours (room, (event, is, records)) adds mine begins =
    let one : more ≡ event ∷ [] = append_same log.history more (event ∷ []) (ap (λ (l : Log). l.history) (sym adds ∙ is)) in
    record {
      before = log.history;
      event = event;
      begins = begins;
      room = subst HasRoom ours room;
      seen = ap (λ (l : Log). l.history) is;
      mine = mine ∙ ap (λ (es : List Event). pass.mine ++ es) one;
      records = subst (λ (l : Log). Records l try reply event) ours records;
    }
answered_by pass try (Ok (Later next)) names log new more ours (room, (waits, is)) adds mine begins =
    let now : log ≡ log_at pass new.history = ours ∙ ap (λ (l : Log). log_at pass l.history) (sym is) in
    (no_more pass log new more adds is mine, subst HasRoom now room, subst (λ (l : Log). Waits l try next) now waits)
answered_by pass try (Err Full) names log new more ours (full, is) adds mine begins =
    let now : log ≡ log_at pass new.history = ours ∙ ap (λ (l : Log). log_at pass l.history) (sym is) in
    (no_more pass log new more adds is mine, subst IsFull now full)
answered_by pass try (Err Memory) names log new more ours (room, takes, is) adds mine begins =
    let now : log ≡ log_at pass new.history = ours ∙ ap (λ (l : Log). log_at pass l.history) (sym is) in
    (no_more pass log new more adds is mine, subst HasRoom now room, takes)

-- a call was made: from the log that the pass found, one step of the kept queue
pub record IsMade (pass : PassState) (try : Try) (step : Result Outcome CallFault) (share share' : Totals) (names : ℕ) (log new : Log) : Type 0 where
  pub found : Noted log names (idle pass)
  pub legal : IsLegal log.opening log.history
  pub steps : StepsTo log try step new
  pub grows : Grows log new share share'

module _ (pass : PassState) (try : Try) (step : Result Outcome CallFault) (share share' : Totals) (names : ℕ) (log new : Log)
    (made : IsMade pass try step share share' names log new) (named : try.seat ≡ pass.name) where
  -- the log that was found is one of the pass's queue
  found_log : log ≡ log_at pass log.history
  found_log i = record { opening = sym (made.found.fits.opening tt) i; history = log.history; capacity = sym (made.found.fits.capacity tt) i }

  pub more_of : IsOf pass.name made.grows.more
  more_of = subst (λ (seat : ℕ). IsOf seat made.grows.more) named (is_of_step log new try step made.grows.more made.steps made.grows.log)

  abbrev pub grown : Grown pass.name log.history new.history
  grown = record { more = made.grows.more; is = ap (λ (l : Log). l.history) made.grows.log; own = more_of.own; others = more_of.others }

  pub same_capacity : new.capacity ≡ pass.capacity
  same_capacity = ap (λ (l : Log). l.capacity) made.grows.log ∙ sym (made.found.fits.capacity tt)

  pub same_opening : new.opening ≡ pass.opening
  same_opening = ap (λ (l : Log). l.opening) made.grows.log ∙ sym (made.found.fits.opening tt)

  -- the pass's calls are those that it had, and what the step added
  mine_more : events_of new.history pass.name ≡ pass.mine ++ made.grows.more
  mine_more =
      ap (λ (h : List Event). events_of h pass.name) grown.is ∙ events_of-append log.history made.grows.more pass.name
      ∙ (λ i. made.found.fits.records.0.all i ++ more_of.own i)

  pub learns : IsSoundPass pass → Learns pass (learned pass names new.history)
  learns sound = record {
    table = refl;
    name = refl;
    capacity = refl;
    opening = refl;
    folded = refl;
    noted = made.found.fits.noted;
    parts = refl;
    begins = prefix_trans pass.seen log.history new.history made.found.fits.begins (made.grows.more, sym grown.is);
    sound = record {
      legal = subst (λ o. IsLegal o new.history) same_opening (legal_after log new try step made.steps made.legal);
      few = omega (arith, few_after log new try step made.steps, same_capacity);
      most = sound.most;
      own = refl;
    };
  }

  -- what the pass's calls come to, and those that were added
  more_counted : share_with (tally_of pass) made.grows.more ≡ tally_of (learned pass names new.history)
  more_counted =
      share_with-capped (pass.mine ++ calls_of pass.folded) made.grows.more
      ∙ capped-between pass.mine made.grows.more (calls_of pass.folded)
      ∙ ap (λ (es : List Event). capped (totals_of (es ++ calls_of pass.folded))) (sym mine_more)

  -- the share stays that of the pass's calls
  pub counted : share ≡ tally_of pass → share' ≡ tally_of (learned pass names new.history)
  counted was = made.grows.share ∙ ap (λ (t : Totals). share_with t made.grows.more) was ∙ more_counted

  pub answered : Answered pass (learned pass names new.history) try step
  answered = answered_by pass try step names log new made.grows.more found_log made.steps made.grows.log mine_more made.found.fits.begins

-- a pass at rest took the lock, and called the queue in its hand under its own name
pub record CallsInHand {T : Type 0} (pass : PassState) (try : Try) (step : Result Outcome CallFault) (share share' : Totals) (seat0 seat1 seat2 : LockSeat T) : Type 0 where
  pub rest : seat0 ≡ (idle pass, [])
  pub got : TakesLock seat0 seat1
  pub acts : ActsIn try step share share' seat1 seat2
  pub named : try.seat ≡ pass.name

-- From the seat at rest to the seat that has given the lock back.
module _ {T : Type 0} {pass : PassState} {try : Try} {step : Result Outcome CallFault} {share share' : Totals} {seat0 seat1 seat2 : LockSeat T}
    (call : CallsInHand pass try step share share' seat0 seat1 seat2) where
  abbrev got : TakesLock seat0 seat1
  got = call.got

  abbrev acts : ActsIn try step share share' seat1 seat2
  acts = call.acts

  before_is : acts.acts.before ≡ pair_of got.log got.names
  before_is = found_pair pass seat0 seat1 call.rest got acts.slot acts.acts.before acts.was acts.acts.was

  pub made : IsMade pass try step share share' got.names got.log acts.acts.after.kept
  made = record {
    found = subst (λ (m : LockSeat T). Noted got.log got.names m.0) call.rest got.found;
    legal = subst (λ (h : Pair T). IsLegal h.kept.opening h.kept.history) before_is acts.acts.legal;
    steps = subst (λ (h : Pair T). StepsTo h.kept try step acts.acts.after.kept) before_is acts.acts.steps;
    grows = subst (λ (h : Pair T). Grows h.kept acts.acts.after.kept share share') before_is acts.acts.grows;
  }

  after_is : acts.slot' ≡ Some (pair_of acts.acts.after.kept got.names)
  after_is =
      acts.acts.is
      ∙ (λ i. Some (record { kept = acts.acts.after.kept; names = (acts.acts.names ∙ ap (λ (h : Pair T). h.names) before_is) i }))

  seat2_is : seat2 ≡ (holder_of (idle pass) got.log.history got.names, (0, Some (pair_of acts.acts.after.kept got.names)) ∷ [])
  seat2_is =
      let view : seat1.0 ≡ holder_of (idle pass) got.log.history got.names = got.view ∙ ap (λ (m : LockSeat T). holder_of m.0 got.log.history got.names) call.rest in
      acts.is ∙ (λ i. (view i, (0, after_is i) ∷ []))

  pub may_give : MayGive seat2
  may_give = record {
    pass = pass;
    found = got.log;
    new = acts.acts.after.kept;
    names = got.names;
    is = seat2_is;
    capacity = same_capacity pass try step share share' got.names got.log acts.acts.after.kept made call.named;
    opening = same_opening pass try step share share' got.names got.log acts.acts.after.kept made call.named;
    grown = grown pass try step share share' got.names got.log acts.acts.after.kept made call.named;
    few = got.found.few;
  }

  module _ (table : TableId) (seat3 : LockSeat T) (of_pass : table ≡ pass.table) (gave : seat3 ≡ (caught_up seat2.0 (in_hand seat2.1) Idle, [])) where
    seat3_is : seat3 ≡ (idle (learned pass got.names acts.acts.after.kept.history), [])
    seat3_is = gave ∙ ap (λ (m : LockSeat T). (caught_up m.0 (in_hand m.1) Idle, [])) seat2_is

    -- what the pass is seen as now
    view3 : pass_of table seat3.0 ≡ learned pass got.names acts.acts.after.kept.history
    view3 i = pass_of (of_pass i) (seat3_is i).0

    pub called_pass : (name : ℕ) → name ≡ pass.name → share ≡ tally_of pass → IsSoundPass pass → IsPass table seat3 name share'
    called_pass name is was sound = record {
      rest = seat3_is ∙ sym (ap (λ (m : LockSeat T). (idle (pass_of table m.0), [])) seat3_is);
      name_is = is ∙ sym (ap (λ (m : LockSeat T). m.0.name) seat3_is);
      counted = counted pass try step share share' got.names got.log acts.acts.after.kept made call.named was ∙ sym (ap tally_of view3);
      sound = subst IsSoundPass (sym view3) (learns pass try step share share' got.names got.log acts.acts.after.kept made call.named sound).sound;
    }

    pub called_learns : IsSoundPass pass → Learns pass (pass_of table seat3.0)
    called_learns sound = subst (Learns pass) (sym view3) (learns pass try step share share' got.names got.log acts.acts.after.kept made call.named sound)

    pub called_answered : Answered pass (pass_of table seat3.0) (record try { seat = pass.name }) step
    called_answered =
        subst (λ (n : ℕ). Answered pass (pass_of table seat3.0) (record try { seat = n }) step) call.named
        (subst (λ (p : PassState). Answered pass p try step) (sym view3)
        (answered pass try step share share' got.names got.log acts.acts.after.kept made call.named))
