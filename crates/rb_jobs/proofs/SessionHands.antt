-- What a line, and the end of a held job, do with what is held.
use Rattle.std.proofs.Common.{◌≡◌, ℕ, List, [], ◌∷◌, ◌++◌, inl, inr, Option, Some, Result, Ok, Err, refl, sym, ap, subst, ◌∙◌, append-nil, append_assoc, remove}
use Rattle.std.specs.Prelude.{unwrap_or, slice_get}
use Rattle.rb_delayed.specs.declared.element.Element.{Element}
use Rattle.rb_queue.specs.Draft.{IsDrafted}
use Rattle.rb_queue.specs.declared.ask.Ask.{Ask}
use Rattle.rb_queue.specs.declared.ask.Ask.TheVariants as asks
use Rattle.rb_queue.specs.declared.draft.Draft.{Draft}
use Rattle.rb_queue.specs.declared.reply.Reply.{Reply}
use Rattle.rb_queue.specs.declared.reply.Reply.TheVariants.{Offered, Item, Nothing, Head, Removed, Drained, Cleared, Size}
use Rattle.rb_kept.specs.declared.fault.CallFault.{CallFault}
use Rattle.rb_retry.specs.Asked.{Makes, MayGet}
use Rattle.rb_retry.specs.DeskRules.{DeskRules}
use Rattle.rb_retry.specs.Jobs.{FailsTo, offer_answer}
use Rattle.rb_retry.specs.KeptSteps.{fault_of}
use Rattle.rb_retry.specs.Made.{Made}
use Rattle.rb_retry.specs.Retry.{IsRetry, next_expiry}
use Rattle.rb_retry.specs.declared.desk_fault.DeskFault.{DeskFault}
use Rattle.rb_retry.specs.declared.policy.Policy.{Policy}
use Rattle.rb_retry.specs.declared.verdict.Verdict.{Verdict}
use Rattle.rb_retry.specs.declared.verdict.Verdict.TheVariants.{Again, Dead}
use Rattle.rb_protocol.specs.declared.request.Request.{Request}
use Rattle.rb_protocol.specs.declared.line_fault.LineFault.{LineFault}
use Rattle.rb_protocol.specs.declared.line_reply.LineReply.{LineReply}
use Rattle.rb_jobs.specs.Events.{BeginsOne}
use Rattle.rb_jobs.specs.RunEvents.{AreSomeOf}
use Rattle.rb_session.specs.Turn.{Point, point, fetched_by}
use Rattle.rb_jobs.proofs.HandedOut.{some_all, some_removed, some_trans}
use Rattle.rb_jobs.proofs.Ways.{Begins, Retried, Way, did_nothing, did_end, did_call, did_retry, did_set}
use Rattle.rb_jobs.specs.Hands.{RetriesJob, Handles, HandlesAll}
use Rattle.rb_jobs.specs.SessionHands.{LeadsOn}

-- who holds more handles as much, and one handles what follows behind what came before
handles_more : (policy : Policy) (held fewer : List Element) (mades : List Made) (after : List Element)
    → AreSomeOf fewer held → HandlesAll policy fewer mades after → HandlesAll policy held mades after
handles_more policy held fewer [] after some are = some_trans after fewer held are some
handles_more policy held fewer (made ∷ mades) after some (kept, are, between, handles, rest) =
    (kept, some_trans kept fewer held are some, between, handles, rest)

pub handles_then : (policy : Policy) (one two three : List Element) (mades more : List Made)
    → HandlesAll policy one mades two → HandlesAll policy two more three → HandlesAll policy one (mades ++ more) three
handles_then policy one two three [] more some rest = handles_more policy one two more three some rest
handles_then policy one two three (made ∷ mades) more (kept, are, between, handles, rest) behind =
    (kept, are, between, handles, handles_then policy between two three mades more rest behind)

-- what a call is answered is held, if it hands something out
answer_held : (policy : Policy) (held : List Element) (moment : ℕ) (reply : Reply) → BeginsOne reply
    → Handles policy held moment (Some reply) (held ++ fetched_by (Ok reply))
answer_held policy held moment (Offered element) (origin, first, attempt) =
    inl (record { attempt = attempt; begins = record { origin = origin; first = first } }, append-nil held)
answer_held policy held moment (Item element) begins = refl
answer_held policy held moment Nothing begins = refl
answer_held policy held moment (Head element) begins = refl
answer_held policy held moment (Removed found) begins = refl
answer_held policy held moment (Drained items) begins = refl
answer_held policy held moment Cleared begins = refl
answer_held policy held moment (Size count) begins = refl

-- what the policy offers again is the job's next attempt
goes_again : (policy : Policy) (element : Element) (now moment : ℕ) (draft : Draft) (again : Element)
    → IsRetry policy element now (Some draft) → IsDrafted draft again → moment ≡ now
    → RetriesJob policy element moment again
goes_again policy element now moment draft again (fewer, next) drafted at = record {
  fewer = fewer;
  origin = drafted.origin ∙ ap (λ (o : Option ℕ). unwrap_or o again.id) next.origin;
  attempt = drafted.attempt ∙ next.attempt;
  follows = record {
    payload = drafted.payload ∙ next.payload;
    first = drafted.first ∙ ap (λ (o : Option ℕ). unwrap_or o again.expiry) next.first;
    expiry = drafted.expiry ∙ next.expiry ∙ ap (next_expiry policy.pace element) (sym at);
  };
}

module _ {S : Type 0} (rules : DeskRules S) (mine : S → List Made)
    (makes : (old new : S) (asked : ℕ) (ask : Ask) (reply : Reply) → rules.Steps old asked ask (Ok reply) new
    → Makes (rules.gives old) asked ask reply (mine old) (mine new))
    (refuses : (old new : S) (asked : ℕ) (ask : Ask) (fault : DeskFault) → rules.Steps old asked ask (Err fault) new
    → MayGet ask fault × (mine new ≡ mine old))
    (stays : (old new : S) (moment : ℕ) (result : Option ℕ) → rules.Sets old moment result new
    → mine new ≡ mine old) where
  abbrev Along : Point S → Point S → Type 0
  Along from to = LeadsOn rules.policy mine from to

  pub goes_none : (from to : Point S) → mine to.desk ≡ mine from.desk → AreSomeOf to.held from.held → Along from to
  goes_none from to same some = ([], same ∙ sym (append-nil (mine from.desk)), some)

  pub goes_same : (from to : Point S) → to ≡ from → Along from to
  goes_same from to same =
      goes_none from to (ap (λ (p : Point S). mine p.desk) same)
      (subst (λ (p : Point S). AreSomeOf p.held from.held) (sym same) (some_all from.held))

  -- a try that finds nothing makes no event
  pub goes_miss : ((old new : S) → rules.Misses old new → mine new ≡ mine old) → (from to : S) (held : List Element)
      → rules.Misses from to → Along (point from held) (point to held)
  goes_miss misses from to held missed =
      goes_none (point from held) (point to held) (misses from to missed) (some_all held)

  pub goes_then : (one two three : Point S) → Along one two → Along two three → Along one three
  goes_then one two three (made, grows, handles) (more, grows_more, handles_more) = (
    made ++ more,
    grows_more ∙ ap (λ (mades : List Made). mades ++ more) grows ∙ append_assoc (mine one.desk) made more,
    handles_then rules.policy one.held two.held three.held made more handles handles_more,
  )

  goes_one : (from to : Point S) (asked : ℕ) (ask : Ask) (reply : Reply)
      → (made : Makes (rules.gives from.desk) asked ask reply (mine from.desk) (mine to.desk))
      → Handles rules.policy from.held made.event.asked (Some reply) to.held → Along from to
  goes_one from to asked ask reply made handles = (
    record { event = made.event; reply = Some reply } ∷ [],
    made.grows,
    (from.held, some_all from.held, to.held, handles, some_all to.held),
  )

  -- a job that is held fails
  fails : (from to : S) (held : List Element) (place : ℕ) (element : Element) (now : ℕ)
      (result : Result Verdict (Element × CallFault)) → slice_get held place ≡ Some element
      → FailsTo rules element now from result to → (after : List Element)
      → ((verdict : Verdict) → result ≡ Ok verdict → after ≡ remove held place) → AreSomeOf after held
      → Along (point from held) (point to after)
  fails from to held place element now (Ok (Again again)) at (draft, retry, steps) after gone some =
      let made = makes from to now (asks.Offer draft) (Offered again) steps in
      goes_one (point from held) (point to after) now (asks.Offer draft) (Offered again) made
      (inr (
        place,
        element,
        at,
        goes_again rules.policy element now made.event.asked draft again retry made.answered made.asked,
        gone (Again again) refl,
      ))
  fails from to held place element now (Ok (Dead dead)) at (retry, is_dead, same) after gone some =
      goes_none (point from held) (point to after) (ap mine same) some
  fails from to held place element now (Err (back, fault)) at (draft, retry, steps, is_back) after gone some =
      goes_none (point from held) (point to after) (refuses from to now (asks.Offer draft) (fault_of fault) steps).1 some

  pub goes_ends : (from to : S) (element : Element) (held : List Element) (now : ℕ)
      (result : Result Verdict (Element × CallFault)) → FailsTo rules element now from result to
      → Along (point from (element ∷ held)) (point to held)
  goes_ends from to element held now result failed =
      fails from to (element ∷ held) 0 element now result refl failed held (λ other is. refl)
      (some_removed (element ∷ held) 0)

  call : (from to : Point S) (handed : ℕ) (ask : Ask) (answer : Result Reply DeskFault) → Begins ask
      → rules.Steps from.desk handed ask answer to.desk → to.held ≡ from.held ++ fetched_by answer → Along from to
  call from to handed ask (Ok reply) begins steps held =
      let made = makes from.desk to.desk handed ask reply steps in
      goes_one from to handed ask reply made
      (subst (Handles rules.policy from.held made.event.asked (Some reply)) (sym held)
      (answer_held rules.policy from.held made.event.asked reply (begins reply made.answered)))
  call from to handed ask (Err fault) begins steps held =
      goes_none from to (refuses from.desk to.desk handed ask fault steps).1
      (subst (λ some. AreSomeOf some from.held) (sym (held ∙ append-nil from.held)) (some_all from.held))

  retries : (from to : Point S) (place now : ℕ) (element : Element) (draft : Draft) (result : Result Element CallFault)
      (replies : List LineReply) → slice_get from.held place ≡ Some element
      → IsRetry rules.policy element now (Some draft)
      → rules.Steps from.desk now (asks.Offer draft) (offer_answer result) to.desk
      → Retried rules result replies from.held place to.held → Along from to
  retries from to place now element draft (Ok again) replies at offers steps (are, held) =
      fails from.desk to.desk from.held place element now (Ok (Again again)) at (draft, offers, steps) to.held
      (λ verdict is. held) (subst (λ some. AreSomeOf some from.held) (sym held) (some_removed from.held place))
  retries from to place now element draft (Err fault) replies at offers steps (are, held) =
      goes_none from to (refuses from.desk to.desk now (asks.Offer draft) (fault_of fault) steps).1
      (subst (λ some. AreSomeOf some from.held) (sym held) (some_all from.held))

  pub goes_way : (from to : Point S) (reading : Result Request LineFault) (replies : List LineReply)
      → Way rules reading replies from to → Along from to
  goes_way from to reading replies (did_nothing nothing) = goes_same from to nothing.same
  goes_way from to reading replies (did_end end) =
      goes_none from to (ap mine end.same)
      (subst (λ some. AreSomeOf some from.held) (sym end.held) (some_removed from.held end.place))
  goes_way from to reading replies (did_call made) =
      call from to made.handed made.ask made.answer made.begins made.steps made.held
  goes_way from to reading replies (did_retry failed) =
      retries from to failed.place failed.now failed.element failed.draft failed.result replies failed.at failed.retry
      failed.steps failed.retried
  goes_way from to reading replies (did_set set) =
      goes_none from to (stays from.desk to.desk set.moment set.result set.sets)
      (subst (λ some. AreSomeOf some from.held) (sym set.held) (some_all from.held))
