-- What a history that records an ask says of the ask and its reply. No public clause cites this module.
use Rattle.std.proofs.Common.{◌≡◌, ℕ, suc, ◌+◌, ◌-◌, List, [], ◌∷◌, ◌++◌, refl, sym, ap, subst}
use Rattle.std.proofs.Common.{◌∙◌, arith, Option, Some, None, length, length-append, append_assoc}
use Rattle.std.proofs.lemmas.List.{append-nil}
use Rattle.std.proofs.lemmas.Option.{same_Some, slice_get-get_or}
use Rattle.std.proofs.Math.Seq.{get_or-append_seam}
use Rattle.std.specs.Prelude.{slice_get, option_map, option_and_then}
use Rattle.std.specs.FinMap as map
use Rattle.rb_delayed.specs.declared.element.Element.{Element}
use Rattle.rb_queue.specs.Bag.{Bag}
use Rattle.rb_queue.specs.Queue.{Queue}
use Rattle.rb_queue.specs.Calls.{Permits}
use Rattle.rb_queue.specs.History.{State, start_of, state_after, state_from, Allows, AllowsAll}
use Rattle.rb_queue.specs.Replies.{elements_in, reply_in, offered, reply_of}
use Rattle.rb_queue.specs.declared.act.Act.{Act}
use Rattle.rb_queue.specs.declared.act.Act.TheVariants as acts
use Rattle.rb_queue.specs.declared.ask.Ask.{Ask}
use Rattle.rb_queue.specs.declared.ask.Ask.TheVariants.{Offer, Poll, Take, PollFor, Peek, Remove, Drain, Clear, Size}
use Rattle.rb_queue.specs.declared.event.Event.{Event}
use Rattle.rb_queue.specs.declared.opening.Opening.{Opening}
use Rattle.rb_queue.specs.declared.reply.Reply.{Reply}
use Rattle.rb_queue.specs.declared.reply.Reply.TheVariants as replies
use Rattle.rb_kept.specs.Log.{Log, state_at}
use Rattle.rb_kept.specs.Tries.{IsActOf, WaitsPast, Records}
use Rattle.rb_kept.specs.declared.tries.Try.{Try}
use Rattle.rb_retry.specs.Made.{made_after}
use Rattle.rb_retry.specs.Asked.{MayWait, IsReplyTo}

-- the last event of a history
pub last_of : (history : List Event) (event : Event)
    → slice_get (history ++ event ∷ []) (length (history ++ event ∷ []) - 1) ≡ Some event
last_of history event =
    let len : length (history ++ event ∷ []) ≡ length history + 1 = length-append history (event ∷ []) in
    let at : length (history ++ event ∷ []) - 1 ≡ length history = omega (arith, len) in
    ap (slice_get (history ++ event ∷ [])) at
    ∙ slice_get-get_or (history ++ event ∷ []) (length history) event (omega (arith, len))
    ∙ ap Some (get_or-append_seam history event [] event)

-- the last event of a legal history was allowed
allowed_last : (from : State) (events : List Event) (event : Event) → AllowsAll from (events ++ event ∷ [])
    → Allows (state_from from events) event
allowed_last from [] event all = all.0
allowed_last from (first ∷ events) event all = allowed_last (state_after from first) events event all.1

-- as many elements are found as ids were named
length_found : (bag : Bag) (ids : List ℕ) (elements : List Element) → elements_in bag ids ≡ Some elements
    → length elements ≡ length ids
length_found bag [] elements found = sym (ap length (same_Some [] elements found))
length_found bag (id ∷ ids) elements found = more (map.get bag id) (elements_in bag ids) (length_found bag ids) found
  where
    more : (here : Option Element) (rest : Option (List Element))
        → ((es : List Element) → rest ≡ Some es → length es ≡ length ids)
        → option_and_then (λ e. option_map (λ r. e ∷ r) rest) here ≡ Some elements → length elements ≡ suc (length ids)
    more None rest step whole = absurd (cc)
    more (Some e) None step whole = absurd (cc)
    more (Some e) (Some es) step whole = sym (ap length (same_Some (e ∷ es) elements whole)) ∙ ap suc (step es refl)

-- what holds of the reply for whatever may be found holds of the reply
pub of_found : {X : Type 0} (P : Reply → Type 0) (here : Option X) (tag : X → Reply) (answer : Reply)
    → ((found : X) → here ≡ Some found → P (tag found)) → option_map tag here ≡ Some answer → P answer
of_found P None tag answer holds named = absurd (cc)
of_found P (Some found) tag answer holds named = subst P (same_Some (tag found) answer named) (holds found refl)

-- the reply that an act of the ask names is one that the ask may get
is_reply : (bag : Bag) (queue : Queue) (now : ℕ) (ask : Ask) (act : Act) (answer : Reply) → IsActOf ask act
    → Permits queue now act → reply_in bag act ≡ Some answer → IsReplyTo ask answer
is_reply bag queue now (Offer draft) (acts.Offer element) answer of_ask permits named =
    subst (IsReplyTo (Offer draft)) (same_Some (replies.Offered element) answer named) of_ask
is_reply bag queue now Poll (acts.Poll None) answer of_ask permits named =
    subst (IsReplyTo Poll) (same_Some replies.Nothing answer named) tt
is_reply bag queue now Poll (acts.Poll (Some id)) answer of_ask permits named =
    of_found (IsReplyTo Poll) (map.get bag id) replies.Item answer (λ element is. tt) named
is_reply bag queue now Take (acts.Take id) answer of_ask permits named =
    of_found (IsReplyTo Take) (map.get bag id) replies.Item answer (λ element is. tt) named
is_reply bag queue now (PollFor start timeout) (acts.PollFor from within None) answer of_ask permits named =
    subst (IsReplyTo (PollFor start timeout)) (same_Some replies.Nothing answer named) tt
is_reply bag queue now (PollFor start timeout) (acts.PollFor from within (Some id)) answer of_ask permits named =
    of_found (IsReplyTo (PollFor start timeout)) (map.get bag id) replies.Item answer (λ element is. tt) named
is_reply bag queue now Peek (acts.Peek None) answer of_ask permits named =
    subst (IsReplyTo Peek) (same_Some replies.Nothing answer named) tt
is_reply bag queue now Peek (acts.Peek (Some id)) answer of_ask permits named =
    of_found (IsReplyTo Peek) (map.get bag id) replies.Head answer (λ element is. tt) named
is_reply bag queue now (Remove id) (acts.Remove named_id found) answer of_ask permits named =
    subst (IsReplyTo (Remove id)) (same_Some (replies.Removed found) answer named) tt
is_reply bag queue now (Drain most) (acts.Drain max_count ids) answer of_ask permits named =
    of_found (IsReplyTo (Drain most)) (elements_in bag ids) replies.Drained answer
    (λ items is. omega (arith, length_found bag ids items is, permits.at_most, of_ask)) named
is_reply bag queue now Clear acts.Clear answer of_ask permits named =
    subst (IsReplyTo Clear) (same_Some replies.Cleared answer named) tt
is_reply bag queue now Size (acts.Size count) answer of_ask permits named =
    subst (IsReplyTo Size) (same_Some (replies.Size count) answer named) tt
is_reply bag queue now _ _ answer of_ask permits named = absurd of_ask

-- the reply that is recorded is one that the ask may get
pub recorded_reply : (log : Log) (try : Try) (answer : Reply) (event : Event) → Records log try answer event
    → IsReplyTo try.ask answer
recorded_reply log try answer event records =
    let bag : Bag = offered log.opening (log.history ++ event ∷ []) in
    is_reply bag (state_at log).queue event.at try.ask event.act answer
    records.act (allowed_last (start_of log.opening) log.history event records.legal).act
    (sym (ap (option_and_then (λ (e : Event). reply_in bag e.act)) (last_of log.history event)) ∙ records.reply)

-- an ask that waits past a moment may wait
pub may_wait : (ask : Ask) (now : ℕ) → WaitsPast ask now → MayWait ask
may_wait Take now waits = tt
may_wait (PollFor start timeout) now waits = tt
may_wait _ now waits = waits

-- the replies to further events follow those to the first ones
pub made_after-more : (opening : Opening) (before events more : List Event)
    → made_after opening before (events ++ more)
    ≡ made_after opening before events ++ made_after opening (before ++ events) more
made_after-more opening before [] more =
    ap (λ (front : List Event). made_after opening front more) (sym (append-nil before))
made_after-more opening before (event ∷ events) more =
    ap (λ rest. record { event = event; reply = reply_of opening (before ++ event ∷ []) } ∷ rest)
    (made_after-more opening (before ++ event ∷ []) events more
    ∙ ap (λ (front : List Event). made_after opening (before ++ event ∷ []) events ++ made_after opening front more)
    (append_assoc before (event ∷ []) events))
