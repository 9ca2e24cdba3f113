-- Each job that is held was given by the desk. The desk gives no id twice, so what it gives next is not held.
use Rattle.std.proofs.Common.{◌≡◌, ℕ, zero, suc, ◌+◌, ◌≤◌, List, [], ◌∷◌, ◌++◌, Option, Some, Result}
use Rattle.std.proofs.Common.{Ok, Err, refl, sym, ap, subst, ◌∙◌, arith, remove}
use Rattle.std.proofs.lemmas.List.{append-nil, map-append}
use Rattle.rb_delayed.specs.declared.element.Element.{Element}
use Rattle.rb_queue.specs.Leaving.{times}
use Rattle.rb_queue.specs.Opening.{ids_of}
use Rattle.rb_queue.specs.declared.ask.Ask.{Ask}
use Rattle.rb_queue.specs.declared.event.Event.{Event}
use Rattle.rb_queue.specs.declared.reply.Reply.{Reply}
use Rattle.rb_queue.specs.declared.reply.Reply.TheVariants.{Offered, Item, Nothing, Head, Removed, Drained, Cleared}
use Rattle.rb_queue.specs.declared.reply.Reply.TheVariants.{Size}
use Rattle.rb_queue.proofs.Effects.{times_cons}
use Rattle.rb_retry.specs.Made.{Made, ids_given, given_by, GivesOnce}
use Rattle.rb_retry.specs.GivenLaws.{times_append, times_given-append}
use Rattle.rb_retry.specs.Asked.{Makes, MayGet}
use Rattle.rb_retry.specs.DeskRules.{DeskRules}
use Rattle.rb_retry.specs.declared.desk_fault.DeskFault.{DeskFault}
use Rattle.rb_session.specs.Held.{AreGiven, AreNew}
use Rattle.rb_session.specs.Session.{Turn, Serves}
use Rattle.rb_session.specs.Turn.{Point, fetched_by}
use Rattle.rb_session.proofs.DeskParts.{by_lines}

-- what an answer hands out has the ids that its reply gives
handed_ids : (reply : Reply) → ids_given reply ≡ ids_of (fetched_by (Ok reply))
handed_ids (Offered element) = refl
handed_ids (Item element) = refl
handed_ids Nothing = refl
handed_ids (Head element) = refl
handed_ids (Removed found) = refl
handed_ids (Drained items) = refl
handed_ids Cleared = refl
handed_ids (Size count) = refl

-- elements, one behind the other
pub times_held-append : (id : ℕ) (one two : List Element)
    → times id (ids_of (one ++ two)) ≡ times id (ids_of one) + times id (ids_of two)
times_held-append id one two = ap (times id) (map-append (λ (element : Element). element.id) one two)
    ∙ times_append id (ids_of one) (ids_of two)

-- what a call with a reply gave, behind what was given before
given_one : (id : ℕ) (mades : List Made) (event : Event) (reply : Reply)
    → times id (given_by (mades ++ record { event = event; reply = Some reply } ∷ [])) ≡ times id
    (given_by mades) + times id (ids_given reply)
given_one id mades event reply =
    times_given-append id mades (record { event = event; reply = Some reply } ∷ [])
    ∙ ap (λ (ids : List ℕ). times id (given_by mades) + times id ids) (append-nil (ids_given reply))

-- nothing is held that was not given
pub none_given : (mades : List Made) → AreGiven mades []
none_given mades id = omega arith

pub times_removed : (id : ℕ) (held : List Element) (place : ℕ)
    → times id (ids_of (remove held place)) ≤ times id (ids_of held)
times_removed id [] zero = omega arith
times_removed id [] (suc place) = omega arith
times_removed id (first ∷ held) zero = omega (arith, times_cons id first.id (ids_of held))
times_removed id (first ∷ held) (suc place) =
    omega (
      arith,
      times_removed id held place,
      times_cons id first.id (ids_of held),
      times_cons id first.id
          (ids_of (remove held place)),
    )

-- of what was given one is held no longer
pub given_removed : (mades : List Made) (held : List Element) (place : ℕ) → AreGiven mades held
    → AreGiven mades (remove held place)
given_removed mades held place given id = omega (arith, given id, times_removed id held place)

-- of elements that are new the first is new, and the others are new behind it
pub first_new : (held : List Element) (element : Element) (others : List Element) → AreNew held (element ∷ others)
    → AreNew held (element ∷ [])
first_new held element others new id some =
    let one = times_cons id element.id [] in
    let all = times_cons id element.id (ids_of others) in
    omega (arith, new id (omega (arith, some, one, all)), one, all)

pub others_new : (held : List Element) (element : Element) (others : List Element) → AreNew held (element ∷ others)
    → AreNew (held ++ element ∷ []) others
others_new held element others new id some =
    let one = times_cons id element.id [] in
    let all = times_cons id element.id (ids_of others) in
    omega (arith, new id (omega (arith, some, all)), one, all, times_held-append id held (element ∷ []))

module _ {S : Type 0} (gives : S → ℕ → Type 0) (Steps : S → ℕ → Ask → Result Reply DeskFault → S → Type 0)
    (mine : S → List Made)
    (makes : (old new : S) (asked : ℕ) (ask : Ask) (reply : Reply) → Steps old asked ask (Ok reply) new
    → Makes (gives old) asked ask reply (mine old) (mine new))
    (gives_once : (old new : S) (asked : ℕ) (ask : Ask) (reply : Reply) → Steps old asked ask (Ok reply) new
    → GivesOnce (mine new))
    (refuses : (old new : S) (asked : ℕ) (ask : Ask) (fault : DeskFault) → Steps old asked ask (Err fault) new
    → MayGet ask fault × (mine new ≡ mine old)) where
  -- what a call hands out is new to what is held
  pub call_new : (old new : S) (asked : ℕ) (ask : Ask) (answer : Result Reply DeskFault) (held : List Element)
      → Steps old asked ask answer new → AreGiven (mine old) held → AreNew held (fetched_by answer)
  call_new old new asked ask (Ok reply) held steps given id some =
      let made = makes old new asked ask reply steps in
      omega (
        arith,
        given id,
        gives_once old new asked ask reply steps id,
        ap (times id) (handed_ids reply),
        given_one id (mine old) made.event reply,
        ap (λ (mades : List Made). times id (given_by mades)) made.grows,
      )
  call_new old new asked ask (Err fault) held steps given id some = absurd (omega (arith, some))

  -- and was given by it
  pub call_given : (old new : S) (asked : ℕ) (ask : Ask) (answer : Result Reply DeskFault) (held : List Element)
      → Steps old asked ask answer new → AreGiven (mine old) held → AreGiven (mine new) (held ++ fetched_by answer)
  call_given old new asked ask (Ok reply) held steps given id =
      let made = makes old new asked ask reply steps in
      omega (
        arith,
        given id,
        times_held-append id held (fetched_by (Ok reply)),
        ap (times id) (handed_ids reply),
        given_one id (mine old) made.event reply,
        ap (λ (mades : List Made). times id (given_by mades)) made.grows,
      )
  call_given old new asked ask (Err fault) held steps given id =
      omega (
        arith,
        given id,
        times_held-append id held [],
        ap (λ (mades : List Made). times id (given_by mades)) (refuses old new asked ask fault steps).1,
      )

module _ {S : Type 0} (rules : DeskRules S) (mine : S → List Made)
    (makes : (old new : S) (asked : ℕ) (ask : Ask) (reply : Reply) → rules.Steps old asked ask (Ok reply) new
    → Makes (rules.gives old) asked ask reply (mine old) (mine new))
    (gives_once : (old new : S) (asked : ℕ) (ask : Ask) (reply : Reply) → rules.Steps old asked ask (Ok reply) new
    → GivesOnce (mine new))
    (refuses : (old new : S) (asked : ℕ) (ask : Ask) (fault : DeskFault) → rules.Steps old asked ask (Err fault) new
    → MayGet ask fault × (mine new ≡ mine old))
    (stays : (old new : S) (moment : ℕ) (result : Option ℕ) → rules.Sets old moment result new
    → mine new ≡ mine old) where
  pub set_given : (old new : S) (moment : ℕ) (result : Option ℕ) (held : List Element) → rules.Sets old moment result new
      → AreGiven (mine old) held → AreGiven (mine new) held
  set_given old new moment result held set given =
      subst (λ (mades : List Made). AreGiven mades held) (sym (stays old new moment result set)) given

  -- lines leave held only what was given
  pub given_along : (from to : Point S) (turns : List Turn) → from.held ≡ [] → Serves rules from turns to
      → AreGiven (mine to.desk) to.held
  given_along from to turns none serves =
      by_lines rules (λ desk held. AreGiven (mine desk) held)
      (call_given rules.gives rules.Steps mine makes gives_once refuses)
      (λ desk held place given. given_removed (mine desk) held place given) set_given from to turns serves
      (subst (AreGiven (mine from.desk)) (sym none) (none_given (mine from.desk)))
