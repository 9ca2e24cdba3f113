-- What a timed poll may be answered.
use Rattle.std.proofs.Common.{◌≡◌, ℕ, ◌+◌, ◌-◌, List, [], ◌∷◌, ◌++◌, sym, ap, ◌∙◌, arith, Option, Some, None}
use Rattle.std.proofs.Common.{length, length-append}
use Rattle.std.proofs.lemmas.Option.{same_Some, slice_get-get_or}
use Rattle.std.proofs.Math.Seq.{get_or-append_seam}
use Rattle.std.specs.Prelude.{slice_get, option_map, option_and_then}
use Rattle.std.specs.FinMap as map
use Rattle.rb_delayed.specs.declared.element.Element.{Element}
use Rattle.rb_queue.specs.Bag.{Bag}
use Rattle.rb_queue.specs.Replies.{reply_in, offered, reply_of}
use Rattle.rb_queue.specs.declared.act.Act.{Act}
use Rattle.rb_queue.specs.declared.act.Act.TheVariants as acts
use Rattle.rb_queue.specs.declared.ask.Ask.TheVariants.{PollFor}
use Rattle.rb_queue.specs.declared.event.Event.{Event}
use Rattle.rb_queue.specs.declared.opening.Opening.{Opening}
use Rattle.rb_queue.specs.declared.reply.Reply.{Reply}
use Rattle.rb_queue.specs.declared.reply.Reply.TheVariants.{Item, Nothing}
use Rattle.rb_kept.specs.Tries.{IsActOf}

-- the last event of a history
last_of : (history : List Event) (event : Event)
    → slice_get (history ++ event ∷ []) (length (history ++ event ∷ []) - 1) ≡ Some event
last_of history event =
    let len : length (history ++ event ∷ []) ≡ length history + 1 = length-append history (event ∷ []) in
    let at : length (history ++ event ∷ []) - 1 ≡ length history = omega (arith, len) in
    ap (slice_get (history ++ event ∷ [])) at
    ∙ slice_get-get_or (history ++ event ∷ []) (length history) event (omega (arith, len))
    ∙ ap Some (get_or-append_seam history event [] event)

module _ (start timeout : ℕ) (answer : Reply) (no_item : (element : Element) → answer ≡ Item element → ⊥)
    (no_none : answer ≡ Nothing → ⊥) where
  not_given : (bag : Bag) (act : Act) → IsActOf (PollFor start timeout) act → reply_in bag act ≡ Some answer → ⊥
  not_given bag (acts.PollFor from within None) of_ask named = no_none (sym (same_Some Nothing answer named))
  not_given bag (acts.PollFor from within (Some id)) of_ask named = found (map.get bag id) named
    where
      found : (here : Option Element) → option_map Item here ≡ Some answer → ⊥
      found None is = absurd (cc)
      found (Some element) is = no_item element (sym (same_Some (Item element) answer is))
  not_given bag _ of_ask named = absurd of_ask

  -- it is an element or none
  pub no_other_reply : (opening : Opening) (before : List Event) (event : Event) → IsActOf (PollFor start timeout) event.act
      → reply_of opening (before ++ event ∷ []) ≡ Some answer → ⊥
  no_other_reply opening before event of_ask named =
      let bag : Bag = offered opening (before ++ event ∷ []) in
      not_given bag event.act of_ask
      (sym (ap (option_and_then (λ (last : Event). reply_in bag last.act)) (last_of before event)) ∙ named)
