-- The totals of a history's events, and a caller's share of them.
use Rattle.std.specs.Prelude.{◌≡◌, List, [], ◌∷◌, length}
use Rattle.rb_ledger.specs.Totals.{one_call, total_of}
use Rattle.rb_ledger.specs.declared.totals.Totals.{Totals}
use Rattle.rb_queue.specs.Counts.{call_count, offer_count, give_count}
use Rattle.rb_queue.specs.Effect.{effect_of, inserted, given}
use Rattle.rb_queue.specs.declared.event.Event.{Event}
use Rattle.rb_kept.specs.Log.{Log, with_events}

-- the calls, offers and gives of a history
abbrev pub totals_of : List Event → Totals
totals_of history =
    record { calls = call_count history; offered = offer_count history; given = give_count history }

-- the totals of one event
abbrev pub amount_of : Event → Totals
amount_of event = one_call (length (inserted (effect_of event.act))) (length (given (effect_of event.act)))

-- the share with these events
abbrev pub share_with : Totals → List Event → Totals
share_with share [] = share
share_with share (event ∷ events) = share_with (total_of share (amount_of event)) events

-- the log has grown by some events, and the share by their totals
pub record Grows (old new : Log) (before after : Totals) : Type 0 where
  pub more : List Event
  pub log : new ≡ with_events old more
  pub share : after ≡ share_with before more
