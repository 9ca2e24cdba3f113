-- What a pass has learned in several calls, one after the other.
use Rattle.std.proofs.Common.{◌≡◌, ◌<◌, ℕ, arith, List, [], ◌∷◌, ◌++◌, length, refl, sym, ap, subst, ◌∙◌, append_assoc}
use mathlib.Core.List.{IsPrefix}
use Rattle.rb_queue.specs.declared.ask.Ask.{Ask}
use Rattle.rb_queue.specs.declared.event.Event.{Event}
use Rattle.rb_queue.specs.declared.opening.Opening.{Opening}
use Rattle.rb_queue.specs.declared.reply.Reply.{Reply}
use Rattle.rb_kept.specs.Tries.{Records}
use Rattle.rb_lock.specs.Passes.{PassState, IsSoundPass, Learns, log_at}
use Rattle.rb_lock.specs.SharedCalls.{Replied}
use Rattle.rb_blocking.specs.WaitingCalls.{try_of}
use Rattle.std.proofs.lemmas.List.{append-nil}

pub prefix_trans : {A : Type 0} (xs ys zs : List A) → IsPrefix xs ys → IsPrefix ys zs → IsPrefix xs zs
prefix_trans xs ys zs p q = (p.0 ++ q.0, sym (append_assoc xs p.0 q.0) ∙ (ap (λ w. w ++ q.0) p.1 ∙ q.1))

-- a pass has learned nothing before its first call
pub learns_nothing : (pass : PassState) → IsSoundPass pass → Learns pass pass
learns_nothing pass sound = record {
  table = refl;
  name = refl;
  capacity = refl;
  opening = refl;
  folded = refl;
  noted = omega arith;
  parts = refl;
  begins = ([], append-nil pass.seen);
  sound = sound;
}

module _ (first old new : PassState) (before : Learns first old) where
  -- what is learned in a call is learned since the first
  pub learns_on : Learns old new → Learns first new
  learns_on call = record {
    table = call.table ∙ before.table;
    name = call.name ∙ before.name;
    capacity = call.capacity ∙ before.capacity;
    opening = call.opening ∙ before.opening;
    folded = call.folded ∙ before.folded;
    noted = omega (arith, before.noted, call.noted);
    parts = call.parts ∙ before.parts;
    begins = prefix_trans first.seen old.seen new.seen before.begins call.begins;
    sound = call.sound;
  }

module _ (old mid : PassState) (learns : Learns old mid) (unmade : mid.mine ≡ old.mine) (ask : Ask) where
  -- a reply that it gets then it gets from before
  pub replied_after : (asked : ℕ) (reply : Reply) (new : PassState) → Replied mid new (try_of mid asked ask) reply
      → Replied old new (try_of old asked ask) reply
  replied_after asked reply new replied = record {
    before = replied.before;
    event = replied.event;
    begins = prefix_trans old.seen mid.seen replied.before learns.begins replied.begins;
    room = subst (λ (capacity : ℕ). length replied.before < capacity) learns.capacity replied.room;
    seen = replied.seen;
    mine = replied.mine ∙ ap (λ (mine : List Event). mine ++ replied.event ∷ []) unmade;
    records =
        subst (λ (capacity : ℕ). Records
        (record { opening = old.opening; history = replied.before; capacity = capacity })
        (try_of old asked ask) reply replied.event) learns.capacity
        (subst (λ (opening : Opening). Records
        (record { opening = opening; history = replied.before; capacity = mid.capacity })
        (try_of old asked ask) reply replied.event) learns.opening
        (subst (λ (name : ℕ). Records (log_at mid replied.before)
        (record { seat = name; asked = asked; ask = ask }) reply replied.event) learns.name replied.records));
  }
