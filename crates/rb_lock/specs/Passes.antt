-- What contracts see of a pass: its queue, its name, what it has seen and made, and what was folded into it.
use Rattle.std.specs.Prelude.{◌≡◌, ℕ, ◌+◌, ◌≤◌, min, List, [], ◌∷◌, ◌++◌, length, refl}
use Rattle.std.specs.Coded.{Coded, code_by, coded×, coded_ℕ, coded_list}
use mathlib.Core.List.{IsPrefix}
use Rattle.atomic_table.specs.Seated.{TableId, table_id_coded}
use Rattle.rb_ledger.specs.declared.totals.Totals.{Totals}
use Rattle.rb_ledger.specs.declared.totals.TheConstants.{GREATEST_COUNT}
use Rattle.rb_queue.specs.Counts.{events_of}
use Rattle.rb_queue.specs.History.{IsLegal}
use Rattle.rb_queue.specs.declared.event.Event.{Event}
use Rattle.rb_queue.specs.declared.opening.Opening.{Opening}
use Rattle.rb_queue.specs.contracts.event.Event as event
use Rattle.rb_queue.specs.contracts.opening.Opening as opening
use Rattle.rb_kept.specs.Log.{Log}
use Rattle.rb_kept.specs.Shares.{totals_of}
use Rattle.rb_kept.specs.declared.kept.TheConstants.{MOST_CALLS}
use Rattle.rb_lock.specs.Parts.{all_parts}
use Rattle.rb_lock.specs.Records.{calls_of}
use Rattle.rb_lock.specs.declared.pass_record.PassRecord.{PassRecord}
use Rattle.rb_lock.specs.contracts.pass_record.PassRecord as entry

pub record PassState : Type 0 where
  -- the shared queue whose pass it is
  pub table : TableId
  pub name : ℕ
  pub capacity : ℕ
  pub opening : Opening
  -- how many names had been given when it last took the lock, its own draw among them
  pub noted : ℕ
  -- how often it has taken the lock: once for each try of a call, a split and a closing
  pub tried : ℕ
  -- its parts of the whole, which all passes of the queue have together
  pub parts : ℕ
  -- the history, as far as it has seen it
  pub seen : List Event
  -- the events of its own calls
  pub mine : List Event
  -- the passes that were folded into it, directly or through others
  pub folded : List PassRecord

-- it is stored as the tuple of its fields
abbrev pub seen_code : Coded PassState
seen_code =
    code_by
    (TableId × (ℕ × (ℕ × (Opening × (ℕ × (ℕ × (ℕ × (List Event × (List Event × List PassRecord)))))))))
    (coded× table_id_coded (coded× coded_ℕ (coded× coded_ℕ (coded× opening.the_row.coded (coded× coded_ℕ (coded× coded_ℕ (coded× coded_ℕ
    (coded× (coded_list event.the_row.coded)
    (coded× (coded_list event.the_row.coded) (coded_list entry.the_row.coded))))))))))
    (λ pass.
    (pass.table, (pass.name, (pass.capacity, (pass.opening, (pass.noted, (pass.tried, (pass.parts, (pass.seen, (pass.mine, pass.folded))))))))))
    (λ p. record {
      table = p.0;
      name = p.1.0;
      capacity = p.1.1.0;
      opening = p.1.1.1.0;
      noted = p.1.1.1.1.0;
      tried = p.1.1.1.1.1.0;
      parts = p.1.1.1.1.1.1.0;
      seen = p.1.1.1.1.1.1.1.0;
      mine = p.1.1.1.1.1.1.1.1.0;
      folded = p.1.1.1.1.1.1.1.1.1;
    })
    (λ _. refl)

-- What contracts see of a note: its queue, and what a pass had seen when it was taken.
pub record NoteState : Type 0 where
  pub table : TableId
  pub seen : List Event

-- it is stored as the pair of its fields
abbrev pub note_code : Coded NoteState
note_code =
    code_by (TableId × List Event) (coded× table_id_coded (coded_list event.the_row.coded))
    (λ note. (note.table, note.seen)) (λ p. record { table = p.0; seen = p.1 }) (λ _. refl)

-- the log of the pass's queue, at this history
abbrev pub log_at : PassState → List Event → Log
log_at pass history = record { opening = pass.opening; history = history; capacity = pass.capacity }

-- the log as far as the pass has seen it
abbrev pub log_of : PassState → Log
log_of pass = log_at pass pass.seen

-- the pass's own record
abbrev pub record_of : PassState → PassRecord
record_of pass = record { name = pass.name; seen = pass.seen; mine = pass.mine }

-- its own record, and those of all that were folded into it
abbrev pub all_records : PassState → List PassRecord
all_records pass = record_of pass ∷ pass.folded

-- each total, or the greatest count if that is less
abbrev pub capped : Totals → Totals
capped totals = record {
  calls = min totals.calls GREATEST_COUNT;
  offered = min totals.offered GREATEST_COUNT;
  given = min totals.given GREATEST_COUNT;
}

-- the totals of the calls of the pass and of all that were folded into it
abbrev pub tally_of : PassState → Totals
tally_of pass = capped (totals_of (calls_of (all_records pass)))

-- What every pass keeps true: it has seen a legal history, no longer than its capacity, whose events under its
-- name are exactly its calls.
pub record IsSoundPass (pass : PassState) : Type 0 where
  pub legal : IsLegal pass.opening pass.seen
  pub few : length pass.seen ≤ pass.capacity
  pub most : pass.capacity ≤ MOST_CALLS
  pub own : events_of pass.seen pass.name ≡ pass.mine

-- The pass has seen a history that begins with all that it had seen, and noted at least as many names. Its
-- queue, its name, its parts and what was folded into it are as before.
pub record Learns (old new : PassState) : Type 0 where
  pub table : new.table ≡ old.table
  pub name : new.name ≡ old.name
  pub capacity : new.capacity ≡ old.capacity
  pub opening : new.opening ≡ old.opening
  pub folded : new.folded ≡ old.folded
  pub noted : old.noted ≤ new.noted
  pub parts : new.parts ≡ old.parts
  pub begins : IsPrefix old.seen new.seen
  pub sound : IsSoundPass new

-- the first pass of a queue: it has name 0 and all parts, and has seen nothing
abbrev pub first_pass : TableId → Log → PassState
first_pass table start = record {
  table = table;
  name = 0;
  capacity = start.capacity;
  opening = start.opening;
  noted = 1;
  tried = 0;
  parts = all_parts;
  seen = [];
  mine = [];
  folded = [];
}

-- a pass with so many parts
abbrev pub with_parts : PassState → ℕ → PassState
with_parts pass parts = record pass { parts = parts }

-- a pass split off under this name, with so many parts: it has seen the same, and made no call
abbrev pub split_from : PassState → ℕ → ℕ → PassState
split_from pass name parts = record pass { name = name; tried = 0; parts = parts; mine = []; folded = [] }

-- a pass with another folded into it: the other's record and those folded into that follow its own, and the parts are
-- added up
abbrev pub folded_with : PassState → PassState → PassState
folded_with pass other = record pass { parts = pass.parts + other.parts; folded = pass.folded ++ all_records other }
