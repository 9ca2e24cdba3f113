-- What the view of a seat has, and how the steps of the lock change it.
use Rattle.std.specs.Prelude.{ℕ, ◌+◌, ◌-◌, Bool, true, false, List, [], ◌∷◌, ◌++◌}
use Rattle.std.proofs.Math.Bridge.{no_suc-le-zero}
use Prim.Native.Nat.{zero-le}
use Rattle.atomic_table.specs.Seated.{TableId}
use Rattle.rb_queue.specs.Counts.{events_of}
use Rattle.rb_queue.specs.declared.event.Event.{Event}
use Rattle.rb_queue.specs.Opening.{IsOpening}
use Rattle.rb_kept.specs.Log.{Log}
use Rattle.rb_lock.specs.Parts.{all_parts, least_part}
use Rattle.rb_lock.specs.Records.{times_in, names_of}
use Rattle.rb_lock.specs.Passes.{PassState}
use Rattle.rb_lock.specs.declared.pass_record.PassRecord.{PassRecord}
use Rattle.rb_lock.specs.declared.stage.Stage.{Stage}
use Rattle.rb_lock.specs.declared.stage.Stage.TheVariants.{Idle, Holds, Drew, Meets, Gone}
use Rattle.rb_lock.specs.declared.view.View.{View}

-- the view of a pass between its steps
abbrev pub idle : PassState → View
idle pass = record {
  live = true;
  capacity = pass.capacity;
  opening = pass.opening;
  noted = pass.noted;
  tried = pass.tried;
  parts = pass.parts;
  name = pass.name;
  seen = pass.seen;
  mine = pass.mine;
  folded = pass.folded;
  stage = Idle;
}

-- the pass with this view
abbrev pub pass_of : TableId → View → PassState
pass_of table v = record {
  table = table;
  name = v.name;
  capacity = v.capacity;
  opening = v.opening;
  noted = v.noted;
  tried = v.tried;
  parts = v.parts;
  seen = v.seen;
  mine = v.mine;
  folded = v.folded;
}

-- the own record of a live view
abbrev pub own_if : Bool → PassRecord → List PassRecord
own_if true own = own ∷ []
own_if false own = []

-- all records of a view: its own, if it has one, and those of the folded passes
abbrev pub records_of : View → List PassRecord
records_of v = own_if v.live (record { name = v.name; seen = v.seen; mine = v.mine }) ++ v.folded

-- a name that was drawn and not yet given
abbrev pub drawn : Stage → List ℕ
drawn (Drew name) = name ∷ []
drawn Idle = []
drawn (Holds found) = []
drawn (Meets one other room start) = []
drawn Gone = []

-- how often the name occurs in the view
abbrev pub weight : ℕ → View → ℕ
weight name v = times_in name (names_of (records_of v) ++ drawn v.stage)

-- 1 if the stage is that of a holder, otherwise 0
abbrev pub is_held : Stage → ℕ
is_held (Holds found) = 1
is_held Idle = 0
is_held (Drew name) = 0
is_held (Meets one other room start) = 0
is_held Gone = 0

-- 1 if the seat holds the lock, otherwise 0
abbrev pub holders : View → ℕ
holders v = is_held v.stage

-- the sum over all views
abbrev pub total : {V : Type 0} → (V → ℕ) → List V → ℕ
total f [] = 0
total f (v ∷ views) = f v + total f views

-- the first pass of a queue: it has name 0 and all parts, and has seen nothing
abbrev pub newcomer : Log → View
newcomer start = record {
  live = true;
  capacity = start.capacity;
  opening = start.opening;
  noted = 1;
  tried = 0;
  parts = all_parts;
  name = 0;
  seen = [];
  mine = [];
  folded = [];
  stage = Idle;
}

-- the lock is taken, once more: the history and the number of names are noted
abbrev pub holder_of : View → List Event → ℕ → View
holder_of v found names = record v { noted = names; tried = v.tried + 1; stage = Holds found }

-- the lock is given back: by then the whole history was seen
abbrev pub caught_up : View → List Event → Stage → View
caught_up v history next = record v { seen = history; mine = events_of history v.name; stage = next }

-- the same, and the next name is drawn: it is given from now on
abbrev pub has_drawn : View → List Event → View
has_drawn v history = record (caught_up v history (Drew v.noted)) { noted = v.noted + 1 }

-- the seat is about to do nothing
abbrev pub rested : View → View
rested v = record v { stage = Idle }

-- the name that a seat has drawn
abbrev pub drawn_name : Stage → ℕ
drawn_name (Drew name) = name
drawn_name Idle = 0
drawn_name (Holds found) = 0
drawn_name (Meets one other room start) = 0
drawn_name Gone = 0

-- the part of the pass that gets the drawn name
abbrev pub drawn_part : Stage → ℕ
drawn_part (Drew name) = least_part (name + 1)
drawn_part Idle = 0
drawn_part (Holds found) = 0
drawn_part (Meets one other room start) = 0
drawn_part Gone = 0

-- what a seat keeps when the new pass is cut off it
abbrev pub cut_short : View → View
cut_short v = record v { parts = v.parts - drawn_part v.stage; stage = Idle }

-- the view of the new pass, under the name that was drawn: it has seen the same, and made no call
abbrev pub cut_off : View → View
cut_off v = record v { name = drawn_name v.stage; tried = 0; parts = drawn_part v.stage; mine = []; folded = []; stage = Idle }

-- the other view's records after its own, and the parts of both
abbrev pub folding : View → View → View
folding v w = record v { parts = v.parts + w.parts; folded = v.folded ++ records_of w }

-- no elements, and ids from 0 on, are an opening
pub empty_is_opening : IsOpening [] 0
empty_is_opening = record {
  order = record {
    rising = λ one other less within. absurd (no_suc-le-zero within);
    below = λ place within. absurd (no_suc-le-zero within);
  };
  few = zero-le;
  next = zero-le;
}

-- what is left of a seat that was joined to another
abbrev pub nobody : View
nobody = record {
  live = false;
  capacity = 0;
  opening = record { elements = []; next_id = 0; last_at = 0; opening = empty_is_opening };
  noted = 0;
  tried = 0;
  parts = 0;
  name = 0;
  seen = [];
  mine = [];
  folded = [];
  stage = Gone;
}

-- a note of what a seat has seen
abbrev pub note_of : View → View
note_of v = record v { live = false; parts = 0; mine = []; folded = []; stage = Idle }

-- the longer of two lists, if one of them begins the other
abbrev pub longer : List Event → List Event → List Event
longer [] others = others
longer (event ∷ events) [] = event ∷ events
longer (event ∷ events) (other ∷ others) = event ∷ longer events others

-- what two passes had seen, side by side
abbrev pub meeting : View → View → View
meeting v w = record v {
  seen = longer v.seen w.seen;
  stage = Meets v.seen w.seen w.capacity w.opening;
}
