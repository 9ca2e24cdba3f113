-- Two beginnings of one history, and the steps of a meeting.
use Rattle.std.proofs.Common.{◌≡◌, ℕ, ◌+◌, List, [], ◌∷◌, set, refl, ap, sym, subst, ◌∙◌, arith, ◌⊎◌, ⊎_elim, inl, inr}
use Rattle.std.specs.Prelude.{slice_index, slice_set}
use mathlib.Core.Option.{none}
use mathlib.Core.List.{IsPrefix}
use Rattle.atomic_table.specs.Table.{step, keeps, Allows, Splits, Joins}
use Rattle.rb_queue.specs.declared.event.Event.{Event}
use Rattle.rb_queue.specs.declared.opening.Opening.{Opening}
use Rattle.rb_lock.specs.Passes.{PassState}
use Rattle.rb_lock.specs.Views.{idle, pass_of, holders, total, rested, note_of, nobody, longer, meeting}
use Rattle.rb_lock.specs.Rule.{Locked, IsFree, IsHeld}
use Rattle.rb_lock.specs.LockSteps.{LockSeat, AtRest, IsNote, learned}
use Rattle.atomic_table.specs.Seated.{TableId}
use Rattle.rb_lock.specs.declared.stage.Stage.TheVariants.{Meets}
use Rattle.rb_lock.specs.declared.view.View.{View}
use Rattle.rb_lock.proofs.Sums.{total_set}
use Rattle.rb_lock.proofs.Beginnings.{prefix_self, prefix_none}
use Rattle.rb_lock.proofs.LongerHistories.{same_between}
use Rattle.rb_lock.proofs.SharedViews.{cut_in_two, made_one}
use Rattle.rb_lock.proofs.Sharings.{spent_fits}
use Rattle.rb_lock.proofs.Takings.{unmoved}

-- of two beginnings of one list the longer is one of them, begins the list, and is begun by both
pub record IsLonger (one other whole : List Event) : Type 0 where
  pub begins : IsPrefix (longer one other) whole
  pub first : IsPrefix one (longer one other)
  pub second : IsPrefix other (longer one other)
  pub which : (longer one other ≡ one) ⊎ (longer one other ≡ other)

prefix_cons : (event : Event) (xs ys : List Event) → IsPrefix xs ys → IsPrefix (event ∷ xs) (event ∷ ys)
prefix_cons event xs ys p = (p.0, ap (λ (es : List Event). event ∷ es) p.1)

pub is_longer : (one other whole : List Event) → IsPrefix one whole → IsPrefix other whole → IsLonger one other whole
is_longer [] other whole p q = record { begins = q; first = prefix_none other; second = prefix_self other; which = inr refl }
is_longer (x ∷ one) [] whole p q = record { begins = p; first = prefix_self (x ∷ one); second = prefix_none (x ∷ one); which = inl refl }
is_longer (x ∷ one) (y ∷ other) [] p q = absurd (cc (p.1))
is_longer (x ∷ one) (y ∷ other) (z ∷ whole) p q =
    let heads : x ≡ y = cc (p.1, q.1) in
    let first : x ≡ z = cc (p.1) in
    let rest = is_longer one other whole (p.0, cc (p.1)) (q.0, cc (q.1)) in
    record {
      begins = subst (λ (e : Event). IsPrefix (x ∷ longer one other) (e ∷ whole)) first (prefix_cons x (longer one other) whole rest.begins);
      first = prefix_cons x one (longer one other) rest.first;
      second = subst (λ (e : Event). IsPrefix (e ∷ other) (x ∷ longer one other)) heads (prefix_cons x other (longer one other) rest.second);
      which = ⊎_elim (λ (same : longer one other ≡ one). inl (ap (λ (es : List Event). x ∷ es) same))
          (λ (same : longer one other ≡ other). inr (λ i. heads i ∷ same i)) rest.which;
    }

-- a note of what a pass has seen
pub notes : {T : Type 0} (id : ℕ) (pass : PassState) → Splits (Locked {T = T}) id (idle pass) (idle pass) (note_of (idle pass))
notes id pass s law at =
    let fits = law.fits id (idle pass) at in
    cut_in_two s law id (idle pass) at (idle pass) (note_of (idle pass)) (λ n. omega arith) refl (omega arith) fits
    (record { capacity = fits.capacity; opening = fits.opening; begins = fits.begins; records = tt; noted = fits.noted; stage = tt; part = λ name. refl })

-- a note of another pass is held beside what this one has seen
pub meets : {T : Type 0} (id other : ℕ) (one two : PassState) → Joins (Locked {T = T}) id (idle one) other (note_of (idle two)) (meeting (idle one) (note_of (idle two))) nobody
meets id other one two s law at apart there =
    made_one s law id (idle one) at other (note_of (idle two)) (meeting (idle one) (note_of (idle two))) nobody apart there (λ n. omega arith) refl refl
    (λ first second.
    let lists = is_longer one.seen two.seen law.log.history first.begins second.begins in
    let own = first.records.0 in
    record {
      capacity = first.capacity;
      opening = first.opening;
      begins = lists.begins;
      records = (
        record {
          begins = lists.begins;
          known = same_between one.seen (longer one.seen two.seen) law.log.history one.name one.mine lists.first lists.begins own.known own.all;
          all = own.all;
        },
        first.records.1,
      );
      noted = first.noted;
      stage = (first.begins, second.begins, second.capacity tt, second.opening tt);
      part = first.part;
    }) (spent_fits law.log law.names)

-- the view of a pass that compares what it had seen with what another had, in a run like its own
abbrev pub comparing : PassState → List Event → ℕ → Opening → View
comparing pass other room start = record (idle pass) { seen = longer pass.seen other; stage = Meets pass.seen other room start }

-- the word is read, and nothing else changes
pub compares : {T : Type 0} (slots id : ℕ) (pass : PassState) (other : List Event) (room : ℕ) (start : Opening)
    → Allows (Locked {T = T}) slots id (comparing pass other room start, []) 0 (λ n. n) (learned {T = T} (step 0 0 0 0 none) (comparing pass other room start, []))
compares {T} slots id pass other room start s law many at small =
    let v : View = comparing pass other room start in
    let w : View = rested v in
    let n : ℕ = slice_index s.words 0 in
    let fits = law.fits id v at in
    let lists = is_longer pass.seen other law.log.history fits.stage.0 fits.stage.1 in
    let same : total holders (set s.views id w) + 0 ≡ total holders s.views + 0 = total_set holders s.views id v w at in (
      w,
      keeps,
      tt,
      unmoved s law id v at (slice_set s.words 0 n) s.homes w (λ name. refl) refl
          (record { capacity = fits.capacity; opening = fits.opening; begins = fits.begins; records = fits.records; noted = fits.noted; stage = tt; part = fits.part })
          (⊎_elim (λ (free : IsFree law.log law.names s).
          inl (record {
            words = (λ i. slice_set (free.words i) 0 (slice_index (free.words i) 0));
            homes = free.homes;
            nobody = omega (arith, same, free.nobody);
          }))
          (λ (held : IsHeld s).
          inr (record {
            word = held.word;
            words = (λ i. slice_set (held.words i) 0 (slice_index (held.words i) 0));
            taken = held.taken;
            homes = held.homes;
            one = omega (arith, same, held.one);
          })) law.place),
      (
        refl,
        record {
          first = lists.first;
          second = lists.second;
          which = lists.which;
          own = fits.records.0.known;
          capacity = fits.stage.2 ∙ sym (fits.capacity tt);
          opening = fits.stage.3 ∙ sym (fits.opening tt);
        },
      ),
    )

-- The same at a seat that is at rest, and a note.
module _ {T : Type 0} (table : TableId) (seat : LockSeat T) (rest : AtRest table seat) where
  pub notes_at : (id : ℕ) → Splits (Locked {T = T}) id seat.0 seat.0 (note_of seat.0)
  notes_at id = subst (λ (m : LockSeat T). Splits (Locked {T = T}) id m.0 m.0 (note_of m.0)) (sym rest) (notes id (pass_of table seat.0))

  module _ (note : LockSeat T) (noted : IsNote note) where
    pub meets_at : (id of_note : ℕ) → Joins (Locked {T = T}) id seat.0 of_note note.0 (meeting seat.0 note.0) nobody
    meets_at id of_note =
        subst (λ (m : LockSeat T). Joins (Locked {T = T}) id m.0 of_note note.0 (meeting m.0 note.0) nobody) (sym rest)
        (subst (λ (m : LockSeat T). Joins (Locked {T = T}) id (idle (pass_of table seat.0)) of_note m.0 (meeting (idle (pass_of table seat.0)) m.0) nobody) (sym noted.is)
        (meets id of_note (pass_of table seat.0) noted.pass))

    pub compares_at : (slots id : ℕ) (seat2 : LockSeat T) → seat2 ≡ (meeting seat.0 note.0, seat.1)
        → Allows (Locked {T = T}) slots id seat2 0 (λ n. n) (learned {T = T} (step 0 0 0 0 none) seat2)
    compares_at slots id seat2 met =
        let one : PassState = pass_of table seat.0 in
        let two : PassState = noted.pass in
        let is : seat2 ≡ (comparing one two.seen two.capacity two.opening, []) = met ∙ (λ i. (meeting (rest i).0 (noted.is i).0, (rest i).1)) in
        subst (λ (m : LockSeat T). Allows (Locked {T = T}) slots id m 0 (λ n. n) (learned {T = T} (step 0 0 0 0 none) m)) (sym is)
        (compares slots id one two.seen two.capacity two.opening)

-- two lists that begin each other are the same
pub same_beginnings : (one other : List Event) → IsPrefix one other → IsPrefix other one → one ≡ other
same_beginnings [] [] p q = refl
same_beginnings [] (y ∷ other) p q = absurd (cc (q.1))
same_beginnings (x ∷ one) [] p q = absurd (cc (p.1))
same_beginnings (x ∷ one) (y ∷ other) p q =
    let rest = same_beginnings one other (p.0, cc (p.1)) (q.0, cc (q.1)) in cc (p.1, rest)

-- A second pass has heard a note of a first, and the first then one of the second: both have seen the same.
pub same_seen : (first second one other new : List Event) → one ≡ first → other ≡ second → IsPrefix one second
    → IsPrefix other new → (new ≡ first) ⊎ (new ≡ other) → new ≡ second
same_seen first second one other new told told_back heard heard_back which =
    ⊎_elim (λ (stays : new ≡ first). stays ∙ same_beginnings first second
    (subst (λ (es : List Event). IsPrefix es second) told heard)
    (subst (λ (es : List Event). IsPrefix es first) told_back (subst (λ (es : List Event). IsPrefix other es) stays heard_back)))
    (λ (learns : new ≡ other). learns ∙ told_back) which
