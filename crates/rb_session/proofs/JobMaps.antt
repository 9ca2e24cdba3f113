-- Jobs in the first entries of a map: where an id is found, and what puts a job in and takes it out.
use Rattle.std.proofs.Common.{◌≡◌, ℕ, zero, suc, ◌+◌, ◌<◌, ◌≤◌, Bool, true, false, cond, not, eqb, nat_lt, nat_eq}
use Rattle.std.proofs.Common.{lt-ltb, le-ltb, eq-eqb, eqb-true, List, [], ◌∷◌, ◌++◌, length, take, map, refl, sym, ap}
use Rattle.std.proofs.Common.{◌∙◌, arith, inl, inr, Option, Some, None, slice_get, position, insert, remove, get_or}
use Rattle.std.proofs.lemmas.Bool.{cases_lt}
use Rattle.std.proofs.lemmas.Bool.Decides.{nat_tests}
use Rattle.std.proofs.lemmas.List.{length-map, take-append-le, take_all}
use Rattle.std.proofs.lemmas.List.Edits.{insert-append_left}
use Rattle.std.proofs.lemmas.Option.{none-some, same_Some}
use Rattle.std.specs.List.{position_or_len}
use Rattle.std.specs.Map.{keys_of, values_of, lookup, remove_entry}
use Rattle.std.specs.Option.{option_map, option_map_or}
use Rattle.indexmap.specs.IndexMap.{move_index, set_value_at}
use Rattle.rb_delayed.specs.declared.element.Element.{Element}
use Rattle.rb_queue.specs.Leaving.{times}
use Rattle.rb_queue.specs.Opening.{ids_of}
use Rattle.rb_queue.proofs.Effects.{bit, times_cons}
use Rattle.rb_session.specs.Held.{place_of, AreNew}
use Rattle.rb_session.specs.JobMap.{present, filed, held_in}

abbrev pub Entry : Type 0
Entry = ℕ × Option Element

abbrev pub entry : Element → Entry
entry element = (element.id, Some element)

-- the first that passes a test
module _ {X : Type 0} (test : X → Bool) (first : X) (rest : List X) where
  place_here : test first ≡ true → position test (first ∷ rest) ≡ Some 0
  place_here passes =
      let at : position_or_len test (first ∷ rest) ≡ 0 =
      ap (λ (b : Bool). cond (not b) (1 + position_or_len test rest) 0) passes in
      ap (λ (n : ℕ). cond (nat_lt n (length (first ∷ rest))) (Some n) None) at
      ∙ ap (λ (b : Bool). cond b (Some 0) None) (lt-ltb 0 (length (first ∷ rest)) (omega arith))

  one_later : (n l : ℕ) → cond (nat_lt (1 + n) (suc l)) (Some (1 + n)) None ≡ option_map suc
      (cond (nat_lt n l) (Some n) None)
  one_later n l = elim (cases_lt n l) [
    | inl below ↦
        let next : 1 + n ≡ suc n = omega arith in
        ap (λ (b : Bool). cond b (Some (1 + n)) None) (lt-ltb (1 + n) (suc l) (omega (arith, below)))
        ∙ ap Some next ∙ sym (ap (λ (b : Bool). option_map suc (cond b (Some n) None)) (lt-ltb n l below))
    | inr above ↦
        ap (λ (b : Bool). cond b (Some (1 + n)) None) (le-ltb (1 + n) (suc l) (omega (arith, above)))
        ∙ sym (ap (λ (b : Bool). option_map suc (cond b (Some n) None)) (le-ltb n l above))
  ]

  place_later : test first ≡ false → position test (first ∷ rest) ≡ option_map suc (position test rest)
  place_later fails =
      let at : position_or_len test (first ∷ rest) ≡ 1 + position_or_len test rest =
      ap (λ (b : Bool). cond (not b) (1 + position_or_len test rest) 0) fails in
      ap (λ (n : ℕ). cond (nat_lt n (length (first ∷ rest))) (Some n) None) at
      ∙ one_later (position_or_len test rest) (length rest)

-- the two tests of an id agree
same_test : (id key : ℕ) (here : Bool) → nat_eq id key ≡ here → eqb key id ≡ here
same_test id key true is = eq-eqb key id (sym (eqb-true id key is))
same_test id key false is = grind (arith, nat_tests)

-- a place among the first entries, or none
abbrev pub within : ℕ → Option ℕ → Option ℕ
within count None = None
within count (Some place) = cond (nat_lt place count) (Some place) None

within_later : (count : ℕ) (place : Option ℕ) → within (suc count) (option_map suc place) ≡ option_map suc
    (within count place)
within_later count None = refl
within_later count (Some place) = elim (cases_lt place count) [
  | inl below ↦
      ap (λ (b : Bool). cond b (Some (suc place)) None) (lt-ltb (suc place) (suc count) (omega (arith, below)))
      ∙ sym (ap (λ (b : Bool). option_map suc (cond b (Some place) None)) (lt-ltb place count below))
  | inr above ↦
      ap (λ (b : Bool). cond b (Some (suc place)) None) (le-ltb (suc place) (suc count) (omega (arith, above)))
      ∙ sym (ap (λ (b : Bool). option_map suc (cond b (Some place) None)) (le-ltb place count above))
]

within_none : (place : Option ℕ) → within 0 place ≡ None
within_none None = refl
within_none (Some place) = ap (λ (b : Bool). cond b (Some place) None) (le-ltb place 0 (omega arith))

-- among the first entries an id is found where its job is held
pub found_within : (held : List Element) (ended : List Entry) (id : ℕ)
    → within (length held) (position (nat_eq id) (keys_of (filed held ++ ended))) ≡ place_of held id
found_within [] ended id = within_none (position (nat_eq id) (keys_of ended))
found_within (first ∷ held) ended id = by_test (nat_eq id first.id) refl (found_within held ended id)
  where
    by_test : (here : Bool) → nat_eq id first.id ≡ here
        → within (length held) (position (nat_eq id) (keys_of (filed held ++ ended))) ≡ place_of held id
        → within (suc (length held)) (position (nat_eq id) (first.id ∷ keys_of (filed held ++ ended)))
        ≡ place_of (first ∷ held) id
    by_test true is later =
        ap (within (suc (length held))) (place_here (nat_eq id) first.id (keys_of (filed held ++ ended)) is)
        ∙ ap (λ (b : Bool). cond b (Some 0) None) (lt-ltb 0 (suc (length held)) (omega arith))
        ∙ sym (place_here (λ (e : Element). eqb e.id id) first held (same_test id first.id true is))
    by_test false is later =
        ap (within (suc (length held))) (place_later (nat_eq id) first.id (keys_of (filed held ++ ended)) is)
        ∙ within_later (length held) (position (nat_eq id) (keys_of (filed held ++ ended)))
        ∙ ap (option_map suc) later
        ∙ sym (place_later (λ (e : Element). eqb e.id id) first held (same_test id first.id false is))

-- an id is found among the entries of jobs where its job is held
pub same_place : (held : List Element) (id : ℕ) → position (nat_eq id) (keys_of (filed held)) ≡ place_of held id
same_place [] id = refl
same_place (first ∷ held) id = by_test (nat_eq id first.id) refl (same_place held id)
  where
    by_test : (here : Bool) → nat_eq id first.id ≡ here
        → position (nat_eq id) (keys_of (filed held)) ≡ place_of held id
        → position (nat_eq id) (first.id ∷ keys_of (filed held)) ≡ place_of (first ∷ held) id
    by_test true is later =
        place_here (nat_eq id) first.id (keys_of (filed held)) is
        ∙ sym (place_here (λ (e : Element). eqb e.id id) first held (same_test id first.id true is))
    by_test false is later =
        place_later (nat_eq id) first.id (keys_of (filed held)) is ∙ ap (option_map suc) later
        ∙ sym (place_later (λ (e : Element). eqb e.id id) first held (same_test id first.id false is))

-- the id of the first entry is found there
pub found_first : (entries : List Entry) (first : Entry) (id : ℕ) → slice_get entries 0 ≡ Some first → first.0 ≡ id
    → position (nat_eq id) (keys_of entries) ≡ Some 0
found_first [] first id there same = absurd (none-some first there)
found_first (entry ∷ entries) first id there same =
    place_here (nat_eq id) entry.0 (keys_of entries)
    (eq-eqb id entry.0 (sym same ∙ ap (λ (e : Entry). e.0) (sym (same_Some entry first there))))

-- where an id is not held, removing its entry removes none of a job's
pub removes_ended : (held : List Element) (ended : List Entry) (id : ℕ) → place_of held id ≡ None
    → remove_entry (nat_eq id) (filed held ++ ended) ≡ filed held ++ remove_entry (nat_eq id) ended
removes_ended [] ended id none = refl
removes_ended (first ∷ held) ended id none = by_test (nat_eq id first.id) refl (removes_ended held ended id)
  where
    no_later : (place : Option ℕ) → option_map suc place ≡ None → place ≡ None
    no_later None is = refl
    no_later (Some place) is = absurd (cc)

    by_test : (here : Bool) → nat_eq id first.id ≡ here
        → (place_of held id ≡ None
        → remove_entry (nat_eq id) (filed held ++ ended) ≡ filed held ++ remove_entry (nat_eq id) ended)
        → cond here (filed held ++ ended) (entry first ∷ remove_entry (nat_eq id) (filed held ++ ended))
        ≡ entry first ∷ (filed held ++ remove_entry (nat_eq id) ended)
    by_test true is later =
        let clash = sym none ∙ place_here (λ (e : Element). eqb e.id id) first held (same_test id first.id true is) in
        absurd (cc)
    by_test false is later =
        ap (λ (es : List Entry). entry first ∷ es) (later (no_later _
        (sym (place_later (λ (e : Element). eqb e.id id) first held (same_test id first.id false is)) ∙ none)))

-- an id that no entry of a job has is not held
pub not_held : (held : List Element) (id : ℕ) → lookup (nat_eq id) (filed held) ≡ None → place_of held id ≡ None
not_held [] id none = refl
not_held (first ∷ held) id none = by_test (nat_eq id first.id) refl (not_held held id)
  where
    by_test : (here : Bool) → nat_eq id first.id ≡ here
        → (lookup (nat_eq id) (filed held) ≡ None → place_of held id ≡ None) → place_of (first ∷ held) id ≡ None
    by_test true is later =
        let clash : Some (Some first) ≡ None =
        sym (ap (λ (b : Bool). cond b (Some (Some first)) (lookup (nat_eq id) (filed held))) is) ∙ none in
        absurd (cc)
    by_test false is later =
        place_later (λ (e : Element). eqb e.id id) first held (same_test id first.id false is)
        ∙ ap (option_map suc) (later
        (sym (ap (λ (b : Bool). cond b (Some (Some first)) (lookup (nat_eq id) (filed held))) is) ∙ none))

-- a new job is not held
pub new_place : (held : List Element) (element : Element) → AreNew held (element ∷ []) → place_of held element.id ≡ None
new_place held element new = no_times held (omega (arith, one, new element.id (omega (arith, one))))
  where
    one : times element.id (ids_of (element ∷ [])) ≡ 1
    one = times_cons element.id element.id [] ∙ ap (λ (b : Bool). bit b + 0) (eq-eqb element.id element.id refl)

    no_times : (some : List Element) → times element.id (ids_of some) ≡ 0 → place_of some element.id ≡ None
    no_times [] none = refl
    no_times (first ∷ some) none = by_test (eqb first.id element.id) refl (no_times some)
      where
        by_test : (here : Bool) → eqb first.id element.id ≡ here
            → (times element.id (ids_of some) ≡ 0 → place_of some element.id ≡ None)
            → place_of (first ∷ some) element.id ≡ None
        by_test true is later =
            absurd (omega (arith, none, times_cons element.id first.id (ids_of some), ap bit is))
        by_test false is later =
            place_later (λ (e : Element). eqb e.id element.id) first some is
            ∙ ap (option_map suc) (later (omega (arith, none, times_cons element.id first.id (ids_of some))))

-- the jobs in the first entries
pub present_filed : (held : List Element) → present (values_of (filed held)) ≡ held
present_filed [] = refl
present_filed (first ∷ held) = ap (λ (es : List Element). first ∷ es) (present_filed held)

pub present_some : (held : List Element) → present (map Some held) ≡ held
present_some [] = refl
present_some (first ∷ held) = ap (λ (es : List Element). first ∷ es) (present_some held)

pub present-append : (one two : List (Option Element)) → present (one ++ two) ≡ present one ++ present two
present-append [] two = refl
present-append (None ∷ one) two = present-append one two
present-append (Some element ∷ one) two = ap (λ (jobs : List Element). element ∷ jobs) (present-append one two)

pub values_filed : (held : List Element) → values_of (filed held) ≡ map Some held
values_filed [] = refl
values_filed (first ∷ held) = ap (λ (es : List (Option Element)). Some first ∷ es) (values_filed held)

pub first_entries : (held : List Element) (ended : List Entry) → take (length held) (filed held ++ ended) ≡ filed held
first_entries held ended =
    let long = length-map held entry in
    take-append-le (length held) (filed held) ended (omega (arith, long))
    ∙ take_all (length held) (filed held) (omega (arith, long))

-- what the first entries hold, where they are these
pub held_first : (held : List Element) (ended entries : List Entry) (count : ℕ) → entries ≡ filed held ++ ended
    → count ≡ length held → (take count entries ≡ filed held) × (held_in entries count ≡ held)
held_first held ended entries count is counted =
    let first : take count entries ≡ filed held =
    ap (take count) is ∙ ap (λ (n : ℕ). take n (filed held ++ ended)) counted ∙ first_entries held ended in
    (first, ap (λ (es : List Entry). present (values_of es)) first ∙ present_filed held)

-- edits among the first entries
filed_insert : (held : List Element) (place : ℕ) (element : Element)
    → insert (filed held) place (entry element) ≡ filed (insert held place element)
filed_insert held zero element = refl
filed_insert [] (suc place) element = refl
filed_insert (first ∷ held) (suc place) element =
    ap (λ (es : List Entry). entry first ∷ es) (filed_insert held place element)

-- an entry that stays in its place
pub stays_there : (entries : List Entry) (place : ℕ) → move_index entries place place ≡ entries
stays_there [] place = refl
stays_there (first ∷ entries) zero = refl
stays_there (first ∷ entries) (suc place) =
    behind (slice_get entries place) ∙ ap (λ (es : List Entry). first ∷ es) (stays_there entries place)
  where
    behind : (found : Option Entry)
        → option_map_or (λ (e : Entry). first ∷ insert (remove entries place) place e) found (first ∷ entries)
        ≡ first ∷ option_map_or (λ (e : Entry). insert (remove entries place) place e) found entries
    behind None = refl
    behind (Some e) = refl

-- an entry that moves to a place among the first
pub moves_in : (entries : List Entry) (held : List Element) (ended : List Entry) (at place : ℕ) (element : Element)
    → slice_get entries at ≡ Some (entry element) → remove entries at ≡ filed held ++ ended → place ≤ length held
    → move_index entries at place ≡ filed (insert held place element) ++ ended
moves_in entries held ended at place element there others within =
    ap (λ (o : Option Entry). option_map_or (λ (e : Entry). insert (remove entries at) place e) o entries) there
    ∙ ap (λ (es : List Entry). insert es place (entry element)) others
    ∙ insert-append_left (filed held) ended place (entry element) (omega (arith, within, length-map held entry))
    ∙ ap (λ (es : List Entry). es ++ ended) (filed_insert held place element)

-- an entry that moves behind the others of the first
pub moves_out : (held : List Element) (ended : List Entry) (place last : ℕ) (element : Element)
    → slice_get held place ≡ Some element → last + 1 ≡ length held
    → move_index (filed held ++ ended) place last ≡ filed (remove held place) ++ entry element ∷ ended
moves_out held ended place last element there counted =
    ap (λ (o : Option Entry). option_map_or (λ (e : Entry). insert (remove (filed held ++ ended) place) last e) o
    (filed held ++ ended)) (found held place there)
    ∙ taken held place last there counted
  where
    found : (some : List Element) (place : ℕ) → slice_get some place ≡ Some element
        → slice_get (filed some ++ ended) place ≡ Some (entry element)
    found [] place there = absurd (none-some element there)
    found (first ∷ some) zero there = ap (λ (e : Element). Some (entry e)) (same_Some first element there)
    found (first ∷ some) (suc place) there = found some place there

    behind : (some : List Element) (last : ℕ) → last ≡ length some
        → insert (filed some ++ ended) last (entry element) ≡ filed some ++ entry element ∷ ended
    behind [] zero is = refl
    behind [] (suc last) is = absurd (omega (arith, is))
    behind (first ∷ some) zero is = absurd (omega (arith, is))
    behind (first ∷ some) (suc last) is =
        ap (λ (es : List Entry). entry first ∷ es) (behind some last (omega (arith, is)))

    taken : (some : List Element) (place last : ℕ) → slice_get some place ≡ Some element → last + 1 ≡ length some
        → insert (remove (filed some ++ ended) place) last (entry element)
        ≡ filed (remove some place) ++ entry element ∷ ended
    taken [] place last there counted = absurd (none-some element there)
    taken (first ∷ some) zero last there counted = behind some last (omega (arith, counted))
    taken (first ∷ []) (suc place) last there counted = absurd (none-some element there)
    taken (first ∷ second ∷ some) (suc place) zero there counted = absurd (omega (arith, counted))
    taken (first ∷ second ∷ some) (suc place) (suc last) there counted =
        ap (λ (es : List Entry). entry first ∷ es)
        (taken (second ∷ some) place last there (omega (arith, counted)))

-- the entry behind others, emptied
pub emptied : (front : List Entry) (key : ℕ) (value left : Option Element) (ended : List Entry) (last : ℕ)
    → last ≡ length front
    → (set_value_at (front ++ (key, value) ∷ ended) last left ≡ front ++ (key, left) ∷ ended)
    × (slice_get (values_of (front ++ (key, value) ∷ ended)) last ≡ Some value)
emptied [] key value left ended zero is = (refl, refl)
emptied [] key value left ended (suc last) is = absurd (omega (arith, is))
emptied (first ∷ front) key value left ended zero is = absurd (omega (arith, is))
emptied (first ∷ front) key value left ended (suc last) is =
    let more = emptied front key value left ended last (omega (arith, is)) in
    (ap (λ (es : List Entry). first ∷ es) more.0, more.1)

-- an entry that is filled
pub filled : (entries : List Entry) (at : ℕ) (value : Option Element) → at < length entries
    → (slice_get (set_value_at entries at value) at ≡ Some (get_or (keys_of entries) at 0, value))
    × (remove (set_value_at entries at value) at ≡ remove entries at)
filled [] at value inside = absurd (omega arith)
filled (first ∷ entries) zero value inside = (refl, refl)
filled (first ∷ entries) (suc at) value inside =
    let more = filled entries at value (omega (arith, inside)) in
    (more.0, ap (λ (es : List Entry). first ∷ es) more.1)

-- an entry that is pushed
pub pushed : (entries : List Entry) (last : Entry)
    → (get_or (keys_of (entries ++ last ∷ [])) (length entries) 0 ≡ last.0)
    × (remove (entries ++ last ∷ []) (length entries) ≡ entries)
pushed [] last = (refl, refl)
pushed (first ∷ entries) last = let more = pushed entries last in (more.0, ap (λ (es : List Entry). first ∷ es) more.1)

-- removing the entry of a key, by its place
pub removed_found : (entries : List Entry) (id : ℕ) (at : ℕ) → position (nat_eq id) (keys_of entries) ≡ Some at
    → remove_entry (nat_eq id) entries ≡ remove entries at
removed_found [] id at found = absurd (cc)
removed_found (first ∷ entries) id at found = by_test (nat_eq id first.0) refl (removed_found entries id)
  where
    shifted : (place : Option ℕ) (at : ℕ) → option_map suc place ≡ Some at
        → ((n : ℕ) → place ≡ Some n → remove_entry (nat_eq id) entries ≡ remove entries n)
        → first ∷ remove_entry (nat_eq id) entries ≡ remove (first ∷ entries) at
    shifted None at is later = absurd (cc)
    shifted (Some place) at is later =
        ap (λ (es : List Entry). first ∷ es) (later place refl)
        ∙ ap (λ (n : ℕ). remove (first ∷ entries) n) (same_Some (suc place) at is)

    by_test : (here : Bool) → nat_eq id first.0 ≡ here
        → ((n : ℕ) → position (nat_eq id) (keys_of entries) ≡ Some n
        → remove_entry (nat_eq id) entries ≡ remove entries n)
        → cond here entries (first ∷ remove_entry (nat_eq id) entries) ≡ remove (first ∷ entries) at
    by_test true is later =
        ap (λ (n : ℕ). remove (first ∷ entries) n)
        (same_Some 0 at (sym (place_here (nat_eq id) first.0 (keys_of entries) is) ∙ found))
    by_test false is later =
        shifted (position (nat_eq id) (keys_of entries)) at
        (sym (place_later (nat_eq id) first.0 (keys_of entries) is) ∙ found) later

pub removed_none : (entries : List Entry) (id : ℕ) → lookup (nat_eq id) entries ≡ None
    → remove_entry (nat_eq id) entries ≡ entries
removed_none [] id none = refl
removed_none (first ∷ entries) id none = by_test (nat_eq id first.0) refl (removed_none entries id)
  where
    by_test : (here : Bool) → nat_eq id first.0 ≡ here
        → (lookup (nat_eq id) entries ≡ None → remove_entry (nat_eq id) entries ≡ entries)
        → cond here entries (first ∷ remove_entry (nat_eq id) entries) ≡ first ∷ entries
    by_test true is later =
        let clash : Some first.1 ≡ None =
        sym (ap (λ (b : Bool). cond b (Some first.1) (lookup (nat_eq id) entries)) is) ∙ none in
        absurd (cc)
    by_test false is later =
        ap (λ (es : List Entry). first ∷ es) (later
        (sym (ap (λ (b : Bool). cond b (Some first.1) (lookup (nat_eq id) entries)) is) ∙ none))
