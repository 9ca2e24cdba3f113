-- A timer's content as the row of its slots: at each slot an expiry, or none.
use Rattle.std.specs.Prelude.{◌≡◌, ℕ, zero, suc, ◌+◌, ◌<◌, ◌≢◌, true, cond, List, [], ◌∷◌, length, Option}
use Rattle.std.specs.Prelude.{Some, None, IsSome, is_some, slice_index_or, slice_set, replicate, ◌++◌}
use Rattle.std.specs.List.{count_by}
use Rattle.std.specs.FinMap as map
use Rattle.std.specs.Ordering.{nat_cmp}
use Rattle.std.specs.Cmp.{unsigned_tied, nat_cmp_total}
use Rattle.std.proofs.Common.{sym, ◌∙◌, ap, subst, refl, arith, zero-add, ⊎_elim}
use Rattle.std.proofs.lemmas.Bool.{eq-eqb, ne_eqb, cases_eq}
use Rattle.std.proofs.lemmas.List.{get_or-set_same, get_or-set_other}
use Rattle.std.proofs.lemmas.List.Sums.{sum_by-cons}
use Rattle.rb_timer.specs.Content.{Content}

-- the entries of a row whose first slot has this number
abbrev pub content_from : ℕ → List (Option ℕ) → Content
content_from first [] = map.empty
content_from first (None ∷ rest) = content_from (first + 1) rest
content_from first (Some expiry ∷ rest) = map.insert (content_from (first + 1) rest) first expiry

-- the entries of a row of slots
abbrev pub content_of : List (Option ℕ) → Content
content_of expiries = content_from 0 expiries

-- after an insert: what its own slot has, and what another has
get-insert_same : (content : Content) (slot expiry : ℕ) → map.get (map.insert content slot expiry) slot ≡ Some expiry
get-insert_same content slot expiry =
    map.get-insert nat_cmp_total content slot expiry slot
    ∙ ap (λ b. cond b (Some expiry) (map.get content slot)) (unsigned_tied slot slot ∙ eq-eqb slot slot refl)

get-insert_other : (content : Content) (slot expiry other : ℕ) → other ≢ slot
    → map.get (map.insert content slot expiry) other ≡ map.get content other
get-insert_other content slot expiry other differs =
    map.get-insert nat_cmp_total content slot expiry other
    ∙ ap (λ b. cond b (Some expiry) (map.get content other)) (unsigned_tied other slot ∙ ne_eqb other slot differs)

get-remove_same : (content : Content) (slot : ℕ) → map.get (map.remove content slot) slot ≡ None
get-remove_same content slot =
    map.get-remove nat_cmp_total content slot slot
    ∙ ap (λ b. cond b None (map.get content slot)) (unsigned_tied slot slot ∙ eq-eqb slot slot refl)

get-remove_other : (content : Content) (slot other : ℕ) → other ≢ slot
    → map.get (map.remove content slot) other ≡ map.get content other
get-remove_other content slot other differs =
    map.get-remove nat_cmp_total content slot other
    ∙ ap (λ b. cond b None (map.get content other)) (unsigned_tied other slot ∙ ne_eqb other slot differs)

-- no entry is at a slot before the first
get-below : (expiries : List (Option ℕ)) (first slot : ℕ) → slot < first
    → map.get (content_from first expiries) slot ≡ None
get-below [] first slot below = map.get-empty nat_cmp slot
get-below (None ∷ rest) first slot below = get-below rest (first + 1) slot (omega arith)
get-below (Some expiry ∷ rest) first slot below =
    get-insert_other (content_from (first + 1) rest) first expiry slot (omega arith)
    ∙ get-below rest (first + 1) slot (omega arith)

-- each entry is at the slot of its place in the row
get-content_from : (expiries : List (Option ℕ)) (first place : ℕ)
    → map.get (content_from first expiries) (first + place) ≡ slice_index_or expiries place None
get-content_from [] first place = map.get-empty nat_cmp (first + place)
get-content_from (None ∷ rest) first zero = get-below rest (first + 1) (first + zero) (omega arith)
get-content_from (None ∷ rest) first (suc place) =
    let next : first + suc place ≡ (first + 1) + place = omega arith in
    ap (map.get (content_from (first + 1) rest)) next ∙ get-content_from rest (first + 1) place
get-content_from (Some expiry ∷ rest) first zero =
    let here : first + zero ≡ first = omega arith in
    ap (map.get (map.insert (content_from (first + 1) rest) first expiry)) here
    ∙ get-insert_same (content_from (first + 1) rest) first expiry
get-content_from (Some expiry ∷ rest) first (suc place) =
    let next : first + suc place ≡ (first + 1) + place = omega arith in
    get-insert_other (content_from (first + 1) rest) first expiry (first + suc place) (omega arith)
    ∙ ap (map.get (content_from (first + 1) rest)) next ∙ get-content_from rest (first + 1) place

-- what the content has at a slot
pub get-content_of : (expiries : List (Option ℕ)) (slot : ℕ)
    → map.get (content_of expiries) slot ≡ slice_index_or expiries slot None
get-content_of expiries slot =
    let here : slot ≡ 0 + slot = omega arith in
    ap (map.get (content_of expiries)) here ∙ get-content_from expiries 0 slot

-- two contents with the same expiry at each slot are equal
same_map : (content other : Content) → ((slot : ℕ) → map.get content slot ≡ map.get other slot) → content ≡ other
same_map content other = map.same_map nat_cmp_total map.nat_cmp-IsAntisymmetric content other

-- two rows with the same expiry at each slot have the same content
pub same_content : (xs ys : List (Option ℕ))
    → ((slot : ℕ) → slice_index_or xs slot None ≡ slice_index_or ys slot None) → content_of xs ≡ content_of ys
same_content xs ys same =
    same_map (content_of xs) (content_of ys) (λ slot. get-content_of xs slot ∙ same slot ∙ sym (get-content_of ys slot))

-- a row with no expiry has the empty content
pub content_empty : (expiries : List (Option ℕ)) → ((slot : ℕ) → slice_index_or expiries slot None ≡ None)
    → content_of expiries ≡ map.empty
content_empty expiries none = same_content expiries [] none

-- what holds at a slot and at each other one holds at every slot
each_slot : (P : ℕ → Type 0) (slot : ℕ) → P slot → ((other : ℕ) → other ≢ slot → P other) → (other : ℕ) → P other
each_slot P slot here elsewhere other =
    ⊎_elim (λ same. subst P (sym same) here) (λ differs. elsewhere other differs) (cases_eq other slot)

-- writing an expiry at a slot of the row adds an entry
pub content_of-insert : (expiries : List (Option ℕ)) (slot expiry : ℕ) → slot < length expiries
    → content_of (slice_set expiries slot (Some expiry)) ≡ map.insert (content_of expiries) slot expiry
content_of-insert expiries slot expiry within =
    let written : List (Option ℕ) = slice_set expiries slot (Some expiry) in
    let content : Content = content_of expiries in
    same_map (content_of written) (map.insert content slot expiry)
    (each_slot (λ other. map.get (content_of written) other ≡ map.get (map.insert content slot expiry) other) slot
    (get-content_of written slot ∙ get_or-set_same expiries slot (Some expiry) None within
    ∙ sym (get-insert_same content slot expiry))
    (λ other differs. get-content_of written other ∙ get_or-set_other expiries slot other (Some expiry) None differs
    ∙ sym (get-insert_other content slot expiry other differs ∙ get-content_of expiries other)))

-- writing none at a slot of the row takes its entry out
pub content_of-remove : (expiries : List (Option ℕ)) (slot : ℕ) → slot < length expiries
    → content_of (slice_set expiries slot None) ≡ map.remove (content_of expiries) slot
content_of-remove expiries slot within =
    let written : List (Option ℕ) = slice_set expiries slot None in
    let content : Content = content_of expiries in
    same_map (content_of written) (map.remove content slot)
    (each_slot (λ other. map.get (content_of written) other ≡ map.get (map.remove content slot) other) slot
    (get-content_of written slot ∙ get_or-set_same expiries slot None None within ∙ sym (get-remove_same content slot))
    (λ other differs. get-content_of written other ∙ get_or-set_other expiries slot other None None differs
    ∙ sym (get-remove_other content slot other differs ∙ get-content_of expiries other)))

-- a row of empty slots has no expiry, and adds none after another row
get_or-replicate_none : (n slot : ℕ) → slice_index_or {A = Option ℕ} (replicate n None) slot None ≡ None
get_or-replicate_none zero slot = refl
get_or-replicate_none (suc n) zero = refl
get_or-replicate_none (suc n) (suc slot) = get_or-replicate_none n slot

get_or-append_none : (expiries : List (Option ℕ)) (more slot : ℕ)
    → slice_index_or (expiries ++ replicate more None) slot None ≡ slice_index_or expiries slot None
get_or-append_none [] more slot = get_or-replicate_none more slot
get_or-append_none (expiry ∷ rest) more zero = refl
get_or-append_none (expiry ∷ rest) more (suc slot) = get_or-append_none rest more slot

-- empty slots after the row change nothing
pub content_of-more : (expiries : List (Option ℕ)) (more : ℕ)
    → content_of (expiries ++ replicate more None) ≡ content_of expiries
content_of-more expiries more =
    same_content (expiries ++ replicate more None) expiries (get_or-append_none expiries more)

-- empty slots alone have no entry
pub content_of-none : (n : ℕ) → content_of (replicate n None) ≡ map.empty
content_of-none n = content_empty (replicate n None) (get_or-replicate_none n)

len-content_from : (expiries : List (Option ℕ)) (first : ℕ)
    → map.len (content_from first expiries) ≡ count_by is_some expiries
len-content_from [] first = map.len-empty nat_cmp ℕ
len-content_from (None ∷ rest) first =
    len-content_from rest (first + 1)
    ∙ sym (sum_by-cons (λ entry. cond (is_some entry) 1 0) None rest ∙ zero-add (count_by is_some rest))
len-content_from (Some expiry ∷ rest) first =
    let content : Content = content_from (first + 1) rest in
    let counted : map.len content ≡ count_by is_some rest = len-content_from rest (first + 1) in
    map.len-insert nat_cmp_total content first expiry
    ∙ ap (λ entry. cond (is_some entry) (map.len content) (map.len content + 1))
    (get-below rest (first + 1) first (omega arith))
    ∙ omega (arith, counted, sum_by-cons (λ entry. cond (is_some entry) 1 0) (Some expiry) rest)

-- there are as many entries as slots with an expiry
pub len-content_of : (expiries : List (Option ℕ)) → map.len (content_of expiries) ≡ count_by is_some expiries
len-content_of expiries = len-content_from expiries 0

is_some_within : (expiries : List (Option ℕ)) (slot : ℕ) → is_some (slice_index_or expiries slot None) ≡ true
    → slot < length expiries
is_some_within [] slot present = absurd (cc)
is_some_within (expiry ∷ rest) zero present = omega arith
is_some_within (expiry ∷ rest) (suc slot) present =
    let within : slot < length rest = is_some_within rest slot present in omega arith

-- a slot that has an entry is in the row
pub in_range_of_content : (expiries : List (Option ℕ)) (slot : ℕ) → IsSome (map.get (content_of expiries) slot)
    → slot < length expiries
in_range_of_content expiries slot present =
    is_some_within expiries slot (sym (ap is_some (get-content_of expiries slot)) ∙ present)
