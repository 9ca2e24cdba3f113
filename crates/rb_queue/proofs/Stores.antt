-- What the timer and the directory say of the elements in the slots, and what keeps the three alike.
use Rattle.std.proofs.Common.{◌≡◌, ◌≢◌, Bool, ℕ, ◌+◌, ◌-◌, ◌<◌, ◌≤◌, List, [], ◌∷◌, ◌++◌, refl, sym, ap, subst, ◌∙◌, arith, Option, Some, None, true, false, cond, inl, inr, ◌⊎◌, nat_eq}
use Rattle.std.proofs.lemmas.Bool.Decides.{nat_tests}
use Rattle.std.proofs.lemmas.Int.{ints}
use Rattle.std.proofs.lemmas.Option.{same_Some}
use Rattle.std.specs.Prelude.{IsSome, IsSomeAnd, MatchOption, option_map, is_some, count_by, slice_index_or}
use Rattle.std.specs.FinMap as map
use Rattle.std.specs.Map.{lookup}
use Rattle.std.specs.FinMap.{get-empty, get-insert, get-remove, len-empty, len-insert, len-remove}
use Rattle.std.specs.Ordering.{nat_cmp, eq_by_cmp}
use Rattle.std.specs.Cmp.{nat_cmp_total}
use Rattle.slab.specs.Slab.{Slab, get, slab_len, Updates}
use Rattle.rb_delayed.specs.declared.element.Element.{Element}
use Rattle.rb_delayed.specs.Moment.{IsExpired}
use Rattle.rb_timer.specs.Content as timer
use Rattle.rb_timer.specs.Content.{Content, IsDueEntry}
use Rattle.rb_queue.specs.Bag.{NoneExpired}
use Rattle.rb_queue.specs.Head.{IsLeast, IsHead, IsLeastExpiry}
use Rattle.rb_queue.specs.Filing.{Directory, slot_of, bag_of, IsFiled}
use Rattle.rb_queue.proofs.Bags.{same_bag}
use Rattle.rb_queue.proofs.Options.{same_or_not, mapped_some, of_each, at_value, has_and, value_and, matches_some}
use Rattle.rb_queue.proofs.BagsInSlots.{AreDistinct, Holds, Holds-bag_of, Holds-unique, Holds-insert, Holds-remove}

late : (expiry now : ℕ) → now < expiry → IsExpired expiry now → ⊥
late expiry now before expired = omega (arith, ints)

early : (expiry now : ℕ) → expiry ≤ now → IsExpired expiry now
early expiry now before = omega (arith, ints)

module _ (s : Slab Element) (content : Content) (directory : Directory) (sound : IsFiled s content directory) where
  -- no two elements have one id, as the directory names one slot for it
  pub distinct : AreDistinct s.slots
  distinct slot other a b here there same =
      same_Some slot other (sym (sound.listed slot a here) ∙ ap (slot_of directory) same ∙ sound.listed other b there)

  pub lying : Holds s.slots (bag_of s.slots)
  lying = Holds-bag_of s.slots distinct

  -- the timer's entry at a slot is the expiry of the element there
  element_at : (slot expiry : ℕ) → map.get content slot ≡ Some expiry → (element : Element) × (get s slot ≡ Some element) × (element.expiry ≡ expiry)
  element_at slot expiry found = mapped_some (λ (e : Element). e.expiry) (get s slot) expiry (sym (sound.timed slot) ∙ found)

  pub expiry_at : (slot : ℕ) (element : Element) → get s slot ≡ Some element → map.get content slot ≡ Some (element.expiry)
  expiry_at slot element found = sound.timed slot ∙ ap (option_map (λ (e : Element). e.expiry)) found

  -- what is least for the timer is least in the bag
  pub is_least : (slot expiry : ℕ) (element : Element) → timer.IsLeastSlot content slot expiry → get s slot ≡ Some element → IsLeast (bag_of s.slots) element
  is_least slot expiry element first found = record {
    present = lying.each slot element found;
    least = λ id. of_each _ _ (λ other there.
        let lies = lying.only id other there in
        let below : expiry ≤ other.expiry = at_value _ (λ another. expiry ≤ another) other.expiry (expiry_at lies.slot other lies.found) (first.least lies.slot) in
        omega (arith, same_expiry, below));
  }
    where
      same_expiry : element.expiry ≡ expiry
      same_expiry = let here = expiry_at slot element found in let there = first.present in cc

  -- what is due for the timer is a head of the bag
  pub is_head : (slot expiry now : ℕ) (element : Element) → IsDueEntry content now (Some (slot, expiry)) → get s slot ≡ Some element → IsHead (bag_of s.slots) now element
  is_head slot expiry now element due found =
      let here = expiry_at slot element found in
      let there = due.0.present in
      let same : element.expiry ≡ expiry = cc in
      record { least = is_least slot expiry element due.0 found; expired = early element.expiry now (omega (arith, same, due.1)) }

  -- where every expiry of the timer is later, nothing in the bag is expired
  pub none_due : (now : ℕ) → IsDueEntry content now None → NoneExpired (bag_of s.slots) now
  none_due now later id = of_each _ _ (λ element there.
      let lies = lying.only id element there in
      late element.expiry now (at_value _ (λ expiry. now < expiry) element.expiry (expiry_at lies.slot element lies.found) (later lies.slot)))

  -- where the timer is empty, so is the bag
  pub none_least : content ≡ map.empty → bag_of s.slots ≡ map.empty
  none_least empty = same_bag _ _ (λ id. nothing id (map.get (bag_of s.slots) id) refl ∙ sym (get-empty nat_cmp id))
    where
      nothing : (id : ℕ) (o : Option Element) → map.get (bag_of s.slots) id ≡ o → map.get (bag_of s.slots) id ≡ None
      nothing id None is = is
      nothing id (Some element) is =
          let lies = lying.only id element is in
          let here : map.get content lies.slot ≡ Some element.expiry = expiry_at lies.slot element lies.found in
          let none : map.get content lies.slot ≡ None = ap (λ c. map.get c lies.slot) empty ∙ get-empty nat_cmp lies.slot in
          absurd (cc)

  -- what lies in the slot of the least entry is least in the bag
  pub shown : (slot expiry : ℕ) (Q : Type 0) → timer.IsLeastSlot content slot expiry → MatchOption (get s slot) Q (IsLeast (bag_of s.slots))
  shown slot expiry Q first = of_there (element_at slot expiry first.present)
    where
      of_there : (there : (a : Element) × (get s slot ≡ Some a) × (a.expiry ≡ expiry)) → MatchOption (get s slot) Q (IsLeast (bag_of s.slots))
      of_there (a, here, same) = matches_some (get s slot) Q (IsLeast (bag_of s.slots)) (has_and _ _ a here (is_least slot expiry a first here))

  pub least_expiry : (slot expiry : ℕ) → timer.IsLeastSlot content slot expiry → IsLeastExpiry (bag_of s.slots) expiry
  least_expiry slot expiry first = of_there (element_at slot expiry first.present)
    where
      of_there : (there : (a : Element) × (get s slot ≡ Some a) × (a.expiry ≡ expiry)) → IsLeastExpiry (bag_of s.slots) expiry
      of_there (a, here, same) = (a, is_least slot expiry a first here, same)

  -- what the bag has at an id that the directory lacks, and at one that it has
  pub unfiled : (id : ℕ) → slot_of directory id ≡ None → map.get (bag_of s.slots) id ≡ None
  unfiled id none = nothing (map.get (bag_of s.slots) id) refl
    where
      nothing : (o : Option Element) → map.get (bag_of s.slots) id ≡ o → map.get (bag_of s.slots) id ≡ None
      nothing None is = is
      nothing (Some element) is =
          let lies = lying.only id element is in
          let there : slot_of directory id ≡ Some lies.slot = ap (slot_of directory) (sym lies.named) ∙ sound.listed lies.slot element lies.found in
          absurd (cc)

  -- the timer has an entry at the slot of a filed id
  pub filed_expiry : (id slot : ℕ) → slot_of directory id ≡ Some slot → IsSome (map.get content slot)
  filed_expiry id slot found = of_element (value_and _ _ (sound.filed id slot found))
    where
      of_element : (element : Element) × (get s slot ≡ Some element) × (element.id ≡ id) → IsSome (map.get content slot)
      of_element (element, here, named) = ap is_some (expiry_at slot element here)

  -- the element at the slot of a filed id has that id
  pub filed_id : (id slot : ℕ) (element : Element) → slot_of directory id ≡ Some slot → get s slot ≡ Some element → element.id ≡ id
  filed_id id slot element found here = of_element (value_and _ _ (sound.filed id slot found))
    where
      of_element : (e : Element) × (get s slot ≡ Some e) × (e.id ≡ id) → element.id ≡ id
      of_element (e, there, named) = let is : element ≡ e = cc in ap (λ (x : Element). x.id) is ∙ named

  pub filed_element : (id slot : ℕ) → slot_of directory id ≡ Some slot → (element : Element) × (get s slot ≡ Some element) × (element.id ≡ id)
  filed_element id slot found = value_and _ _ (sound.filed id slot found)

-- an empty slab, timer and directory
pub sound_empty : (s : Slab Element) (content : Content) (directory : Directory) → s.slots ≡ [] → content ≡ map.empty → ((id : ℕ) → slot_of directory id ≡ None) → IsFiled s content directory
sound_empty s content directory none empty unlisted = record {
  timed = λ slot. ap (λ c. map.get c slot) empty ∙ get-empty nat_cmp slot ∙ sym (ap (option_map (λ (e : Element). e.expiry)) (nothing slot));
  listed = λ slot element here. let vacant = nothing slot in absurd (cc);
  filed = λ id slot found. let missing = unlisted id in absurd (cc);
  counted = ap (count_by is_some) none ∙ sym (ap (λ slots. map.len (bag_of slots)) none ∙ len-empty nat_cmp Element);
}
  where
    nothing : (slot : ℕ) → get s slot ≡ None
    nothing slot = ap (λ slots. slice_index_or slots slot None) none

-- where the directory names no slot, no slot has an element: an empty timer and another empty directory agree with that
pub sound_unlisted : (s : Slab Element) (content : Content) (old new : Directory) → IsFiled s content old
    → ((id : ℕ) → slot_of old id ≡ None) → ((id : ℕ) → slot_of new id ≡ None) → IsFiled s map.empty new
sound_unlisted s content old new sound unlisted none = record {
  timed = λ slot. get-empty nat_cmp slot ∙ sym (ap (option_map (λ (e : Element). e.expiry)) (vacant slot (get s slot) refl));
  listed = λ slot element here. absurd (nowhere slot element here);
  filed = λ id slot found. let missing = none id in absurd (cc);
  counted = sound.counted;
}
  where
    nowhere : (slot : ℕ) (element : Element) → get s slot ≡ Some element → ⊥
    nowhere slot element here =
        let there = sound.listed slot element here in
        let missing = unlisted element.id in absurd (cc)

    vacant : (slot : ℕ) (o : Option Element) → get s slot ≡ o → get s slot ≡ None
    vacant slot None is = is
    vacant slot (Some element) is = absurd (nowhere slot element is)

-- what the directory has after an update at an id
abbrev pub UpdatesSlot : Directory → Directory → ℕ → Option ℕ → Type 0
UpdatesSlot old new id slot = (other : ℕ) → slot_of new other ≡ cond (nat_eq id other) slot (slot_of old other)

-- an update at another name of the id
pub updated_by : (old new : Directory) (one id : ℕ) (slot : Option ℕ) → id ≡ one → UpdatesSlot old new one slot → UpdatesSlot old new id slot
updated_by old new one id slot same updates = subst (λ name. UpdatesSlot old new name slot) (sym same) updates

-- an update after the entries were kept
pub updated_after : (old kept new : Directory) (id : ℕ) (slot : Option ℕ) → kept.entries ≡ old.entries → UpdatesSlot kept new id slot → UpdatesSlot old new id slot
updated_after old kept new id slot same updates other =
    updates other ∙ ap (λ entries. cond (nat_eq id other) slot (lookup (nat_eq other) entries)) same

pub updated_same : (old new : Directory) (id : ℕ) (slot : Option ℕ) → UpdatesSlot old new id slot → slot_of new id ≡ slot
updated_same old new id slot updates =
    let test : nat_eq id id ≡ true = grind (arith, nat_tests) in
    updates id ∙ ap (λ b. cond b slot (slot_of old id)) test

updated_other : (old new : Directory) (id other : ℕ) (slot : Option ℕ) → UpdatesSlot old new id slot → other ≢ id → slot_of new other ≡ slot_of old other
updated_other old new id other slot updates differ =
    let test : nat_eq id other ≡ false = grind (arith, nat_tests) in
    updates other ∙ ap (λ b. cond b slot (slot_of old other)) test

-- the slot of an id that stands last, and nowhere before
lookup_last : (entries : List (ℕ × ℕ)) (id slot : ℕ) → lookup (nat_eq id) entries ≡ None → lookup (nat_eq id) (entries ++ (id, slot) ∷ []) ≡ Some slot
lookup_last [] id slot none =
    let test : nat_eq id id ≡ true = grind (arith, nat_tests) in
    ap (λ b. cond b (Some slot) None) test
lookup_last (entry ∷ entries) id slot none = by_test (nat_eq id entry.0) refl (lookup_last entries id slot)
  where
    by_test : (b : Bool) → nat_eq id entry.0 ≡ b
        → (lookup (nat_eq id) entries ≡ None → lookup (nat_eq id) (entries ++ (id, slot) ∷ []) ≡ Some slot)
        → lookup (nat_eq id) ((entry ∷ entries) ++ (id, slot) ∷ []) ≡ Some slot
    by_test true is behind =
        let found : lookup (nat_eq id) (entry ∷ entries) ≡ Some entry.1 = ap (λ b. cond b (Some entry.1) (lookup (nat_eq id) entries)) is in absurd (cc)
    by_test false is behind =
        ap (λ b. cond b (Some entry.1) (lookup (nat_eq id) (entries ++ (id, slot) ∷ []))) is
        ∙ behind (sym (ap (λ b. cond b (Some entry.1) (lookup (nat_eq id) entries)) is) ∙ none)

pub slot_of_last : (old new : Directory) (id slot : ℕ) → old.entries ≡ new.entries ++ (id, slot) ∷ [] → UpdatesSlot old new id None → slot_of old id ≡ Some slot
slot_of_last old new id slot last updates =
    ap (lookup (nat_eq id)) last ∙ lookup_last new.entries id slot (updated_same old new id None updates)

-- one element more, under an id that the bag lacks
module _ (old new : Slab Element) (content content' : Content) (directory directory' : Directory) (slot : ℕ) (element : Element)
    (sound : IsFiled old content directory) (absent : map.get (bag_of old.slots) element.id ≡ None)
    (vacant : get old slot ≡ None) (updates : Updates old new slot (Some element))
    (timed : content' ≡ map.insert content slot element.expiry) (listed : UpdatesSlot directory directory' element.id (Some slot)) where
  listed-insert : (place : ℕ) (e : Element) → get new place ≡ Some e → slot_of directory' e.id ≡ Some place
  listed-insert place e here = by_place (same_or_not place slot)
    where
      by_place : (place ≡ slot) ⊎ (place ≢ slot) → slot_of directory' e.id ≡ Some place
      by_place (inl at) =
          let filled : get new place ≡ Some element = ap (get new) at ∙ updates.changed in
          let is : element ≡ e = cc in
          ap (λ (x : Element). slot_of directory' x.id) (sym is) ∙ updated_same directory directory' element.id (Some slot) listed ∙ ap Some (sym at)
      by_place (inr elsewhere) =
          let was : get old place ≡ Some e = sym (updates.others place elsewhere) ∙ here in
          let present : map.get (bag_of old.slots) e.id ≡ Some e = (lying old content directory sound).each place e was in
          let differ : e.id ≢ element.id = λ same. let clash : map.get (bag_of old.slots) e.id ≡ None = ap (map.get (bag_of old.slots)) same ∙ absent in cc in
          updated_other directory directory' element.id e.id (Some slot) listed differ ∙ sound.listed place e was

  distinct-insert : AreDistinct new.slots
  distinct-insert one other a b here there same =
      same_Some one other (sym (listed-insert one a here) ∙ ap (slot_of directory') same ∙ listed-insert other b there)

  bag-insert : bag_of new.slots ≡ map.insert (bag_of old.slots) element.id element
  bag-insert = Holds-unique new.slots _ _ (Holds-bag_of new.slots distinct-insert)
      (Holds-insert old.slots new.slots slot element (bag_of old.slots) (lying old content directory sound) updates.others vacant updates.changed absent)

  sound-insert : slab_len new ≡ slab_len old + 1 → IsFiled new content' directory'
  sound-insert len = record {
    timed = λ place. timed_at place (same_or_not place slot);
    listed = listed-insert;
    filed = λ id place found. filed_at id place found (same_or_not id element.id);
    counted = len ∙ ap (λ n. n + 1) sound.counted
        ∙ sym (ap map.len bag-insert ∙ len-insert nat_cmp_total (bag_of old.slots) element.id element
        ∙ ap (λ (o : Option Element). cond (is_some o) (map.len (bag_of old.slots)) (map.len (bag_of old.slots) + 1)) absent);
  }
    where
      get_after : (place : ℕ) → map.get content' place ≡ cond (eq_by_cmp nat_cmp place slot) (Some element.expiry) (map.get content place)
      get_after place = ap (λ c. map.get c place) timed ∙ get-insert nat_cmp_total content slot element.expiry place

      timed_at : (place : ℕ) → (place ≡ slot) ⊎ (place ≢ slot) → map.get content' place ≡ option_map (λ (e : Element). e.expiry) (get new place)
      timed_at place (inl at) =
          let test : eq_by_cmp nat_cmp place slot ≡ true = grind (arith, nat_tests) in
          get_after place ∙ ap (λ b. cond b (Some element.expiry) (map.get content place)) test
          ∙ sym (ap (option_map (λ (e : Element). e.expiry)) (ap (get new) at ∙ updates.changed))
      timed_at place (inr elsewhere) =
          let test : eq_by_cmp nat_cmp place slot ≡ false = grind (arith, nat_tests) in
          get_after place ∙ ap (λ b. cond b (Some element.expiry) (map.get content place)) test
          ∙ sound.timed place ∙ sym (ap (option_map (λ (e : Element). e.expiry)) (updates.others place elsewhere))

      filed_at : (id place : ℕ) → slot_of directory' id ≡ Some place → (id ≡ element.id) ⊎ (id ≢ element.id) → IsSomeAnd (get new place) (λ e. e.id ≡ id)
      filed_at id place found (inl same) =
          let here : slot_of directory' id ≡ Some slot = ap (slot_of directory') same ∙ updated_same directory directory' element.id (Some slot) listed in
          let at : slot ≡ place = cc in
          has_and _ _ element (ap (get new) (sym at) ∙ updates.changed) (sym same)
      filed_at id place found (inr differ) =
          let was : slot_of directory id ≡ Some place = sym (updated_other directory directory' element.id id (Some slot) listed differ) ∙ found in
          of_old (filed_element old content directory sound id place was)
        where
          of_old : (e : Element) × (get old place ≡ Some e) × (e.id ≡ id) → IsSomeAnd (get new place) (λ e. e.id ≡ id)
          of_old (e, there, named) =
              let elsewhere : place ≢ slot = λ same. let clash : get old place ≡ None = ap (get old) same ∙ vacant in cc in
              has_and _ _ e (updates.others place elsewhere ∙ there) named

  -- the three agree again, and the bag has the element
  pub added : slab_len new ≡ slab_len old + 1 → IsFiled new content' directory' × (bag_of new.slots ≡ map.insert (bag_of old.slots) element.id element)
  added len = (sound-insert len, bag-insert)

-- one element fewer
module _ (old new : Slab Element) (content content' : Content) (directory directory' : Directory) (slot : ℕ) (element : Element)
    (sound : IsFiled old content directory) (filled : get old slot ≡ Some element) (updates : Updates old new slot None)
    (timed : content' ≡ map.remove content slot) (unlisted : UpdatesSlot directory directory' element.id None) where
  -- what is left lay in another slot
  was : (place : ℕ) (e : Element) → get new place ≡ Some e → get old place ≡ Some e
  was place e found = elim (same_or_not place slot) [
    | inl at ↦ let vacant : get new place ≡ None = ap (get new) at ∙ updates.changed in absurd (cc)
    | inr elsewhere ↦ sym (updates.others place elsewhere) ∙ found
  ]

  distinct-remove : AreDistinct new.slots
  distinct-remove one other a b here there same = distinct old content directory sound one other a b (was one a here) (was other b there) same

  pub bag-remove : bag_of new.slots ≡ map.remove (bag_of old.slots) element.id
  bag-remove = Holds-unique new.slots _ _ (Holds-bag_of new.slots distinct-remove)
      (Holds-remove old.slots new.slots slot element (bag_of old.slots) (lying old content directory sound) updates.others (distinct old content directory sound) filled updates.changed)

  pub sound-remove : slab_len new + 1 ≡ slab_len old → IsFiled new content' directory'
  sound-remove len = record {
    timed = λ place. timed_at place (same_or_not place slot);
    listed = λ place e here. listed_at place e here;
    filed = λ id place found. filed_at id place found (same_or_not id element.id);
    counted = omega (arith, len, sound.counted, left);
  }
    where
      present : map.get (bag_of old.slots) element.id ≡ Some element
      present = (lying old content directory sound).each slot element filled

      left : map.len (bag_of new.slots) ≡ map.len (bag_of old.slots) - 1
      left = ap map.len bag-remove ∙ len-remove nat_cmp_total (bag_of old.slots) element.id
          ∙ ap (λ (o : Option Element). cond (is_some o) (map.len (bag_of old.slots) - 1) (map.len (bag_of old.slots))) present

      get_after : (place : ℕ) → map.get content' place ≡ cond (eq_by_cmp nat_cmp place slot) None (map.get content place)
      get_after place = ap (λ c. map.get c place) timed ∙ get-remove nat_cmp_total content slot place

      timed_at : (place : ℕ) → (place ≡ slot) ⊎ (place ≢ slot) → map.get content' place ≡ option_map (λ (e : Element). e.expiry) (get new place)
      timed_at place (inl at) =
          let test : eq_by_cmp nat_cmp place slot ≡ true = grind (arith, nat_tests) in
          get_after place ∙ ap (λ b. cond b None (map.get content place)) test
          ∙ sym (ap (option_map (λ (e : Element). e.expiry)) (ap (get new) at ∙ updates.changed))
      timed_at place (inr elsewhere) =
          let test : eq_by_cmp nat_cmp place slot ≡ false = grind (arith, nat_tests) in
          get_after place ∙ ap (λ b. cond b None (map.get content place)) test
          ∙ sound.timed place ∙ sym (ap (option_map (λ (e : Element). e.expiry)) (updates.others place elsewhere))

      listed_at : (place : ℕ) (e : Element) → get new place ≡ Some e → slot_of directory' e.id ≡ Some place
      listed_at place e here =
          let there = was place e here in
          let differ : e.id ≢ element.id = λ same.
          let at : place ≡ slot = distinct old content directory sound place slot e element there filled same in
          let vacant : get new place ≡ None = ap (get new) at ∙ updates.changed in cc in
          updated_other directory directory' element.id e.id None unlisted differ ∙ sound.listed place e there

      filed_at : (id place : ℕ) → slot_of directory' id ≡ Some place → (id ≡ element.id) ⊎ (id ≢ element.id) → IsSomeAnd (get new place) (λ e. e.id ≡ id)
      filed_at id place found (inl same) =
          let gone : slot_of directory' id ≡ None = ap (slot_of directory') same ∙ updated_same directory directory' element.id None unlisted in absurd (cc)
      filed_at id place found (inr differ) =
          let there : slot_of directory id ≡ Some place = sym (updated_other directory directory' element.id id None unlisted differ) ∙ found in
          of_old (filed_element old content directory sound id place there)
        where
          of_old : (e : Element) × (get old place ≡ Some e) × (e.id ≡ id) → IsSomeAnd (get new place) (λ e. e.id ≡ id)
          of_old (e, here, named) =
              let elsewhere : place ≢ slot = λ at.
              let filled_here : get old place ≡ Some element = ap (get old) at ∙ filled in
              let is : e ≡ element = cc in
              differ (sym named ∙ ap (λ (x : Element). x.id) is) in
              has_and _ _ e (updates.others place elsewhere ∙ here) named

-- more capacity changes nothing of what lies in the slots
pub sound-capacity : (old new : Slab Element) (content : Content) (directory : Directory) → IsFiled old content directory → new ≡ record old { capacity = new.capacity } → IsFiled new content directory
sound-capacity old new content directory sound same =
    subst (λ s. IsFiled s content directory) (sym same)
    (record { timed = sound.timed; listed = sound.listed; filed = sound.filed; counted = sound.counted })

pub bag-capacity : (old new : Slab Element) → new ≡ record old { capacity = new.capacity } → bag_of new.slots ≡ bag_of old.slots
bag-capacity old new same = ap (λ (s : Slab Element). bag_of s.slots) same
