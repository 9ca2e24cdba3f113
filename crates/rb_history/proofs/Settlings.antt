-- The earliest expiry of each origin, with one element more.
use Rattle.std.proofs.Common.{◌≡◌, ◌≢◌, ℕ, ◌+◌, ◌<◌, ◌==◌, true, false, cond, List, [], ◌∷◌, ◌++◌, length, map, take, set, get_or, codes, decimal, append_assoc, append-nil, Some, None, refl, sym, ap, subst, ◌∙◌, arith, inl, inr, ◌⊎◌}
use Rattle.std.specs.Ordering.{nat_cmp, is_eq}
use Rattle.std.specs.BTreeMap as tree
use Rattle.std.specs.FinMap.{nat_cmp-IsAntisymmetric}
use Rattle.std.specs.declared.cmp.Ordering.{Ordering}
use Rattle.std.specs.declared.cmp.Ordering.TheVariants.{Less, Equal, Greater}
use Rattle.std.proofs.lemmas.Bool.Decides.{nat_tests}
use Rattle.std.proofs.Math.ListN.{get_or-map}
use Rattle.std.proofs.lemmas.List.{take_more_set, map-set, set-get_or}
use Rattle.std.proofs.lemmas.List.Elements.{All-push, All-set}
use Rattle.rb_delayed.specs.Payload.{IsPayload}
use Rattle.rb_delayed.specs.declared.element.Element.{Element}
use Rattle.rb_queue.proofs.Options.{same_or_not}
use Rattle.rb_queue.specs.Effect.{effect_of, inserted}
use Rattle.rb_queue.specs.Opening.{ids_of}
use Rattle.rb_queue.specs.declared.act.Act.TheVariants.{Offer}
use Rattle.rb_queue.specs.declared.event.Event.{Event}
use Rattle.rb_history.specs.EventText.{act_words, event_words, keep_words}
use Rattle.rb_history.specs.Firsts.{earliest, HaveEarliest}
use Rattle.rb_history.specs.Offers.{offers_in}
use Rattle.rb_history.specs.Ranges.{IsWord, IsRightElement, IsRightAct, IsRightEvent, AreRightElements, AreRightEvents}
use Rattle.rb_history.specs.Settling.{KnowsFirsts, IsFirst, SettlesEvent}
use Rattle.rb_history.specs.declared.version.Version.TheVariants.{One}
use Rattle.rb_history.specs.declared.firsts.Firsts.{Firsts}

same_test : (a b : ℕ) → a ≡ b → (a == b) ≡ true
same_test a b same = grind (arith, nat_tests)

other_test : (a b : ℕ) → a ≢ b → (a == b) ≡ false
other_test a b differ = grind (arith, nat_tests)

-- an origin that was met keeps its expiry, whatever comes behind
pub met_before : (known more : List Element) (origin expiry : ℕ) → earliest known origin ≡ Some expiry → earliest (known ++ more) origin ≡ Some expiry
met_before [] more origin expiry is = absurd (cc)
met_before (element ∷ known) more origin expiry is =
    (elim (element.origin == origin) as (λ b. cond b (Some element.expiry) (earliest known origin) ≡ Some expiry → cond b (Some element.expiry) (earliest (known ++ more) origin) ≡ Some expiry) [
      | true ↦ λ found. found
      | false ↦ λ later. met_before known more origin expiry later
    ]) is

-- one that was not is looked for behind
not_before : (known more : List Element) (origin : ℕ) → earliest known origin ≡ None → earliest (known ++ more) origin ≡ earliest more origin
not_before [] more origin is = refl
not_before (element ∷ known) more origin is =
    (elim (element.origin == origin) as (λ b. cond b (Some element.expiry) (earliest known origin) ≡ None → cond b (Some element.expiry) (earliest (known ++ more) origin) ≡ earliest more origin) [
      | true ↦ λ found. absurd (cc)
      | false ↦ λ later. not_before known more origin later
    ]) is

-- an element tells nothing of another origin
other_origin : (known : List Element) (element : Element) (origin : ℕ) → element.origin ≢ origin → earliest (known ++ element ∷ []) origin ≡ earliest known origin
other_origin [] element origin differ = ap (λ b. cond b (Some element.expiry) None) (other_test element.origin origin differ)
other_origin (first ∷ known) element origin differ = ap (cond (first.origin == origin) (Some first.expiry)) (other_origin known element origin differ)

-- the first of its origin is the earliest
first_met : (known : List Element) (element : Element) → earliest known element.origin ≡ None → earliest (known ++ element ∷ []) element.origin ≡ Some element.expiry
first_met known element none =
    not_before known (element ∷ []) element.origin none ∙ ap (λ b. cond b (Some element.expiry) None) (same_test element.origin element.origin refl)

-- the first expiry of an element is not looked at
pub alike : (known : List Element) (one other : Element) → one.origin ≡ other.origin → one.expiry ≡ other.expiry → (origin : ℕ)
    → earliest (known ++ one ∷ []) origin ≡ earliest (known ++ other ∷ []) origin
alike [] one other origins expiries origin = λ i. cond (origins i == origin) (Some (expiries i)) None
alike (first ∷ known) one other origins expiries origin = ap (cond (first.origin == origin) (Some first.expiry)) (alike known one other origins expiries origin)

not_at : (k q : ℕ) → k ≢ q → tree.is_at (nat_cmp k) q ≡ false
not_at k q differ = by_order (nat_cmp k q) refl
  where
    by_order : (order : Ordering) → nat_cmp k q ≡ order → is_eq order ≡ false
    by_order Less is = refl
    by_order Equal is = absurd (differ (nat_cmp-IsAntisymmetric k q is))
    by_order Greater is = refl

-- an element whose origin is known
pub is_first_known : (old : Firsts) (element : Element) (first : ℕ) → IsWord first → tree.get nat_cmp old.expiries element.origin ≡ Some first → IsFirst old element old first
is_first_known old element first small found = record {
  small = small;
  knows = λ known knows. record { each = λ origin. at known knows origin (same_or_not element.origin origin) };
  is_first = λ known knows. met_before known (element ∷ []) element.origin first (sym (knows.each element.origin) ∙ found);
}
  where
    at : (known : List Element) → KnowsFirsts old known → (origin : ℕ) → (element.origin ≡ origin) ⊎ (element.origin ≢ origin) → tree.get nat_cmp old.expiries origin ≡ earliest (known ++ element ∷ []) origin
    at known knows origin (inl same) =
        subst (λ o. tree.get nat_cmp old.expiries o ≡ earliest (known ++ element ∷ []) o) same
        (found ∙ sym (met_before known (element ∷ []) element.origin first (sym (knows.each element.origin) ∙ found)))
    at known knows origin (inr differ) = knows.each origin ∙ sym (other_origin known element origin differ)

-- an element of a new origin
pub is_first_new : (old new : Firsts) (element : Element) → IsWord element.expiry → tree.get nat_cmp old.expiries element.origin ≡ None
    → tree.get nat_cmp new.expiries element.origin ≡ Some element.expiry
    → ((origin : ℕ) → tree.is_at (nat_cmp element.origin) origin ≡ false → tree.get nat_cmp new.expiries origin ≡ tree.get nat_cmp old.expiries origin)
    → IsFirst old element new element.expiry
is_first_new old new element small none here others = record {
  small = small;
  knows = λ known knows. record { each = λ origin. at known knows origin (same_or_not element.origin origin) };
  is_first = λ known knows. first_met known element (sym (knows.each element.origin) ∙ none);
}
  where
    at : (known : List Element) → KnowsFirsts old known → (origin : ℕ) → (element.origin ≡ origin) ⊎ (element.origin ≢ origin) → tree.get nat_cmp new.expiries origin ≡ earliest (known ++ element ∷ []) origin
    at known knows origin (inl same) =
        subst (λ o. tree.get nat_cmp new.expiries o ≡ earliest (known ++ element ∷ []) o) same
        (here ∙ sym (first_met known element (sym (knows.each element.origin) ∙ none)))
    at known knows origin (inr differ) = others origin (not_at element.origin origin differ) ∙ knows.each origin ∙ sym (other_origin known element origin differ)

-- one element more, with the expiry of the earliest
pub have_more : (known : List Element) (element : Element) → HaveEarliest known → earliest (known ++ element ∷ []) element.origin ≡ Some element.first → HaveEarliest (known ++ element ∷ [])
have_more known element have is =
    All-push (λ (e : Element). earliest (known ++ element ∷ []) e.origin ≡ Some e.first) known element
    (λ k d within. met_before known (element ∷ []) _ _ (have k d within)) is

-- an element that differs in its first expiry alone is known in the other's place
pub knows_alike : (firsts : Firsts) (known : List Element) (one other : Element) → one.origin ≡ other.origin → one.expiry ≡ other.expiry
    → KnowsFirsts firsts (known ++ one ∷ []) → KnowsFirsts firsts (known ++ other ∷ [])
knows_alike firsts known one other origins expiries knows = record { each = λ origin. knows.each origin ∙ alike known one other origins expiries origin }

pub have_alike : (known : List Element) (one other : Element) → one.origin ≡ other.origin → one.expiry ≡ other.expiry → HaveEarliest known
    → earliest (known ++ one ∷ []) one.origin ≡ Some other.first → HaveEarliest (known ++ other ∷ [])
have_alike known one other origins expiries have is =
    have_more known other have (sym (alike known one other origins expiries other.origin) ∙ ap (earliest (known ++ one ∷ [])) (sym origins) ∙ is)

-- an offer's event, with the first expiry of its element
pub event_settled : (before after : Firsts) (old new : Event) (element settled : Element) → old.act ≡ Offer element → new.act ≡ Offer settled
    → new.seat ≡ old.seat → new.asked ≡ old.asked → new.at ≡ old.at → settled.id ≡ element.id → settled.expiry ≡ element.expiry → settled.origin ≡ element.origin
    → settled.attempt ≡ element.attempt → settled.payload ≡ element.payload → IsFirst before element after settled.first → SettlesEvent before old after new
event_settled before after old new element settled old_is new_is seat asked at id expiry origin attempt payload first = record {
  words = λ i. decimal (seat i) ∷ decimal (asked i) ∷ decimal (at i) ∷ acts i;
  right = λ right. let of_element : IsRightElement element = subst IsRightAct old_is right.act in record {
    seat = subst IsWord (sym seat) right.seat;
    asked = subst IsWord (sym asked) right.asked;
    at = subst IsWord (sym at) right.at;
    act = subst IsRightAct (sym new_is) (record {
      id = subst IsWord (sym id) of_element.id;
      expiry = subst IsWord (sym expiry) of_element.expiry;
      origin = subst IsWord (sym origin) of_element.origin;
      first = first.small;
      payload = subst IsPayload (sym payload) of_element.payload;
    });
  };
  knows = λ known knows. subst (λ act. KnowsFirsts after (known ++ inserted (effect_of act))) (sym new_is)
      (knows_alike after known element settled (sym origin) (sym expiry) (first.knows known knows));
  firsts = λ known knows have. subst (λ act. HaveEarliest (known ++ inserted (effect_of act))) (sym new_is)
      (have_alike known element settled (sym origin) (sym expiry) have (first.is_first known knows));
}
  where
    acts : act_words One new.act ≡ act_words One old.act
    acts =
        ap (act_words One) new_is
        ∙ (λ i. codes "offer" ∷ decimal (id i) ∷ decimal (expiry i) ∷ decimal (origin i) ∷ decimal (attempt i) ∷ payload i ∷ [])
        ∙ ap (act_words One) (sym old_is)

-- a change of an element that a function does not look at
words_stay : {X Y : Type 0} (f : X → Y) (xs : List X) (index : ℕ) (old new : X) → old ≡ get_or xs index old → f new ≡ f old → map f (set xs index new) ≡ map f xs
words_stay f xs index old new is same =
    map-set f xs index new
    ∙ ap (set (map f xs) index) (same ∙ ap f is ∙ sym (get_or-map f xs index old))
    ∙ set-get_or (map f xs) index (f old)

-- the offers of events and of others behind them
pub offers_in-append : (events more : List Event) → offers_in (events ++ more) ≡ offers_in events ++ offers_in more
offers_in-append [] more = refl
offers_in-append (event ∷ events) more =
    ap (λ offers. inserted (effect_of event.act) ++ offers) (offers_in-append events more)
    ∙ sym (append_assoc (inserted (effect_of event.act)) (offers_in events) (offers_in more))

-- what is known of the elements, of which the first are settled
pub record ElementsSettled (old : List Element) (now : Firsts) (new : List Element) (index : ℕ) : Type 0 where
  pub words : map (keep_words One) new ≡ map (keep_words One) old
  pub ids : ids_of new ≡ ids_of old
  pub right : AreRightElements old → AreRightElements new
  pub knows : KnowsFirsts now (take index new)
  pub firsts : HaveEarliest (take index new)

-- one element more
pub elements_more : (old new : List Element) (before after : Firsts) (index : ℕ) (element settled : Element) → ElementsSettled old before new index → index < length new
    → element ≡ get_or new index element → settled.id ≡ element.id → settled.expiry ≡ element.expiry → settled.origin ≡ element.origin
    → settled.attempt ≡ element.attempt → settled.payload ≡ element.payload → IsFirst before element after settled.first
    → ElementsSettled old after (set new index settled) (index + 1)
elements_more old new before after index element settled so_far within is id expiry origin attempt payload first = record {
  words = words_stay (keep_words One) new index element settled is
      (λ i. codes "keep" ∷ decimal (id i) ∷ decimal (expiry i) ∷ decimal (origin i) ∷ decimal (attempt i) ∷ payload i ∷ []) ∙ so_far.words;
  ids = words_stay (λ (e : Element). e.id) new index element settled is id ∙ so_far.ids;
  right = λ right.
      let all = so_far.right right in
      let of_element : IsRightElement element = subst IsRightElement (sym is) (all index element within) in
      All-set IsRightElement new index settled (record {
        id = subst IsWord (sym id) of_element.id;
        expiry = subst IsWord (sym expiry) of_element.expiry;
        origin = subst IsWord (sym origin) of_element.origin;
        first = first.small;
        payload = subst IsPayload (sym payload) of_element.payload;
      }) all;
  knows = subst (KnowsFirsts after) (sym (take_more_set new index settled within))
      (knows_alike after (take index new) element settled (sym origin) (sym expiry) (first.knows (take index new) so_far.knows));
  firsts = subst HaveEarliest (sym (take_more_set new index settled within))
      (have_alike (take index new) element settled (sym origin) (sym expiry) so_far.firsts (first.is_first (take index new) so_far.knows));
}

-- what is known of the events, of which the first are settled
pub record EventsSettled (before : Firsts) (old : List Event) (now : Firsts) (new : List Event) (index : ℕ) : Type 0 where
  pub words : map (event_words One) new ≡ map (event_words One) old
  pub right : AreRightEvents old → AreRightEvents new
  pub knows : (known : List Element) → KnowsFirsts before known → KnowsFirsts now (known ++ offers_in (take index new))
  pub firsts : (known : List Element) → KnowsFirsts before known → HaveEarliest known → HaveEarliest (known ++ offers_in (take index new))

-- one event more
pub events_more : (before now after : Firsts) (old new : List Event) (index : ℕ) (event settled : Event) → EventsSettled before old now new index → index < length new
    → event ≡ get_or new index event → SettlesEvent now event after settled → EventsSettled before old after (set new index settled) (index + 1)
events_more before now after old new index event settled so_far within is settles = record {
  words = words_stay (event_words One) new index event settled is settles.words ∙ so_far.words;
  right = λ right.
      let all = so_far.right right in
      All-set IsRightEvent new index settled (settles.right (subst IsRightEvent (sym is) (all index event within))) all;
  knows = λ known knows. subst (KnowsFirsts after) (sym (more known)) (settles.knows (known ++ offers_in (take index new)) (so_far.knows known knows));
  firsts = λ known knows have.
      subst HaveEarliest (sym (more known)) (settles.firsts (known ++ offers_in (take index new)) (so_far.knows known knows) (so_far.firsts known knows have));
}
  where
    more : (known : List Element) → known ++ offers_in (take (index + 1) (set new index settled)) ≡ (known ++ offers_in (take index new)) ++ inserted (effect_of settled.act)
    more known =
        ap (λ events. known ++ offers_in events) (take_more_set new index settled within)
        ∙ ap (λ offers. known ++ offers) (offers_in-append (take index new) (settled ∷ []) ∙ ap (λ offers. offers_in (take index new) ++ offers) (append-nil (inserted (effect_of settled.act))))
        ∙ sym (append_assoc known (offers_in (take index new)) (inserted (effect_of settled.act)))
