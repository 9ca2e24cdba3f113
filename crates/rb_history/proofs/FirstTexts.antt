-- First expiries that follow from the lines are the same where the lines are.
use Rattle.std.proofs.Common.{◌≡◌, ℕ, ◌==◌, cond, Some, List, [], ◌∷◌, ◌++◌, All, map, refl, sym, ap, ◌∙◌}
use Rattle.std.proofs.lemmas.List.{map-append}
use Rattle.std.proofs.lemmas.List.Elements.{All-head, All-tail}
use Rattle.rb_delayed.specs.declared.element.Element.{Element}
use Rattle.rb_queue.specs.Effect.{effect_of, inserted}
use Rattle.rb_queue.specs.declared.act.Act.{Act}
use Rattle.rb_queue.specs.declared.act.Act.TheVariants.{Offer}
use Rattle.rb_queue.specs.declared.event.Event.{Event}
use Rattle.rb_history.specs.Firsts.{earliest, HaveEarliest, FirstsFollow}
use Rattle.rb_history.specs.Offers.{offers_in}
use Rattle.rb_history.specs.declared.version.Version.{Version}
use Rattle.rb_history.specs.declared.version.Version.TheVariants.{One, Two, Three}
use Rattle.rb_history.proofs.SameElements.{same_element}
use Rattle.rb_history.proofs.EventTexts.{told, told_act, told_event}
use Rattle.rb_history.proofs.Parts.{head_of, tail_of, same_parts, same_length}

-- an element without its first expiry
abbrev bare : Element → Element
bare element = record element { first = 0 }

-- the earliest expiry doesn't look at the first ones
earliest_bare : (elements : List Element) (origin : ℕ) → earliest (map bare elements) origin ≡ earliest elements origin
earliest_bare [] origin = refl
earliest_bare (element ∷ elements) origin =
    ap (λ later. cond (element.origin == origin) (Some element.expiry) later) (earliest_bare elements origin)

-- elements whose first expiries are the earliest are known by the rest of them
known_by_earliest : (all others elements behind : List Element) → ((origin : ℕ) → earliest all origin ≡ earliest others origin)
    → All (λ (element : Element). earliest all element.origin ≡ Some element.first) elements
    → All (λ (element : Element). earliest others element.origin ≡ Some element.first) behind
    → map bare elements ≡ map bare behind → elements ≡ behind
known_by_earliest all others [] [] same have has is = refl
known_by_earliest all others [] (other ∷ behind) same have has is = absurd (cc)
known_by_earliest all others (element ∷ elements) [] same have has is = absurd (cc)
known_by_earliest all others (element ∷ elements) (other ∷ behind) same have has is =
    let first = head_of _ _ _ _ is in
    let told : earliest all element.origin ≡ Some element.first = All-head (λ (e : Element). earliest all e.origin ≡ Some e.first) element elements have in
    let tells : earliest others other.origin ≡ Some other.first = All-head (λ (e : Element). earliest others e.origin ≡ Some e.first) other behind has in
    let origins : element.origin ≡ other.origin = ap (λ (e : Element). e.origin) first in
    let both : Some element.first ≡ Some other.first = sym told ∙ same element.origin ∙ ap (earliest others) origins ∙ tells in
    let firsts : element.first ≡ other.first = cc (both) in
    let here : element ≡ other = same_element element other (ap (λ (e : Element). e.id) first) (ap (λ (e : Element). e.expiry) first) origins firsts
    (ap (λ (e : Element). e.attempt) first) (ap (λ (e : Element). e.payload) first) in
    let more = known_by_earliest all others elements behind same (All-tail (λ (e : Element). earliest all e.origin ≡ Some e.first) element elements have)
    (All-tail (λ (e : Element). earliest others e.origin ≡ Some e.first) other behind has) (tail_of _ _ _ _ is) in
    λ i. here i ∷ more i

same_by_earliest : (elements others : List Element) → HaveEarliest elements → HaveEarliest others → map bare elements ≡ map bare others → elements ≡ others
same_by_earliest elements others have has is =
    known_by_earliest elements others elements others
    (λ origin. sym (earliest_bare elements origin) ∙ ap (λ bares. earliest bares origin) is ∙ earliest_bare others origin) have has is

-- what an act offered, so far as it is told
act_offers : (version : Version) (act : Act) → inserted (effect_of (told_act version act)) ≡ map (told version) (inserted (effect_of act))
act_offers version (Offer element) = refl
act_offers version act = refl

told_offers : (version : Version) (events : List Event) → offers_in (map (told_event version) events) ≡ map (told version) (offers_in events)
told_offers version [] = refl
told_offers version (event ∷ events) =
    (λ i. act_offers version event.act i ++ told_offers version events i)
    ∙ sym (map-append (told version) (inserted (effect_of event.act)) (offers_in events))

-- an act that is told, with what it offered, is the act
abbrev offering : Act → List Element → Act
offering (Offer element) (whole ∷ elements) = Offer whole
offering act elements = act

told_offering : (version : Version) (act : Act) → offering (told_act version act) (inserted (effect_of act)) ≡ act
told_offering version (Offer element) = refl
told_offering version act = refl

-- events that are told, with what they offered, are the events
same_by_offers : (version : Version) (events others : List Event) → map (told_event version) events ≡ map (told_event version) others
    → offers_in events ≡ offers_in others → events ≡ others
same_by_offers version [] [] is offers = refl
same_by_offers version [] (other ∷ others) is offers = absurd (cc)
same_by_offers version (event ∷ events) [] is offers = absurd (cc)
same_by_offers version (event ∷ events) (other ∷ others) is offers =
    let first = head_of _ _ _ _ is in
    let acts : told_act version event.act ≡ told_act version other.act = ap (λ (e : Event). e.act) first in
    let images : map (told version) (inserted (effect_of event.act)) ≡ map (told version) (inserted (effect_of other.act)) =
    sym (act_offers version event.act) ∙ ap (λ act. inserted (effect_of act)) acts ∙ act_offers version other.act in
    let parts = same_parts (inserted (effect_of event.act)) (inserted (effect_of other.act)) (offers_in events) (offers_in others)
    (same_length (told version) _ _ images) offers in
    let act : event.act ≡ other.act = sym (told_offering version event.act) ∙ (λ i. offering (acts i) (parts.0 i)) ∙ told_offering version other.act in
    let more = same_by_offers version events others (tail_of _ _ _ _ is) parts.1 in
    let seat : event.seat ≡ other.seat = ap (λ (e : Event). e.seat) first in
    let asked : event.asked ≡ other.asked = ap (λ (e : Event). e.asked) first in
    let at : event.at ≡ other.at = ap (λ (e : Event). e.at) first in
    λ i. record { seat = seat i; asked = asked i; at = at i; act = act i } ∷ more i

-- what was kept and what happened, where the lines are the same and the first expiries follow
same_bare : (version : Version) (kept held : List Element) (events others : List Event)
    → ((elements : List Element) → map (told version) elements ≡ map bare elements)
    → HaveEarliest (kept ++ offers_in events) → HaveEarliest (held ++ offers_in others)
    → map (told version) kept ≡ map (told version) held → map (told_event version) events ≡ map (told_event version) others
    → (kept ≡ held) × (events ≡ others)
same_bare version kept held events others barely have has keeps is =
    let offers : map (told version) (offers_in events) ≡ map (told version) (offers_in others) =
    sym (told_offers version events) ∙ ap offers_in is ∙ told_offers version others in
    let images : map (told version) (kept ++ offers_in events) ≡ map (told version) (held ++ offers_in others) =
    map-append (told version) kept (offers_in events) ∙ (λ i. keeps i ++ offers i) ∙ sym (map-append (told version) held (offers_in others)) in
    let all = same_by_earliest (kept ++ offers_in events) (held ++ offers_in others) have has (sym (barely _) ∙ images ∙ barely _) in
    let parts = same_parts kept held (offers_in events) (offers_in others) (same_length (told version) kept held keeps) all in
    (parts.0, same_by_offers version events others is parts.1)

-- the third version tells all
all_told : (elements : List Element) → map (told Three) elements ≡ elements
all_told [] = refl
all_told (element ∷ elements) = ap (λ more. element ∷ more) (all_told elements)

act_all_told : (act : Act) → told_act Three act ≡ act
act_all_told (Offer element) = refl
act_all_told act = refl

events_all_told : (events : List Event) → map (told_event Three) events ≡ events
events_all_told [] = refl
events_all_told (event ∷ events) = λ i. record event { act = act_all_told event.act i } ∷ events_all_told events i

pub same_told : (version : Version) (kept held : List Element) (events others : List Event) → FirstsFollow version kept events → FirstsFollow version held others
    → map (told version) kept ≡ map (told version) held → map (told_event version) events ≡ map (told_event version) others
    → (kept ≡ held) × (events ≡ others)
same_told One kept held events others have has keeps is = same_bare One kept held events others (λ elements. refl) have has keeps is
same_told Two kept held events others have has keeps is = same_bare Two kept held events others (λ elements. refl) have has keeps is
same_told Three kept held events others have has keeps is =
    (sym (all_told kept) ∙ keeps ∙ all_told held, sym (events_all_told events) ∙ is ∙ events_all_told others)
