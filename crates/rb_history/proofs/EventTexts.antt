-- The lines of a history are lines, and each tells one event, element or number.
use Rattle.std.proofs.Common.{◌≡◌, ◌≢◌, ℕ, ◌≤◌, Bool, true, false, Option, Some, None, List, [], ◌∷◌, ◌++◌, length, map, get_or, decimal, codes, refl, ap, arith, if◌then◌else◌}
use Rattle.std.proofs.lemmas.Fmt.{decimal_injective, decimal_nonempty}
use Rattle.std.proofs.lemmas.List.Elements.{All-head, All-tail}
use Rattle.rb_delayed.specs.Payload.{IsPayload}
use Rattle.rb_delayed.specs.declared.element.Element.{Element}
use Rattle.rb_delayed.specs.declared.element.TheConstants.{GREATEST_ATTEMPT}
use Rattle.rb_queue.specs.declared.act.Act.{Act}
use Rattle.rb_queue.specs.declared.act.Act.TheVariants.{Offer, Poll, Take, PollFor, Peek, Remove, Drain, Clear, Size}
use Rattle.rb_queue.specs.declared.event.Event.{Event}
use Rattle.rb_history.specs.EventText.{first_words, whole_element_words, given_words, act_words, event_words, header_words, keep_words, end_words}
use Rattle.rb_history.specs.OpeningReading.{numbers_words}
use Rattle.rb_history.specs.Ranges.{IsWord, AreWords, IsRightElement, IsRightGiven, IsRightAct, IsRightEvent, AreRightElements, AreRightEvents}
use Rattle.rb_history.specs.declared.version.Version.{Version}
use Rattle.rb_history.specs.declared.version.Version.TheVariants.{One, Two, Three}
use Rattle.rb_history.proofs.SameElements.{same_element}
use Rattle.rb_history.proofs.Keywords.{mark}
use Rattle.rb_history.proofs.Parts.{head_of, tail_of}
use Rattle.rb_history.proofs.WordTexts.{IsPlain, ArePlain, IsLine, AreLines, keyword_plain, number_plain, payload_plain, digit_in}

-- what a version tells of an element
abbrev pub told : Version → Element → Element
told One element = record element { first = 0 }
told Two element = record element { first = 0 }
told Three element = element

-- what a version tells of an act, and of an event
abbrev pub told_act : Version → Act → Act
told_act version (Offer element) = Offer (told version element)
told_act version act = act

abbrev pub told_event : Version → Event → Event
told_event version event = record event { act = told_act version event.act }

-- the words are plain
ending_plain : (attempt : ℕ) (payload : List ℕ) → attempt ≤ GREATEST_ATTEMPT → IsPayload payload → ArePlain (decimal attempt ∷ payload ∷ [])
ending_plain attempt payload few right = (number_plain attempt (omega arith), (payload_plain payload right, tt))

element_plain : (version : Version) (element : Element) → IsRightElement element → ArePlain (whole_element_words version element)
element_plain version e right =
    (number_plain e.id right.id, (number_plain e.expiry right.expiry, (number_plain e.origin right.origin, behind version)))
  where
    behind : (told : Version) → ArePlain (first_words told e.first ++ (decimal e.attempt ∷ e.payload ∷ []))
    behind One = ending_plain e.attempt e.payload e.attempt_in_range right.payload
    behind Two = ending_plain e.attempt e.payload e.attempt_in_range right.payload
    behind Three = (number_plain e.first right.first, ending_plain e.attempt e.payload e.attempt_in_range right.payload)

given_plain : (given : Option ℕ) → IsRightGiven given → ArePlain (given_words given)
given_plain None right = (keyword_plain (codes "none") refl, tt)
given_plain (Some id) right = (number_plain id right, tt)

ids_plain : (ids : List ℕ) → AreWords ids → ArePlain (map decimal ids)
ids_plain [] right = tt
ids_plain (id ∷ ids) right = (number_plain id right.0, ids_plain ids right.1)

found_plain : (found : Bool) → IsPlain (if found then codes "yes" else codes "no")
found_plain true = keyword_plain (codes "yes") refl
found_plain false = keyword_plain (codes "no") refl

act_plain : (version : Version) (act : Act) → IsRightAct act → ArePlain (act_words version act)
act_plain version (Offer element) right = (keyword_plain (codes "offer") refl, element_plain version element right)
act_plain version (Poll given) right = (keyword_plain (codes "poll") refl, given_plain given right)
act_plain version (Take id) right = (keyword_plain (codes "take") refl, (number_plain id right, tt))
act_plain version (PollFor start timeout given) right =
    (keyword_plain (codes "pollfor") refl, (number_plain start right.0, (number_plain timeout right.1, given_plain given right.2)))
act_plain version (Peek shown) right = (keyword_plain (codes "peek") refl, given_plain shown right)
act_plain version (Remove id found) right = (keyword_plain (codes "remove") refl, (number_plain id right, (found_plain found, tt)))
act_plain version (Drain max ids) right = (keyword_plain (codes "drain") refl, (number_plain max right.0, ids_plain ids right.1))
act_plain version Clear right = (keyword_plain (codes "clear") refl, tt)
act_plain version (Size count) right = (keyword_plain (codes "size") refl, (number_plain count right, tt))

-- so each line is one
pub event_line : (version : Version) (event : Event) → IsRightEvent event → IsLine (event_words version event)
event_line version event right =
    (number_plain event.seat right.seat, (number_plain event.asked right.asked, (number_plain event.at right.at, act_plain version event.act right.act)))

pub event_lines : (version : Version) (events : List Event) → AreRightEvents events → AreLines (map (event_words version) events)
event_lines version [] right = tt
event_lines version (event ∷ events) right =
    (event_line version event (All-head IsRightEvent event events right), event_lines version events (All-tail IsRightEvent event events right))

pub keep_line : (version : Version) (element : Element) → IsRightElement element → IsLine (keep_words version element)
keep_line version element right = (keyword_plain (codes "keep") refl, element_plain version element right)

pub keep_lines : (version : Version) (elements : List Element) → AreRightElements elements → AreLines (map (keep_words version) elements)
keep_lines version [] right = tt
keep_lines version (element ∷ elements) right =
    (keep_line version element (All-head IsRightElement element elements right), keep_lines version elements (All-tail IsRightElement element elements right))

pub numbers_line : (next_id last_at count : ℕ) → IsWord next_id → IsWord last_at → IsWord count → IsLine (numbers_words next_id last_at count)
numbers_line next_id last_at count next last few =
    (keyword_plain (codes "open") refl, (number_plain next_id next, (number_plain last_at last, (number_plain count few, tt))))

pub end_line : (count : ℕ) → IsWord count → IsLine (end_words count)
end_line count small = (keyword_plain (codes "end") refl, (number_plain count small, tt))

pub header_line : (version : Version) → IsLine (header_words version)
header_line One = (keyword_plain (codes "history") refl, (keyword_plain (codes "1") refl, tt))
header_line Two = (keyword_plain (codes "history") refl, (keyword_plain (codes "2") refl, tt))
header_line Three = (keyword_plain (codes "history") refl, (keyword_plain (codes "3") refl, tt))

-- a header tells its version
pub same_version : (version other : Version) → header_words version ≡ header_words other → version ≡ other
same_version One One is = refl
same_version Two Two is = refl
same_version Three Three is = refl
same_version version other is = absurd (omega (arith, ap (λ (words : List (List ℕ)). get_or (get_or words 1 []) 0 0) is))

-- the words tell the element, so far as the version does
element_told : (version : Version) (one other : Element) → IsRightElement one → IsRightElement other
    → whole_element_words version one ≡ whole_element_words version other → told version one ≡ told version other
element_told One one other right fits is =
    let behind = tail_of _ _ _ _ is in let rest = tail_of _ _ _ _ behind in let last = tail_of _ _ _ _ rest in
    same_element (told One one) (told One other) (decimal_injective one.id other.id right.id fits.id (head_of _ _ _ _ is))
    (decimal_injective one.expiry other.expiry right.expiry fits.expiry (head_of _ _ _ _ behind))
    (decimal_injective one.origin other.origin right.origin fits.origin (head_of _ _ _ _ rest)) refl
    (decimal_injective one.attempt other.attempt (omega arith) (omega arith) (head_of _ _ _ _ last)) (head_of _ _ _ _ (tail_of _ _ _ _ last))
element_told Two one other right fits is =
    let behind = tail_of _ _ _ _ is in let rest = tail_of _ _ _ _ behind in let last = tail_of _ _ _ _ rest in
    same_element (told Two one) (told Two other) (decimal_injective one.id other.id right.id fits.id (head_of _ _ _ _ is))
    (decimal_injective one.expiry other.expiry right.expiry fits.expiry (head_of _ _ _ _ behind))
    (decimal_injective one.origin other.origin right.origin fits.origin (head_of _ _ _ _ rest)) refl
    (decimal_injective one.attempt other.attempt (omega arith) (omega arith) (head_of _ _ _ _ last)) (head_of _ _ _ _ (tail_of _ _ _ _ last))
element_told Three one other right fits is =
    let behind = tail_of _ _ _ _ is in let rest = tail_of _ _ _ _ behind in let first = tail_of _ _ _ _ rest in
    let last = tail_of _ _ _ _ first in
    same_element one other (decimal_injective one.id other.id right.id fits.id (head_of _ _ _ _ is))
    (decimal_injective one.expiry other.expiry right.expiry fits.expiry (head_of _ _ _ _ behind))
    (decimal_injective one.origin other.origin right.origin fits.origin (head_of _ _ _ _ rest))
    (decimal_injective one.first other.first right.first fits.first (head_of _ _ _ _ first))
    (decimal_injective one.attempt other.attempt (omega arith) (omega arith) (head_of _ _ _ _ last)) (head_of _ _ _ _ (tail_of _ _ _ _ last))

-- "none" is no number
number_start : (value : ℕ) → IsWord value → get_or (decimal value) 0 0 ≤ 57
number_start value small = omega (arith, digit_in value 0 0 small (decimal_nonempty value small))

given_same : (one other : Option ℕ) → IsRightGiven one → IsRightGiven other → given_words one ≡ given_words other → one ≡ other
given_same None None right fits is = refl
given_same None (Some id) right fits is = absurd (omega (arith, ap (λ (word : List ℕ). get_or word 0 0) (head_of _ _ _ _ is), number_start id fits))
given_same (Some id) None right fits is = absurd (omega (arith, ap (λ (word : List ℕ). get_or word 0 0) (head_of _ _ _ _ is), number_start id right))
given_same (Some id) (Some other) right fits is = ap Some (decimal_injective id other right fits (head_of _ _ _ _ is))

found_same : (one other : Bool) → (if one then codes "yes" else codes "no") ≡ (if other then codes "yes" else codes "no") → one ≡ other
found_same true true is = refl
found_same true false is = absurd (omega (arith, ap length is))
found_same false true is = absurd (omega (arith, ap length is))
found_same false false is = refl

ids_same : (ids others : List ℕ) → AreWords ids → AreWords others → map decimal ids ≡ map decimal others → ids ≡ others
ids_same [] [] right fits is = refl
ids_same [] (other ∷ others) right fits is = absurd (cc)
ids_same (id ∷ ids) [] right fits is = absurd (cc)
ids_same (id ∷ ids) (other ∷ others) right fits is =
    let first = decimal_injective id other right.0 fits.0 (head_of _ _ _ _ is) in
    let more = ids_same ids others right.1 fits.1 (tail_of _ _ _ _ is) in cc

-- the words tell the act
act_told : (version : Version) (one other : Act) → IsRightAct one → IsRightAct other
    → act_words version one ≡ act_words version other → told_act version one ≡ told_act version other
act_told version (Offer one) (Offer other) right fits is = ap Offer (element_told version one other right fits (tail_of _ _ _ _ is))
act_told version (Poll one) (Poll other) right fits is = ap Poll (given_same one other right fits (tail_of _ _ _ _ is))
act_told version (Take one) (Take other) right fits is = ap Take (decimal_injective one other right fits (head_of _ _ _ _ (tail_of _ _ _ _ is)))
act_told version (PollFor start timeout given) (PollFor other limit shown) right fits is =
    let first = tail_of _ _ _ _ is in let second = tail_of _ _ _ _ first in
    let starts = decimal_injective start other right.0 fits.0 (head_of _ _ _ _ first) in
    let limits = decimal_injective timeout limit right.1 fits.1 (head_of _ _ _ _ second) in
    let ids = given_same given shown right.2 fits.2 (tail_of _ _ _ _ second) in
    λ i. PollFor (starts i) (limits i) (ids i)
act_told version (Peek one) (Peek other) right fits is = ap Peek (given_same one other right fits (tail_of _ _ _ _ is))
act_told version (Remove one found) (Remove other seen) right fits is =
    let first = tail_of _ _ _ _ is in
    let ids = decimal_injective one other right fits (head_of _ _ _ _ first) in
    let same = found_same found seen (head_of _ _ _ _ (tail_of _ _ _ _ first)) in
    λ i. Remove (ids i) (same i)
act_told version (Drain max ids) (Drain most others) right fits is =
    let first = tail_of _ _ _ _ is in
    let limits = decimal_injective max most right.0 fits.0 (head_of _ _ _ _ first) in
    let same = ids_same ids others right.1 fits.1 (tail_of _ _ _ _ first) in
    λ i. Drain (limits i) (same i)
act_told version Clear Clear right fits is = refl
act_told version (Size one) (Size other) right fits is = ap Size (decimal_injective one other right fits (head_of _ _ _ _ (tail_of _ _ _ _ is)))
act_told version one other right fits is = absurd (omega (arith, ap mark (head_of _ _ _ _ is)))

-- and the event
event_told : (version : Version) (one other : Event) → IsRightEvent one → IsRightEvent other
    → event_words version one ≡ event_words version other → told_event version one ≡ told_event version other
event_told version one other right fits is =
    let first = tail_of _ _ _ _ is in let second = tail_of _ _ _ _ first in
    let seats = decimal_injective one.seat other.seat right.seat fits.seat (head_of _ _ _ _ is) in
    let calls = decimal_injective one.asked other.asked right.asked fits.asked (head_of _ _ _ _ first) in
    let moments = decimal_injective one.at other.at right.at fits.at (head_of _ _ _ _ second) in
    let acts = act_told version one.act other.act right.act fits.act (tail_of _ _ _ _ second) in
    λ i. record { seat = seats i; asked = calls i; at = moments i; act = acts i }

pub events_told : (version : Version) (events others : List Event) → AreRightEvents events → AreRightEvents others
    → map (event_words version) events ≡ map (event_words version) others → map (told_event version) events ≡ map (told_event version) others
events_told version [] [] right fits is = refl
events_told version [] (other ∷ others) right fits is = absurd (cc)
events_told version (event ∷ events) [] right fits is = absurd (cc)
events_told version (event ∷ events) (other ∷ others) right fits is =
    let first = event_told version event other (All-head IsRightEvent event events right) (All-head IsRightEvent other others fits) (head_of _ _ _ _ is) in
    let more = events_told version events others (All-tail IsRightEvent event events right) (All-tail IsRightEvent other others fits) (tail_of _ _ _ _ is) in
    λ i. first i ∷ more i

pub keep_told : (version : Version) (one other : Element) → IsRightElement one → IsRightElement other
    → keep_words version one ≡ keep_words version other → told version one ≡ told version other
keep_told version one other right fits is = element_told version one other right fits (tail_of _ _ _ _ is)

pub keeps_told : (version : Version) (elements others : List Element) → AreRightElements elements → AreRightElements others
    → map (keep_words version) elements ≡ map (keep_words version) others → map (told version) elements ≡ map (told version) others
keeps_told version [] [] right fits is = refl
keeps_told version [] (other ∷ others) right fits is = absurd (cc)
keeps_told version (element ∷ elements) [] right fits is = absurd (cc)
keeps_told version (element ∷ elements) (other ∷ others) right fits is =
    let first = keep_told version element other (All-head IsRightElement element elements right) (All-head IsRightElement other others fits) (head_of _ _ _ _ is) in
    let more = keeps_told version elements others (All-tail IsRightElement element elements right) (All-tail IsRightElement other others fits) (tail_of _ _ _ _ is) in
    λ i. first i ∷ more i

-- a line of an event is not the last one, and the last one tells one number
pub event_no_end : (version : Version) (event : Event) (count : ℕ) → IsRightEvent event → event_words version event ≢ end_words count
event_no_end version event count right is =
    omega (arith, ap (λ (word : List ℕ). get_or word 0 0) (head_of _ _ _ _ is), number_start event.seat right.seat)

pub same_end : (one other : ℕ) → IsWord one → IsWord other → end_words one ≡ end_words other → one ≡ other
same_end one other small fits is = decimal_injective one other small fits (head_of _ _ _ _ (tail_of _ _ _ _ is))

-- The words of an opening tell its numbers.
pub record SameNumbers (next_id last_at count other_id other_at other_count : ℕ) : Type 0 where
  pub next : next_id ≡ other_id
  pub last : last_at ≡ other_at
  pub counts : count ≡ other_count

pub same_numbers : (next_id last_at count other_id other_at other_count : ℕ) → IsWord next_id → IsWord last_at → IsWord count
    → IsWord other_id → IsWord other_at → IsWord other_count → numbers_words next_id last_at count ≡ numbers_words other_id other_at other_count
    → SameNumbers next_id last_at count other_id other_at other_count
same_numbers next_id last_at count other_id other_at other_count next last few other_next other_last other_few is =
    let first = tail_of _ _ _ _ is in let second = tail_of _ _ _ _ first in
    record {
      next = decimal_injective next_id other_id next other_next (head_of _ _ _ _ first);
      last = decimal_injective last_at other_at last other_last (head_of _ _ _ _ second);
      counts = decimal_injective count other_count few other_few (head_of _ _ _ _ (tail_of _ _ _ _ second));
    }
