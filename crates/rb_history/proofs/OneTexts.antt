-- No text is of two histories, nor of one in two versions.
use Rattle.std.proofs.Common.{◌≡◌, ℕ, ◌≤◌, List, [], ◌∷◌, ◌++◌, length, map, sym, ap, subst, ◌∙◌, arith, length-append}
use Rattle.std.proofs.lemmas.List.{length-map}
use Rattle.std.proofs.Props.{props}
use mathlib.Core.HLevel.{Σ_prop_path}
use Rattle.rb_delayed.specs.declared.element.Element.{Element}
use Rattle.rb_queue.specs.Opening.{IsOpening}
use Rattle.rb_queue.specs.declared.event.Event.{Event}
use Rattle.rb_queue.specs.declared.opening.Opening.{Opening}
use Rattle.rb_history.specs.EventText.{event_words, open_words, keep_words, end_words}
use Rattle.rb_history.specs.HistoryText.{opening_lines, history_lines}
use Rattle.rb_history.specs.Ranges.{IsRightOpening, AreRightEvents}
use Rattle.rb_history.specs.Readings.{IsTextIn, MayBegin, NoTextOfTwo, OneTextEach}
use Rattle.rb_history.specs.declared.version.Version.{Version}
use Rattle.rb_history.specs.declared.version.Version.TheVariants.{One, Two, Three}
use Rattle.rb_history.specs.declared.write.TheConstants.{MOST_EVENTS}
use Rattle.rb_history.proofs.EventTexts.{event_lines, keep_lines, numbers_line, end_line, header_line, same_version, events_told, keeps_told, told, told_event, SameNumbers, same_numbers}
use Rattle.rb_history.proofs.FirstTexts.{same_told}
use Rattle.rb_history.proofs.Parts.{head_of, tail_of, same_parts}
use Rattle.rb_history.proofs.WordTexts.{AreLines, same_lines, lines-append}

-- the lines of events, and the last one
abbrev pub event_texts : Version → List Event → List (List (List ℕ))
event_texts version events = map (event_words version) events ++ (end_words (length events) ∷ [])

pub events_are_lines : (version : Version) (events : List Event) → AreRightEvents events → length events ≤ MOST_EVENTS → AreLines (event_texts version events)
events_are_lines version events right few =
    lines-append (map (event_words version) events) (end_words (length events) ∷ []) (event_lines version events right) (end_line (length events) (omega arith), tt)

pub open_are_lines : (version : Version) (opening : Opening) → IsRightOpening opening → AreLines (open_words opening ∷ map (keep_words version) opening.elements)
open_are_lines version opening right =
    let few = opening.opening.few in
    let next = opening.opening.next in (
      numbers_line opening.next_id opening.last_at (length opening.elements) (omega arith) right.last_at (omega arith),
      keep_lines version opening.elements right.elements,
    )

pub opening_are_lines : (version : Version) (opening : Opening) → IsRightOpening opening → AreLines (opening_lines version opening)
opening_are_lines One opening right = tt
opening_are_lines Two opening right = open_are_lines Two opening right
opening_are_lines Three opening right = open_are_lines Three opening right

pub history_are_lines : (version : Version) (opening : Opening) (events : List Event) → IsRightOpening opening → AreRightEvents events → length events ≤ MOST_EVENTS
    → AreLines (history_lines version opening events)
history_are_lines version opening events right fits few = (
  header_line version,
  lines-append (opening_lines version opening) (event_texts version events) (opening_are_lines version opening right)
      (events_are_lines version events fits few),
)

-- openings with the same parts are one
pub same_opening : (one other : Opening) → one.elements ≡ other.elements → one.next_id ≡ other.next_id → one.last_at ≡ other.last_at → one ≡ other
same_opening one other elements next last =
    let both : ◌≡◌ {A = List Element × ℕ} (one.elements, one.next_id) (other.elements, other.next_id) = λ i. (elements i, next i) in
    let pairs : ◌≡◌ {A = (parts : List Element × ℕ) × IsOpening parts.0 parts.1} ((one.elements, one.next_id), one.opening) ((other.elements, other.next_id), other.opening) =
    Σ_prop_path (λ (parts : List Element × ℕ). hlevel props) both in
    λ i. record { elements = (pairs i).0.0; next_id = (pairs i).0.1; last_at = last i; opening = (pairs i).1 }

-- the lines of events tell them
same_event_texts : (version : Version) (events others : List Event) → AreRightEvents events → AreRightEvents others
    → event_texts version events ≡ event_texts version others → map (told_event version) events ≡ map (told_event version) others
same_event_texts version events others right fits is =
    let lengths : length (map (event_words version) events) ≡ length (map (event_words version) others) =
    omega (
      arith,
      ap length is,
      length-append (map (event_words version) events) (end_words (length events) ∷ []),
      length-append (map (event_words version) others) (end_words (length others) ∷ []),
    ) in
    events_told version events others right fits
    (same_parts (map (event_words version) events) (map (event_words version) others) (end_words (length events) ∷ []) (end_words (length others) ∷ []) lengths is).0

-- What the lines of an opening and of events tell.
record SameLines (version : Version) (opening second : Opening) (events others : List Event) : Type 0 where
  next : opening.next_id ≡ second.next_id
  last : opening.last_at ≡ second.last_at
  kept : map (told version) opening.elements ≡ map (told version) second.elements
  happened : map (told_event version) events ≡ map (told_event version) others

pub same_numbers_of : (opening second : Opening) → IsRightOpening opening → IsRightOpening second → open_words opening ≡ open_words second
    → SameNumbers opening.next_id opening.last_at (length opening.elements) second.next_id second.last_at (length second.elements)
same_numbers_of opening second right fits is =
    let few = opening.opening.few in
    let next = opening.opening.next in
    let small = second.opening.few in
    let low = second.opening.next in
    same_numbers opening.next_id opening.last_at (length opening.elements) second.next_id second.last_at (length second.elements)
    (omega arith) right.last_at (omega arith) (omega arith) fits.last_at (omega arith) is

same_open_texts : (version : Version) (opening second : Opening) (events others : List Event) → IsRightOpening opening → AreRightEvents events
    → IsRightOpening second → AreRightEvents others
    → (open_words opening ∷ map (keep_words version) opening.elements) ++ event_texts version events
    ≡ (open_words second ∷ map (keep_words version) second.elements) ++ event_texts version others
    → SameLines version opening second events others
same_open_texts version opening second events others right fits suits serves is =
    let numbers = same_numbers_of opening second right suits (head_of _ _ _ _ is) in
    let lengths = length-map opening.elements (keep_words version) ∙ numbers.counts ∙ sym (length-map second.elements (keep_words version)) in
    let parts = same_parts (map (keep_words version) opening.elements) (map (keep_words version) second.elements) (event_texts version events)
    (event_texts version others) lengths (tail_of _ _ _ _ is) in
    record {
      next = numbers.next;
      last = numbers.last;
      kept = keeps_told version opening.elements second.elements right.elements suits.elements parts.0;
      happened = same_event_texts version events others fits serves parts.1;
    }

same_texts : (version : Version) (opening second : Opening) (events others : List Event) → IsRightOpening opening → AreRightEvents events
    → IsRightOpening second → AreRightEvents others → MayBegin version opening → MayBegin version second
    → opening_lines version opening ++ event_texts version events ≡ opening_lines version second ++ event_texts version others
    → SameLines version opening second events others
same_texts One opening second events others right fits suits serves begins starts is = record {
  next = begins.1 ∙ sym starts.1;
  last = begins.2 ∙ sym starts.2;
  kept = ap (map (told One)) (begins.0 ∙ sym starts.0);
  happened = same_event_texts One events others fits serves is;
}
same_texts Two opening second events others right fits suits serves begins starts is = same_open_texts Two opening second events others right fits suits serves is
same_texts Three opening second events others right fits suits serves begins starts is = same_open_texts Three opening second events others right fits suits serves is

-- in one version
same_history : (version : Version) (opening second : Opening) (events others : List Event) (text : List ℕ) → IsRightOpening opening → AreRightEvents events
    → IsRightOpening second → AreRightEvents others → IsTextIn version opening events text → IsTextIn version second others text
    → opening_lines version opening ++ event_texts version events ≡ opening_lines version second ++ event_texts version others
    → (opening ≡ second) × (events ≡ others)
same_history version opening second events others text right fits suits serves one two is =
    let same = same_texts version opening second events others right fits suits serves one.begins two.begins is in
    let both = same_told version opening.elements second.elements events others one.firsts two.firsts same.kept same.happened in
    (same_opening opening second both.0 same.next same.last, both.1)

pub no_text_of_two : NoTextOfTwo
no_text_of_two version other opening second events others text right fits suits serves one two =
    let lines : history_lines version opening events ≡ history_lines other second others =
    same_lines (history_lines version opening events) (history_lines other second others) (history_are_lines version opening events right fits one.few)
    (history_are_lines other second others suits serves two.few) (sym one.text_is ∙ two.text_is) in
    let versions : version ≡ other = same_version version other (head_of _ _ _ _ lines) in
    let in_one : IsTextIn version second others text = subst (λ v. IsTextIn v second others text) (sym versions) two in
    let behind = tail_of _ _ _ _ lines ∙ ap (λ v. opening_lines v second ++ event_texts v others) (sym versions) in
    let same = same_history version opening second events others text right fits suits serves one in_one behind in
    (versions, same.0, same.1)

pub one_text_each : OneTextEach
one_text_each version opening events text other one two = one.text_is ∙ sym two.text_is
