-- A text has one fault at most.
use Rattle.std.proofs.Common.{◌≡◌, ◌≢◌, ℕ, ◌+◌, ◌<◌, ◌≤◌, ◌⊎◌, inl, inr, ⊎_elim, List, [], ◌∷◌, ◌++◌, length, map, refl, sym, ap, subst, ◌∙◌, arith, append_assoc, append-nil, length-append}
use Rattle.std.proofs.lemmas.Bool.{cases_lt}
use Rattle.std.proofs.lemmas.List.{length-map}
use Rattle.std.proofs.lemmas.List.Elements.{All-head, All-tail}
use Rattle.rb_delayed.specs.declared.element.Element.{Element}
use Rattle.rb_queue.specs.Opening.{AreInOrder}
use Rattle.rb_queue.specs.declared.event.Event.{Event}
use Rattle.rb_queue.specs.declared.opening.Opening.{Opening}
use Rattle.rb_queue.specs.declared.opening.TheConstants.{GREATEST_OPENING_ID, MOST_OPENING_ELEMENTS}
use Rattle.rb_history.specs.EventText.{event_words, header_words, open_words, keep_words, end_words}
use Rattle.rb_protocol.specs.Line.{HasNoLineFeed}
use Rattle.rb_history.specs.HistoryText.{line_text, lines_text, opening_lines}
use Rattle.rb_history.specs.OpeningReading.{numbers_words}
use Rattle.rb_history.specs.Ranges.{IsWord, IsRightEvent, AreRightElements, AreRightEvents}
use Rattle.rb_history.specs.Readings.{OneFault}
use Rattle.rb_history.specs.TextFaults.{HasOtherLine, NextFault, EventsFault, HasOtherOpen, HasOtherKeep, OpenFault, KeepFault, FaultBehind, BodyFault}
use Rattle.rb_history.specs.declared.text_fault.TextReason.{TextReason}
use Rattle.rb_history.specs.declared.text_fault.TextReason.TheVariants as reasons
use Rattle.rb_history.specs.declared.text_fault.TextReason.TheVariants.{Header, Line, Many, Count, Trailing, End}
use Rattle.rb_history.specs.declared.version.Version.{Version}
use Rattle.rb_history.specs.declared.version.Version.TheVariants.{One, Two, Three}
use Rattle.rb_history.proofs.EventTexts.{SameNumbers, event_line, event_lines, event_no_end, same_end, end_line, header_line, keep_lines, numbers_line, same_version, same_numbers}
use Rattle.rb_history.proofs.FaultlessTexts.{line_has_feed, no_fault_at_event, no_fault_at_numbers, no_fault_at_keep, stands_keep, order_of_first}
use Rattle.rb_history.proofs.Parts.{head_of, tail_of}
use Rattle.rb_history.proofs.WordTexts.{lines_before, same_first_line, words_of_first, feed_in}

-- the next line is of one kind
stops_or_other : (version : Version) (text : List ℕ) → HasNoLineFeed text → HasOtherLine version text → ⊥
stops_or_other version text lacks other = feed_in other.line other.behind (subst HasNoLineFeed other.split lacks)

stops_or_words : (words : List (List ℕ)) (text after : List ℕ) → HasNoLineFeed text → text ≡ line_text words ++ after → ⊥
stops_or_words words text after lacks is = line_has_feed words after (subst HasNoLineFeed is lacks)

other_or_event : (version : Version) (event : Event) (text after : List ℕ) → HasOtherLine version text → IsRightEvent event
    → text ≡ line_text (event_words version event) ++ after → ⊥
other_or_event version event text after other right is =
    other.no_event event right
    (words_of_first (event_words version event) after other.line other.behind (event_line version event right) other.whole (sym is ∙ other.split))

other_or_end : (version : Version) (count : ℕ) (text after : List ℕ) → HasOtherLine version text → IsWord count
    → text ≡ line_text (end_words count) ++ after → ⊥
other_or_end version count text after other small is =
    other.no_end count small (words_of_first (end_words count) after other.line other.behind (end_line count small) other.whole (sym is ∙ other.split))

event_or_end : (version : Version) (event : Event) (count : ℕ) (text after rest : List ℕ) → IsRightEvent event → IsWord count
    → text ≡ line_text (event_words version event) ++ after → text ≡ line_text (end_words count) ++ rest → ⊥
event_or_end version event count text after rest right small is ends =
    event_no_end version event count right
    (same_first_line (event_words version event) (end_words count) after rest (event_line version event right) (end_line count small) (sym is ∙ ends)).0

end_or_other_end : (count number : ℕ) (text after rest : List ℕ) → IsWord count → IsWord number → number ≢ count
    → text ≡ line_text (end_words count) ++ after → text ≡ line_text (end_words number) ++ rest → ⊥
end_or_other_end count number text after rest small fits other is ends =
    other (same_end number count fits small
    (same_first_line (end_words number) (end_words count) rest after (end_line number fits) (end_line count small) (sym ends ∙ is)).0)

-- the next line has faults of one reason
apart : (version : Version) (count here : ℕ) (text : List ℕ) (line other : ℕ) (reason cause : TextReason) → IsWord count
    → NextFault version count here text line reason → NextFault version count here text other cause → reason ≡ cause
apart version count here text line other End End small f g = refl
apart version count here text line other Line Line small f g = refl
apart version count here text line other Many Many small f g = refl
apart version count here text line other Count Count small f g = refl
apart version count here text line other Trailing Trailing small f g = refl
apart version count here text line other End Line small f g = absurd (stops_or_other version text f.1 g.1)
apart version count here text line other Line End small f g = absurd (stops_or_other version text g.1 f.1)
apart version count here text line other End Many small f g =
    let (event, after, right, is) = g.2 in absurd (stops_or_words (event_words version event) text after f.1 is)
apart version count here text line other Many End small f g =
    let (event, after, right, is) = f.2 in absurd (stops_or_words (event_words version event) text after g.1 is)
apart version count here text line other End Count small f g =
    let (number, after, fits, is, differ) = g.1 in absurd (stops_or_words (end_words number) text after f.1 is)
apart version count here text line other Count End small f g =
    let (number, after, fits, is, differ) = f.1 in absurd (stops_or_words (end_words number) text after g.1 is)
apart version count here text line other End Trailing small f g =
    let (after, is, some) = g.1 in absurd (stops_or_words (end_words count) text after f.1 is)
apart version count here text line other Trailing End small f g =
    let (after, is, some) = f.1 in absurd (stops_or_words (end_words count) text after g.1 is)
apart version count here text line other Line Many small f g =
    let (event, after, right, is) = g.2 in absurd (other_or_event version event text after f.1 right is)
apart version count here text line other Many Line small f g =
    let (event, after, right, is) = f.2 in absurd (other_or_event version event text after g.1 right is)
apart version count here text line other Line Count small f g =
    let (number, after, fits, is, differ) = g.1 in absurd (other_or_end version number text after f.1 fits is)
apart version count here text line other Count Line small f g =
    let (number, after, fits, is, differ) = f.1 in absurd (other_or_end version number text after g.1 fits is)
apart version count here text line other Line Trailing small f g =
    let (after, is, some) = g.1 in absurd (other_or_end version count text after f.1 small is)
apart version count here text line other Trailing Line small f g =
    let (after, is, some) = f.1 in absurd (other_or_end version count text after g.1 small is)
apart version count here text line other Many Count small f g =
    let (event, after, right, is) = f.2 in
    let (number, rest, fits, ends, differ) = g.1 in absurd (event_or_end version event number text after rest right fits is ends)
apart version count here text line other Count Many small f g =
    let (event, after, right, is) = g.2 in
    let (number, rest, fits, ends, differ) = f.1 in absurd (event_or_end version event number text after rest right fits is ends)
apart version count here text line other Many Trailing small f g =
    let (event, after, right, is) = f.2 in
    let (rest, ends, some) = g.1 in absurd (event_or_end version event count text after rest right small is ends)
apart version count here text line other Trailing Many small f g =
    let (event, after, right, is) = g.2 in
    let (rest, ends, some) = f.1 in absurd (event_or_end version event count text after rest right small is ends)
apart version count here text line other Count Trailing small f g =
    let (number, after, fits, is, differ) = f.1 in
    let (rest, ends, some) = g.1 in absurd (end_or_other_end count number text rest after small fits differ ends is)
apart version count here text line other Trailing Count small f g =
    let (number, after, fits, is, differ) = g.1 in
    let (rest, ends, some) = f.1 in absurd (end_or_other_end count number text rest after small fits differ ends is)
apart version count here text line other reasons.Opening cause small f g = absurd f
apart version count here text line other Header cause small f g = absurd f
apart version count here text line other reason reasons.Opening small f g = absurd g
apart version count here text line other reason Header small f g = absurd g

-- and faults of one reason are in one line
line_of_reason : (version : Version) (count here : ℕ) (text : List ℕ) (line other : ℕ) (reason : TextReason)
    → NextFault version count here text line reason → NextFault version count here text other reason → line ≡ other
line_of_reason version count here text line other End f g = f.0 ∙ sym g.0
line_of_reason version count here text line other Line f g = f.0 ∙ sym g.0
line_of_reason version count here text line other Many f g = f.0 ∙ sym g.0
line_of_reason version count here text line other Count f g = f.0 ∙ sym g.0
line_of_reason version count here text line other Trailing f g = f.0 ∙ sym g.0
line_of_reason version count here text line other reasons.Opening f g = absurd f
line_of_reason version count here text line other Header f g = absurd f

one_next : (version : Version) (count here : ℕ) (text : List ℕ) (line other : ℕ) (reason cause : TextReason) → IsWord count
    → NextFault version count here text line reason → NextFault version count here text other cause → (line ≡ other) × (reason ≡ cause)
one_next version count here text line other reason cause small f g =
    let same : reason ≡ cause = apart version count here text line other reason cause small f g in
    (line_of_reason version count here text line other reason f (subst (NextFault version count here text other) (sym same) g), same)

-- the first of some lines
first_behind : (words : List (List ℕ)) (more behind : List (List (List ℕ))) (rest after : List ℕ) → behind ≡ words ∷ more
    → rest ≡ lines_text behind ++ after → rest ≡ line_text words ++ (lines_text more ++ after)
first_behind words more behind rest after is tail =
    tail ∙ ap (λ lines. lines_text lines ++ after) is ∙ append_assoc (line_text words) (lines_text more) after

-- behind the first of more events stands the next one
next_event : (version : Version) (front events : List Event) (words : List (List ℕ)) (more : List (List (List ℕ))) → AreRightEvents events
    → map (event_words version) events ≡ map (event_words version) front ++ (words ∷ more)
    → (event : Event) × IsRightEvent event × (words ≡ event_words version event) × (length front < length events)
next_event version [] [] words more right is = absurd (cc)
next_event version [] (event ∷ events) words more right is =
    (event, All-head IsRightEvent event events right, sym (head_of _ _ _ _ is), omega arith)
next_event version (other ∷ front) [] words more right is = absurd (cc)
next_event version (other ∷ front) (event ∷ events) words more right is =
    let (next, fits, same, fewer) = next_event version front events words more (All-tail IsRightEvent event events right) (tail_of _ _ _ _ is) in
    (next, fits, same, omega (arith, fewer))

-- of two faults behind events the one behind fewer is the other
events_before : (version : Version) (text : List ℕ) (first line other : ℕ) (reason cause : TextReason) (f : EventsFault version text first line reason)
    (g : EventsFault version text first other cause) → length f.events ≤ length g.events → (line ≡ other) × (reason ≡ cause)
events_before version text first line other reason cause f g fewer =
    let counts = length-map f.events (event_words version) in
    let numbers = length-map g.events (event_words version) in
    let (behind, split, rest) = lines_before (map (event_words version) f.events) (map (event_words version) g.events) f.rest g.rest
    (event_lines version f.events f.right) (event_lines version g.events g.right) (omega (arith, counts, numbers, fewer)) (sym f.split ∙ g.split) in
    at behind split rest
  where
    at : (behind : List (List (List ℕ))) → map (event_words version) g.events ≡ map (event_words version) f.events ++ behind
        → f.rest ≡ lines_text behind ++ g.rest → (line ≡ other) × (reason ≡ cause)
    at [] split rest =
        let lengths : length g.events ≡ length f.events =
        sym (length-map g.events (event_words version)) ∙ ap length (split ∙ append-nil (map (event_words version) f.events))
        ∙ length-map f.events (event_words version) in
        let moved : NextFault version (length f.events) (first + length f.events) f.rest other cause =
        subst (λ n. NextFault version n (first + n) f.rest other cause) lengths
        (subst (λ t. NextFault version (length g.events) (first + length g.events) t other cause) (sym rest) g.fault) in
        one_next version (length f.events) (first + length f.events) f.rest line other reason cause (omega (arith, f.few)) f.fault moved
    at (words ∷ more) split rest =
        let (event, right, is, less) = next_event version f.events g.events words more g.right split in
        absurd (no_fault_at_event version event (lines_text more ++ g.rest) f.rest (length f.events) (first + length f.events) line reason right
        (omega (arith, less, g.few)) (first_behind (event_words version event) more (words ∷ more) f.rest g.rest (ap (λ w. w ∷ more) is) rest) f.fault)

one_events_fault : (version : Version) (text : List ℕ) (first line other : ℕ) (reason cause : TextReason) → EventsFault version text first line reason
    → EventsFault version text first other cause → (line ≡ other) × (reason ≡ cause)
one_events_fault version text first line other reason cause f g =
    ⊎_elim (λ less. events_before version text first line other reason cause f g (omega (arith, less)))
    (λ least. let back = events_before version text first other line cause reason g f least in (sym back.0, sym back.1))
    (cases_lt (length f.events) (length g.events))

-- The text begins with these numbers and elements of an opening.
record IsKept (version : Version) (text : List ℕ) (next_id last_at count : ℕ) (kept : List Element) (rest : List ℕ) : Type 0 where
  split : text ≡ lines_text (numbers_words next_id last_at count ∷ map (keep_words version) kept) ++ rest
  next : next_id ≤ GREATEST_OPENING_ID
  last : IsWord last_at
  most : count ≤ MOST_OPENING_ELEMENTS
  right : AreRightElements kept
  order : AreInOrder kept next_id

first_split : (version : Version) (text : List ℕ) (next_id last_at count : ℕ) (kept : List Element) (rest : List ℕ)
    → IsKept version text next_id last_at count kept rest
    → text ≡ line_text (numbers_words next_id last_at count) ++ (lines_text (map (keep_words version) kept) ++ rest)
first_split version text next_id last_at count kept rest has =
    has.split ∙ append_assoc (line_text (numbers_words next_id last_at count)) (lines_text (map (keep_words version) kept)) rest

-- What two such beginnings have in common.
record SameStart (version : Version) (next_id last_at count other_id other_at other_count : ℕ) (kept held : List Element) (rest after : List ℕ) : Type 0 where
  numbers : SameNumbers next_id last_at count other_id other_at other_count
  behind : lines_text (map (keep_words version) kept) ++ rest ≡ lines_text (map (keep_words version) held) ++ after

same_start : (version : Version) (text : List ℕ) (next_id last_at count other_id other_at other_count : ℕ) (kept held : List Element) (rest after : List ℕ)
    → IsKept version text next_id last_at count kept rest → IsKept version text other_id other_at other_count held after
    → SameStart version next_id last_at count other_id other_at other_count kept held rest after
same_start version text next_id last_at count other_id other_at other_count kept held rest after f g =
    let small : IsWord next_id = omega (arith, f.next) in
    let few : IsWord count = omega (arith, f.most) in
    let low : IsWord other_id = omega (arith, g.next) in
    let least : IsWord other_count = omega (arith, g.most) in
    let first = same_first_line (numbers_words next_id last_at count) (numbers_words other_id other_at other_count)
    (lines_text (map (keep_words version) kept) ++ rest) (lines_text (map (keep_words version) held) ++ after)
    (numbers_line next_id last_at count small f.last few) (numbers_line other_id other_at other_count low g.last least)
    (sym (first_split version text next_id last_at count kept rest f) ∙ first_split version text other_id other_at other_count held after g) in
    record {
      numbers = same_numbers next_id last_at count other_id other_at other_count small f.last few low g.last least first.0;
      behind = first.1;
    }

-- behind the first of more elements stands the next one, so there is no fault
kept_before : (version : Version) (next_id : ℕ) (kept held : List Element) (rest after : List ℕ) (reason : TextReason) → AreRightElements kept
    → AreRightElements held → AreInOrder held next_id → length kept < length held
    → lines_text (map (keep_words version) kept) ++ rest ≡ lines_text (map (keep_words version) held) ++ after
    → ((reason ≡ End) × HasNoLineFeed rest) ⊎ ((reason ≡ reasons.Opening) × HasOtherKeep version next_id kept rest) → ⊥
kept_before version next_id kept held rest after reason right fits order fewer is fault =
    let counts = length-map kept (keep_words version) in
    let numbers = length-map held (keep_words version) in
    let (behind, split, tail) = lines_before (map (keep_words version) kept) (map (keep_words version) held) rest after
    (keep_lines version kept right) (keep_lines version held fits) (omega (arith, counts, numbers, fewer)) is in
    let keep = stands_keep version kept held [] behind right fits fewer (append-nil (map (keep_words version) held) ∙ split) in
    no_fault_at_keep version next_id kept keep.element rest (lines_text keep.more ++ after) reason keep.right
    (order_of_first (kept ++ keep.element ∷ []) held keep.others next_id keep.ids order)
    (first_behind (keep_words version keep.element) keep.more behind rest after keep.split tail) fault

-- behind as many elements stands the same
kept_same : (version : Version) (kept held : List Element) (rest after : List ℕ) → AreRightElements kept → AreRightElements held
    → length kept ≡ length held → lines_text (map (keep_words version) kept) ++ rest ≡ lines_text (map (keep_words version) held) ++ after → rest ≡ after
kept_same version kept held rest after right fits same is =
    let counts = length-map kept (keep_words version) in
    let numbers = length-map held (keep_words version) in
    let (behind, split, tail) = lines_before (map (keep_words version) kept) (map (keep_words version) held) rest after
    (keep_lines version kept right) (keep_lines version held fits) (omega (arith, counts, numbers, same)) is in
    at behind (omega (arith, counts, numbers, same, ap length split, length-append (map (keep_words version) kept) behind)) tail
  where
    at : (behind : List (List (List ℕ))) → length behind ≡ 0 → rest ≡ lines_text behind ++ after → rest ≡ after
    at [] none tail = tail
    at (words ∷ behind) none tail = absurd (omega (arith, none))

-- a text stops or has another line
one_stop : (text : List ℕ) (X Y : Type 0) (reason cause : TextReason) → (HasNoLineFeed text → X → ⊥) → (HasNoLineFeed text → Y → ⊥)
    → ((reason ≡ End) × HasNoLineFeed text) ⊎ ((reason ≡ reasons.Opening) × X) → ((cause ≡ End) × HasNoLineFeed text) ⊎ ((cause ≡ reasons.Opening) × Y)
    → reason ≡ cause
one_stop text X Y reason cause never none (inl f) (inl g) = f.0 ∙ sym g.0
one_stop text X Y reason cause never none (inl f) (inr g) = absurd (none f.1 g.1)
one_stop text X Y reason cause never none (inr f) (inl g) = absurd (never g.1 f.1)
one_stop text X Y reason cause never none (inr f) (inr g) = f.0 ∙ sym g.0

keep_or_stops : (version : Version) (next_id : ℕ) (kept : List Element) (text : List ℕ) → HasNoLineFeed text → HasOtherKeep version next_id kept text → ⊥
keep_or_stops version next_id kept text lacks other = feed_in other.line other.behind (subst HasNoLineFeed other.split lacks)

open_or_stops : (version : Version) (text : List ℕ) → HasNoLineFeed text → HasOtherOpen version text → ⊥
open_or_stops version text lacks other = feed_in other.line other.behind (subst HasNoLineFeed other.split lacks)

-- what the faults of an opening, and behind one, begin with
kept_at : (version : Version) (text : List ℕ) (line : ℕ) (reason : TextReason) (f : KeepFault version text line reason)
    → IsKept version text f.next_id f.last_at f.count f.kept f.rest
kept_at version text line reason f =
    record { split = f.split; next = f.next; last = f.last; most = f.most; right = f.right; order = f.order }

-- the lines that tell an opening in the second and the third version
abbrev AreTold : Version → Type 0
AreTold version = (opening : Opening) → opening_lines version opening ≡ open_words opening ∷ map (keep_words version) opening.elements

kept_whole : (version : Version) (text : List ℕ) (line : ℕ) (reason : TextReason) (f : FaultBehind version text line reason) → AreTold version
    → IsKept version text f.opening.next_id f.opening.last_at (length f.opening.elements) f.opening.elements f.rest
kept_whole version text line reason f lines = record {
  split = f.split ∙ ap (λ all. lines_text all ++ f.rest) (lines f.opening);
  next = f.opening.opening.next;
  last = f.right.last_at;
  most = f.opening.opening.few;
  right = f.right.elements;
  order = f.opening.opening.order;
}

-- two faults of the numbers are one, and none is where numbers were told
open_open : (version : Version) (text : List ℕ) (line other : ℕ) (reason cause : TextReason) → OpenFault version text line reason
    → OpenFault version text other cause → (line ≡ other) × (reason ≡ cause)
open_open version text line other reason cause f g =
    (f.0 ∙ sym g.0, one_stop text (HasOtherOpen version text) (HasOtherOpen version text) reason cause (open_or_stops version text) (open_or_stops version text) f.1 g.1)

open_or_keep : (version : Version) (text : List ℕ) (line other : ℕ) (reason cause : TextReason) → OpenFault version text line reason
    → KeepFault version text other cause → ⊥
open_or_keep version text line other reason cause f g =
    no_fault_at_numbers version g.next_id g.last_at g.count text (lines_text (map (keep_words version) g.kept) ++ g.rest) line reason g.next g.last g.most g.opens
    (first_split version text g.next_id g.last_at g.count g.kept g.rest (kept_at version text other cause g)) f

open_or_behind : (version : Version) (text : List ℕ) (line other : ℕ) (reason cause : TextReason) → AreTold version → OpenFault version text line reason
    → FaultBehind version text other cause → ⊥
open_or_behind version text line other reason cause lines f g =
    let has = kept_whole version text other cause g lines in
    no_fault_at_numbers version g.opening.next_id g.opening.last_at (length g.opening.elements) text
    (lines_text (map (keep_words version) g.opening.elements) ++ g.rest) line reason has.next has.last has.most g.opens
    (first_split version text g.opening.next_id g.opening.last_at (length g.opening.elements) g.opening.elements g.rest has) f

-- two faults of the elements are one, and none is where all were told
keep_keep : (version : Version) (text : List ℕ) (line other : ℕ) (reason cause : TextReason) → KeepFault version text line reason
    → KeepFault version text other cause → (line ≡ other) × (reason ≡ cause)
keep_keep version text line other reason cause f g =
    ⊎_elim (λ less. absurd (before less)) (λ least. ⊎_elim (λ less. absurd (after less)) (λ most. same (omega (arith, least, most)))
    (cases_lt (length g.kept) (length f.kept))) (cases_lt (length f.kept) (length g.kept))
  where
    start : SameStart version f.next_id f.last_at f.count g.next_id g.last_at g.count f.kept g.kept f.rest g.rest
    start = same_start version text f.next_id f.last_at f.count g.next_id g.last_at g.count f.kept g.kept f.rest g.rest
        (kept_at version text line reason f) (kept_at version text other cause g)

    before : length f.kept < length g.kept → ⊥
    before less =
        kept_before version f.next_id f.kept g.kept f.rest g.rest reason f.right g.right (subst (AreInOrder g.kept) (sym start.numbers.next) g.order) less
        start.behind f.fault

    after : length g.kept < length f.kept → ⊥
    after less =
        kept_before version g.next_id g.kept f.kept g.rest f.rest cause g.right f.right (subst (AreInOrder f.kept) start.numbers.next f.order) less
        (sym start.behind) g.fault

    same : length f.kept ≡ length g.kept → (line ≡ other) × (reason ≡ cause)
    same long =
        let rest : f.rest ≡ g.rest = kept_same version f.kept g.kept f.rest g.rest f.right g.right long start.behind in
        let moved : ((cause ≡ End) × HasNoLineFeed f.rest) ⊎ ((cause ≡ reasons.Opening) × HasOtherKeep version g.next_id g.kept f.rest) =
        subst (λ t. ((cause ≡ End) × HasNoLineFeed t) ⊎ ((cause ≡ reasons.Opening) × HasOtherKeep version g.next_id g.kept t)) (sym rest) g.fault in (
          omega (arith, f.place, g.place, long),
          one_stop f.rest (HasOtherKeep version f.next_id f.kept f.rest) (HasOtherKeep version g.next_id g.kept f.rest) reason cause
              (keep_or_stops version f.next_id f.kept f.rest) (keep_or_stops version g.next_id g.kept f.rest) f.fault moved,
        )

keep_or_behind : (version : Version) (text : List ℕ) (line other : ℕ) (reason cause : TextReason) → AreTold version → KeepFault version text line reason
    → FaultBehind version text other cause → ⊥
keep_or_behind version text line other reason cause lines f g =
    let has = kept_whole version text other cause g lines in
    let start = same_start version text f.next_id f.last_at f.count g.opening.next_id g.opening.last_at (length g.opening.elements) f.kept
    g.opening.elements f.rest g.rest (kept_at version text line reason f) has in
    kept_before version f.next_id f.kept g.opening.elements f.rest g.rest reason f.right has.right
    (subst (AreInOrder g.opening.elements) (sym start.numbers.next) has.order) (omega (arith, f.fewer, start.numbers.counts)) start.behind f.fault

-- two faults behind an opening are one
behind_behind : (version : Version) (text : List ℕ) (line other : ℕ) (reason cause : TextReason) → AreTold version → FaultBehind version text line reason
    → FaultBehind version text other cause → (line ≡ other) × (reason ≡ cause)
behind_behind version text line other reason cause lines f g =
    let has = kept_whole version text line reason f lines in
    let holds = kept_whole version text other cause g lines in
    let start = same_start version text f.opening.next_id f.opening.last_at (length f.opening.elements) g.opening.next_id g.opening.last_at
    (length g.opening.elements) f.opening.elements g.opening.elements f.rest g.rest has holds in
    let rest : f.rest ≡ g.rest = kept_same version f.opening.elements g.opening.elements f.rest g.rest has.right holds.right start.numbers.counts start.behind in
    let moved : EventsFault version f.rest (3 + length f.opening.elements) other cause =
    subst (λ n. EventsFault version f.rest (3 + n) other cause) (sym start.numbers.counts)
    (subst (λ t. EventsFault version t (3 + length g.opening.elements) other cause) (sym rest) g.fault) in
    one_events_fault version f.rest (3 + length f.opening.elements) line other reason cause f.fault moved

-- so the lines behind the header have one
one_opened_fault : (version : Version) (text : List ℕ) (line other : ℕ) (reason cause : TextReason) → AreTold version
    → OpenFault version text line reason ⊎ (KeepFault version text line reason ⊎ FaultBehind version text line reason)
    → OpenFault version text other cause ⊎ (KeepFault version text other cause ⊎ FaultBehind version text other cause)
    → (line ≡ other) × (reason ≡ cause)
one_opened_fault version text line other reason cause lines (inl f) (inl g) = open_open version text line other reason cause f g
one_opened_fault version text line other reason cause lines (inl f) (inr (inl g)) = absurd (open_or_keep version text line other reason cause f g)
one_opened_fault version text line other reason cause lines (inl f) (inr (inr g)) = absurd (open_or_behind version text line other reason cause lines f g)
one_opened_fault version text line other reason cause lines (inr (inl f)) (inl g) = absurd (open_or_keep version text other line cause reason g f)
one_opened_fault version text line other reason cause lines (inr (inl f)) (inr (inl g)) = keep_keep version text line other reason cause f g
one_opened_fault version text line other reason cause lines (inr (inl f)) (inr (inr g)) = absurd (keep_or_behind version text line other reason cause lines f g)
one_opened_fault version text line other reason cause lines (inr (inr f)) (inl g) = absurd (open_or_behind version text other line cause reason lines g f)
one_opened_fault version text line other reason cause lines (inr (inr f)) (inr (inl g)) = absurd (keep_or_behind version text other line cause reason lines g f)
one_opened_fault version text line other reason cause lines (inr (inr f)) (inr (inr g)) = behind_behind version text line other reason cause lines f g

one_body_fault : (version : Version) (text : List ℕ) (line other : ℕ) (reason cause : TextReason) → BodyFault version text line reason
    → BodyFault version text other cause → (line ≡ other) × (reason ≡ cause)
one_body_fault One text line other reason cause f g = one_events_fault One text 2 line other reason cause f g
one_body_fault Two text line other reason cause f g = one_opened_fault Two text line other reason cause (λ opening. refl) f g
one_body_fault Three text line other reason cause f g = one_opened_fault Three text line other reason cause (λ opening. refl) f g

-- and so has the text
pub one_fault : OneFault
one_fault text line other reason cause (inl f) (inl g) = (f.0 ∙ sym g.0, f.1 ∙ sym g.1)
one_fault text line other reason cause (inl f) (inr g) = absurd (f.2 g.version g.behind g.split)
one_fault text line other reason cause (inr f) (inl g) = absurd (g.2 f.version f.behind f.split)
one_fault text line other reason cause (inr f) (inr g) =
    let first = same_first_line (header_words f.version) (header_words g.version) f.behind g.behind (header_line f.version) (header_line g.version)
    (sym f.split ∙ g.split) in
    let versions : f.version ≡ g.version = same_version f.version g.version first.0 in
    let moved : BodyFault f.version f.behind other cause =
    subst (λ v. BodyFault v f.behind other cause) (sym versions) (subst (λ t. BodyFault g.version t other cause) (sym first.1) g.fault) in
    one_body_fault f.version f.behind line other reason cause f.fault moved
