-- The lines of the events so far, and one more.
use Rattle.std.proofs.Common.{◌≡◌, ℕ, ◌+◌, ◌<◌, ◌≤◌, inl, inr, List, [], ◌∷◌, ◌++◌, length, map, Err, sym, ap, subst, ◌∙◌, arith, append_assoc, append-nil, length-append}
use Rattle.std.proofs.lemmas.List.{map-append}
use Rattle.std.proofs.lemmas.List.Elements.{All-push}
use Rattle.std.proofs.lemmas.List.Splits.{join_with_byte-slice_split}
use Rattle.rb_protocol.specs.Line.{spaced, words_of}
use Rattle.rb_protocol.specs.declared.format.TheConstants.{SPACE, LINE_FEED}
use Rattle.rb_queue.specs.declared.event.Event.{Event}
use Rattle.rb_history.specs.EventText.{event_words, end_words}
use Rattle.rb_history.specs.HistoryText.{line_text, lines_text}
use Rattle.rb_history.specs.Ranges.{IsWord, IsRightEvent, AreRightEvents}
use Rattle.rb_history.specs.TextFaults.{ReadsEvents, EndsWell}
use Rattle.rb_history.specs.declared.version.Version.{Version}
use Rattle.rb_history.specs.declared.text_fault.TextFault.{TextFault}
use Rattle.rb_history.specs.declared.text_fault.TextFault.TheVariants.{At}
use Rattle.rb_history.specs.declared.text_fault.TextReason.TheVariants.{Many}
use Rattle.rb_history.specs.declared.write.TheConstants.{MOST_EVENTS}
use Rattle.rb_history.proofs.Lines.{lines_text-append}

-- what is known behind some of the lines
pub record ReadSoFar (version : Version) (text : List ℕ) (events : List Event) (rest : List ℕ) : Type 0 where
  pub so_far : text ≡ lines_text (map (event_words version) events) ++ rest
  pub right : AreRightEvents events
  pub few : length events ≤ MOST_EVENTS

-- a line of these words is their text
pub line_is : (line behind : List ℕ) (words : List (List ℕ)) → words_of line ≡ words → line ++ (LINE_FEED ∷ behind) ≡ line_text words ++ behind
line_is line behind words is =
    let spelled : line ≡ spaced words = sym (join_with_byte-slice_split SPACE line) ∙ ap spaced is in
    ap (λ l. l ++ (LINE_FEED ∷ behind)) spelled ∙ sym (append_assoc (spaced words) (LINE_FEED ∷ []) behind)

-- one line more
pub read_more : (version : Version) (text : List ℕ) (events : List Event) (rest line behind : List ℕ) (event : Event) → ReadSoFar version text events rest
    → rest ≡ line ++ (LINE_FEED ∷ behind) → words_of line ≡ event_words version event → IsRightEvent event → length events < MOST_EVENTS
    → ReadSoFar version text (events ++ event ∷ []) behind
read_more version text events rest line behind event so_far cut is right room =
    let more : lines_text (map (event_words version) (events ++ event ∷ [])) ≡ lines_text (map (event_words version) events) ++ line_text (event_words version event) =
    ap lines_text (map-append (event_words version) events (event ∷ []))
    ∙ lines_text-append (map (event_words version) events) (event_words version event ∷ [])
    ∙ ap (λ t. lines_text (map (event_words version) events) ++ t) (append-nil (line_text (event_words version event))) in
    record {
      so_far = so_far.so_far ∙ ap (λ t. lines_text (map (event_words version) events) ++ t) (cut ∙ line_is line behind _ is)
          ∙ sym (append_assoc (lines_text (map (event_words version) events)) (line_text (event_words version event)) behind)
          ∙ ap (λ t. t ++ behind) (sym more);
      right = All-push IsRightEvent events event so_far.right right;
      few = omega (arith, length-append events (event ∷ []), room);
    }

-- the last line, with nothing behind
pub read_all : (version : Version) (text : List ℕ) (events : List Event) (rest line behind : List ℕ) (told : ℕ) → ReadSoFar version text events rest
    → rest ≡ line ++ (LINE_FEED ∷ behind) → words_of line ≡ end_words told → told ≡ length events → behind ≡ []
    → (length events ≤ MOST_EVENTS) × AreRightEvents events × (text ≡ lines_text (map (event_words version) events ++ (end_words (length events) ∷ [])))
read_all version text events rest line behind told so_far cut is same none = (
  so_far.few,
  so_far.right,
  so_far.so_far ∙ ap (λ t. lines_text (map (event_words version) events) ++ t)
      (cut ∙ line_is line behind _ is ∙ ap (λ n. line_text (end_words n) ++ behind) same ∙ ap (λ b. line_text (end_words (length events)) ++ b) none)
      ∙ sym (lines_text-append (map (event_words version) events) (end_words (length events) ∷ [])),
)

-- the fault of the last line
pub read_ends_badly : (version : Version) (text : List ℕ) (events : List Event) (rest line behind : List ℕ) (told count first number : ℕ) (fault : TextFault) → count ≡ length events
    → ReadSoFar version text events rest → rest ≡ line ++ (LINE_FEED ∷ behind) → words_of line ≡ end_words told → IsWord told → number ≡ first + length events
    → EndsWell {X = Unit {0}} told count behind number (Err fault) → ReadsEvents version text first (Err fault)
read_ends_badly version text events rest line behind told count first number fault counted so_far cut is small here (inl (other, fault_is)) =
    subst (λ f. ReadsEvents version text first (Err f)) (sym fault_is) (record {
      events = events;
      rest = rest;
      split = so_far.so_far;
      right = so_far.right;
      few = so_far.few;
      fault = (here, (told, behind, small, cut ∙ line_is line behind _ is, λ same. other (same ∙ sym counted)));
    })
read_ends_badly version text events rest line behind told count first number fault counted so_far cut is small here (inr (same, some, fault_is)) =
    subst (λ f. ReadsEvents version text first (Err f)) (sym fault_is) (record {
      events = events;
      rest = rest;
      split = so_far.so_far;
      right = so_far.right;
      few = so_far.few;
      fault = (ap (λ n. n + 1) here, (behind, cut ∙ line_is line behind _ is ∙ ap (λ n. line_text (end_words n) ++ behind) (same ∙ counted), some));
    })

-- a line too many
pub read_too_many : (version : Version) (text : List ℕ) (events : List Event) (rest line behind : List ℕ) (event : Event) (first number : ℕ)
    → ReadSoFar version text events rest → rest ≡ line ++ (LINE_FEED ∷ behind) → words_of line ≡ event_words version event → IsRightEvent event → number ≡ first + length events
    → MOST_EVENTS ≤ length events → ReadsEvents version text first (Err (At number Many))
read_too_many version text events rest line behind event first number so_far cut is right here many = record {
  events = events;
  rest = rest;
  split = so_far.so_far;
  right = so_far.right;
  few = so_far.few;
  fault = (here, omega (arith, many, so_far.few), (event, behind, right, cut ∙ line_is line behind _ is));
}
