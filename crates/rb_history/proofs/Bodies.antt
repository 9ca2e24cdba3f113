-- The lines behind a header, put together from those of the opening and those of the events.
use Rattle.std.proofs.Common.{◌≡◌, ◌≢◌, ℕ, List, ◌∷◌, ◌++◌, map, refl, sym, ap, subst, ◌∙◌, arith, inr, append_assoc, Err}
use Rattle.rb_protocol.specs.Line.{words_of}
use Rattle.rb_protocol.specs.declared.format.TheConstants.{LINE_FEED}
use Rattle.rb_queue.specs.declared.opening.Opening.{Opening}
use Rattle.rb_history.specs.BodyReading.{StopsKeeping, TellsNumbers, TellsOpening, FaultOfOpening, KeepsFail, OpeningFails, RunFails, line_behind}
use Rattle.rb_history.specs.EventText.{keep_words}
use Rattle.rb_history.specs.HistoryText.{line_text, lines_text}
use Rattle.rb_history.specs.OpeningReading.{IsOpenLine, MayOpen, numbers_words}
use Rattle.rb_history.specs.Ranges.{IsWord}
use Rattle.rb_history.specs.TextFaults.{KeepFault, BodyFault, EventsFault, ReadsEvents}
use Rattle.rb_history.specs.declared.read_opening.OpenLine.{OpenLine}
use Rattle.rb_history.specs.declared.text_fault.TextFault.{TextFault}
use Rattle.rb_history.specs.declared.text_fault.TextFault.TheVariants.{At, Memory}
use Rattle.rb_history.specs.declared.text_fault.TextReason.{TextReason}
use Rattle.rb_history.specs.declared.version.Version.{Version}
use Rattle.rb_history.specs.declared.version.Version.TheVariants.{One, Two, Three}
use Rattle.rb_history.proofs.EventLines.{line_is}
use Rattle.rb_history.proofs.Spelled.{same_number}

-- a line tells the numbers of one opening only
opens_once : (version : Version) (words : List (List ℕ)) (told : OpenLine) (next_id last_at count : ℕ) → IsOpenLine words told.next_id told.last_at told.count → IsWord told.last_at
    → IsWord last_at → IsOpenLine words next_id last_at count → MayOpen version next_id last_at count → MayOpen version told.next_id told.last_at told.count
opens_once version words told next_id last_at count is small low named opens =
    let whole : numbers_words told.next_id told.last_at told.count ≡ numbers_words next_id last_at count = sym is.words_are ∙ named.words_are in
    let next : told.next_id ≡ next_id = same_number _ _ _ told.next_id next_id (omega (arith, is.next)) (omega (arith, named.next)) refl (tail whole) in
    let last : told.last_at ≡ last_at = same_number _ _ _ told.last_at last_at small low refl (tail (tail whole)) in
    let many : told.count ≡ count = same_number _ _ _ told.count count (omega (arith, is.few)) (omega (arith, named.few)) refl (tail (tail (tail whole))) in
    subst (λ n. MayOpen version n told.last_at told.count) (sym next) (subst (λ n. MayOpen version next_id n told.count) (sym last) (subst (λ n. MayOpen version next_id last_at n) (sym many) opens))
  where
    tail : {one other : List ℕ} {words behind : List (List ℕ)} → one ∷ words ≡ other ∷ behind → words ≡ behind
    tail is = cc

-- the line tells numbers that the version does not
pub opens_other : (version : Version) (text line behind : List ℕ) (told : OpenLine) → IsOpenLine (words_of line) told.next_id told.last_at told.count → IsWord told.last_at
    → (MayOpen version told.next_id told.last_at told.count → ⊥) → (next_id last_at count : ℕ) → IsWord last_at → IsOpenLine (words_of line) next_id last_at count
    → MayOpen version next_id last_at count → ⊥
opens_other version text line behind told is small wrong next_id last_at count low named opens =
    wrong (opens_once version (words_of line) told next_id last_at count is small low named opens)

-- the line tells these numbers
pub tells_numbers : (version : Version) (text line behind : List ℕ) (told : OpenLine) → text ≡ line ++ (LINE_FEED ∷ behind)
    → IsOpenLine (words_of line) told.next_id told.last_at told.count → IsWord told.last_at → MayOpen version told.next_id told.last_at told.count
    → TellsNumbers version text told behind
tells_numbers version text line behind told cut is small opens = record {
  split = cut ∙ line_is line behind _ is.words_are;
  next = is.next;
  most = is.few;
  last = small;
  opens = opens;
}

pub fault_of_keep : (version : Version) (text behind : List ℕ) (told : OpenLine) (line : ℕ) (reason : TextReason) → version ≢ One → TellsNumbers version text told behind
    → StopsKeeping version told.next_id told.count behind line reason → FaultOfOpening version text line reason
fault_of_keep version text behind told line reason none tells stops = by_version version none fault
  where
    fault : KeepFault version text line reason
    fault = record {
      next_id = told.next_id;
      last_at = told.last_at;
      count = told.count;
      kept = stops.kept;
      rest = stops.rest;
      split = tells.split ∙ ap (λ t. line_text (numbers_words told.next_id told.last_at told.count) ++ t) stops.split
          ∙ sym (append_assoc (line_text (numbers_words told.next_id told.last_at told.count)) (lines_text (map (keep_words version) stops.kept)) stops.rest);
      next = tells.next;
      last = tells.last;
      most = tells.most;
      opens = tells.opens;
      right = stops.right;
      order = stops.order;
      fewer = stops.fewer;
      place = stops.place;
      fault = stops.fault;
    }

    by_version : (version : Version) → version ≢ One → KeepFault version text line reason → FaultOfOpening version text line reason
    by_version One told_one keep = absurd (told_one refl)
    by_version Two told_one keep = inr keep
    by_version Three told_one keep = inr keep

pub body_of_events : (version : Version) (text rest : List ℕ) (opening : Opening) (line : ℕ) (reason : TextReason) → TellsOpening version text opening rest
    → EventsFault version rest (line_behind version opening) line reason → BodyFault version text line reason
body_of_events One text rest opening line reason tells fault = subst (λ t. EventsFault One t 2 line reason) (sym tells.split) fault
body_of_events Two text rest opening line reason tells fault =
    inr (inr (record { opening = opening; rest = rest; split = tells.split; right = tells.right; opens = tells.begins; fault = fault }))
body_of_events Three text rest opening line reason tells fault =
    inr (inr (record { opening = opening; rest = rest; split = tells.split; right = tells.right; opens = tt; fault = fault }))

-- the fault that is answered
pub opening_fails : (version : Version) (text behind : List ℕ) (told : OpenLine) (fault : TextFault) → version ≢ One → TellsNumbers version text told behind
    → KeepsFail version told.next_id told.count behind fault → OpeningFails version text fault
opening_fails version text behind told (At line reason) none tells stops = fault_of_keep version text behind told line reason none tells stops
opening_fails version text behind told Memory none tells stops = tt

pub run_fails : (version : Version) (text rest : List ℕ) (opening : Opening) (first : ℕ) (fault : TextFault) → TellsOpening version text opening rest
    → first ≡ line_behind version opening → ReadsEvents version rest first (Err fault) → RunFails version text fault
run_fails version text rest opening first (At line reason) tells here fault =
    body_of_events version text rest opening line reason tells (subst (λ n. EventsFault version rest n line reason) here fault)
run_fails version text rest opening first Memory tells here fault = tt
