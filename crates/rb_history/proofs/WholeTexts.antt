-- A text of a history, put together from its header and what was read behind it.
use Rattle.std.proofs.Common.{◌≡◌, ◌≢◌, ℕ, List, [], ◌∷◌, ◌++◌, length, map, codes, decimal, refl, sym, ap, subst, ◌∙◌, ◌≤◌, arith, take, drop, inl, inr, ◌⊎◌, Result, Ok, Err, IfOk, append_assoc}
use Rattle.std.proofs.lemmas.List.{length-map, take_at}
use Rattle.rb_delayed.specs.declared.element.Element.{Element}
use Rattle.rb_queue.specs.declared.event.Event.{Event}
use Rattle.rb_history.specs.BodyReading.{TellsRun}
use Rattle.rb_history.specs.EventText.{act_words, event_words, keep_words, header_words, end_words}
use Rattle.rb_history.specs.HistoryText.{line_text, lines_text, opening_lines}
use Rattle.rb_history.specs.Readings.{MayBegin, IsTextIn, Reads}
use Rattle.rb_history.specs.Settling.{SettlesElements, SettlesEvents, HasFirsts, IsSettled}
use Rattle.rb_history.specs.Ranges.{IsWord, IsRightHistory}
use Rattle.rb_history.specs.declared.firsts.Firsts.{Firsts}
use Rattle.rb_history.specs.declared.history.History.{History}
use Rattle.rb_history.specs.declared.text_fault.TextFault.{TextFault}
use Rattle.rb_history.specs.declared.version.Version.{Version}
use Rattle.rb_history.specs.declared.write.TheConstants.{MOST_EVENTS}
use Rattle.rb_history.specs.declared.version.Version.TheVariants.{One, Two, Three}
use Rattle.rb_queue.specs.declared.act.Act.{Act}
use Rattle.rb_queue.specs.declared.act.Act.TheVariants.{Offer}
use Rattle.rb_history.proofs.Lines.{lines_text-append}

-- as many elements as words
same_length : {X Y : Type 0} (f : X → Y) (one other : List X) → map f one ≡ map f other → length one ≡ length other
same_length f one other is = sym (length-map one f) ∙ ap length is ∙ length-map other f

-- the second version tells an event as the first does
same_act : (act : Act) → act_words Two act ≡ act_words One act
same_act (Offer element) = refl
same_act act = refl

same_events : (events : List Event) → map (event_words Two) events ≡ map (event_words One) events
same_events [] = refl
same_events (event ∷ events) = λ i. (decimal event.seat ∷ decimal event.asked ∷ decimal event.at ∷ same_act event.act i) ∷ same_events events i

-- in a version that does not tell the first expiries, the ones that follow
pub settled_by_firsts : (version : Version) (told history : History) → version ≢ Three → HasFirsts told history → IsSettled version told history
settled_by_firsts One told history untold has = record {
  opening = refl;
  events = has.events;
  next_id = has.next_id;
  last_at = has.last_at;
  elements = same_length (keep_words One) _ _ has.elements;
  right = has.right;
  firsts = has.firsts;
}
settled_by_firsts Two told history untold has =
    let counted : length history.opening.elements ≡ length told.opening.elements = same_length (keep_words One) _ _ has.elements in
    record {
      opening = λ i. (codes "open" ∷ decimal (has.next_id i) ∷ decimal (has.last_at i) ∷ decimal (counted i) ∷ []) ∷ has.elements i;
      events = same_events history.events ∙ has.events ∙ sym (same_events told.events);
      next_id = has.next_id;
      last_at = has.last_at;
      elements = counted;
      right = has.right;
      firsts = has.firsts;
    }
settled_by_firsts Three told history untold has = absurd (untold refl)

no_elements : (elements : List Element) → length elements ≡ 0 → elements ≡ []
no_elements [] none = refl
no_elements (element ∷ elements) none = absurd (omega (arith, none))

begins_too : (version : Version) (told history : History) → IsSettled version told history → MayBegin version told.opening → MayBegin version history.opening
begins_too One told history settled begins =
    (no_elements history.opening.elements (settled.elements ∙ ap length begins.0), settled.next_id ∙ begins.1, settled.last_at ∙ begins.2)
begins_too Two told history settled begins = λ empty. begins (sym settled.next_id ∙ empty.0, sym settled.last_at ∙ empty.1, sym settled.elements ∙ empty.2)
begins_too Three told history settled begins = tt

-- the header, and what was read behind it
pub is_text : (version : Version) (text behind : List ℕ) (told history : History) → text ≡ line_text (header_words version) ++ behind → TellsRun version behind told
    → IsSettled version told history → IsTextIn version history.opening history.events text
is_text version text behind told history cut tells settled =
    let counted : length history.events ≡ length told.events = same_length (event_words version) _ _ settled.events in
    let same : behind ≡ lines_text (opening_lines version history.opening) ++ lines_text (map (event_words version) history.events ++ (end_words (length history.events) ∷ [])) =
    tells.split ∙ (λ i. lines_text (sym settled.opening i) ++ lines_text (sym settled.events i ++ (end_words (sym counted i) ∷ []))) in
    record {
      text_is = cut ∙ ap (λ t. line_text (header_words version) ++ t) same
          ∙ sym (append_assoc (line_text (header_words version)) (lines_text (opening_lines version history.opening)) _)
          ∙ sym (lines_text-append (header_words version ∷ opening_lines version history.opening) _);
      begins = begins_too version told history settled tells.begins;
      few = omega (arith, counted, tells.few);
      firsts = settled.firsts;
    }

-- the elements, and then the events, have the expiries of the earliest
pub has_firsts : (told history : History) (known after : Firsts) → IsRightHistory told → SettlesElements told.opening.elements known history.opening.elements
    → SettlesEvents known told.events after history.events → history.opening.next_id ≡ told.opening.next_id → history.opening.last_at ≡ told.opening.last_at
    → HasFirsts told history
has_firsts told history known after right elements events next last = record {
  elements = elements.words;
  next_id = next;
  last_at = last;
  events = events.words;
  right = (record { last_at = subst IsWord (sym last) right.0.last_at; elements = elements.right right.0.elements }, events.right right.1);
  firsts = events.firsts history.opening.elements elements.knows elements.firsts;
}

pub each_settled : {E : Type 0} (version : Version) (told : History) (result : Result History E) → version ≢ Three → IfOk result (HasFirsts told) → IfOk result (IsSettled version told)
each_settled version told (Ok history) untold has = settled_by_firsts version told history untold has
each_settled version told (Err fault) untold has = tt

pub untold : (version : Version) → (version ≡ One) ⊎ (version ≡ Two) → version ≢ Three
untold version (inl is) three = let same : One ≡ Three = sym is ∙ three in absurd (cc)
untold version (inr is) three = let same : Two ≡ Three = sym is ∙ three in absurd (cc)

-- a list behind which nothing is left
pub whole_list : {X : Type 0} (new old : List X) (len : ℕ) → length new ≡ len → take len (new ++ drop (length new) old) ≡ new
whole_list new old len counted = take_at new (drop (length new) old) len counted

-- a history that is read has no more events than a text may have
pub few_read : (text : List ℕ) (result : Result History TextFault) → Reads text result → IfOk result (λ history. length history.events ≤ MOST_EVENTS)
few_read text (Ok history) (version, is_text_of) = is_text_of.few
few_read text (Err fault) fails = tt
