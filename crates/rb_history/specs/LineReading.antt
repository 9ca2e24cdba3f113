-- What the words of a line are read as. No public clause cites this module.
use Rattle.std.specs.Prelude.{◌≡◌, ◌≢◌, ℕ, List, Option, Some, None}
use Rattle.rb_queue.specs.declared.act.Act.{Act}
use Rattle.rb_queue.specs.declared.event.Event.{Event}
use Rattle.rb_history.specs.declared.version.Version.{Version}
use Rattle.rb_history.specs.EventText.{act_words, event_words}
use Rattle.rb_history.specs.Ranges.{IsRightAct, IsRightEvent}

-- the words are this act, or none
abbrev pub ReadsAct : Version → List (List ℕ) → Option Act → Type 0
ReadsAct version words (Some act) = (words ≡ act_words version act) × IsRightAct act
ReadsAct version words None = (act : Act) → IsRightAct act → words ≢ act_words version act

-- the words are this act, or none, in every version
abbrev pub ReadsAlike : List (List ℕ) → Option Act → Type 0
ReadsAlike words found = (version : Version) → ReadsAct version words found

-- the words are this event, or none
abbrev pub ReadsEvent : Version → List (List ℕ) → Option Event → Type 0
ReadsEvent version words (Some event) = (words ≡ event_words version event) × IsRightEvent event
ReadsEvent version words None = (event : Event) → IsRightEvent event → words ≢ event_words version event
