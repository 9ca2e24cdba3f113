-- The words of each line of a history.
use Rattle.std.specs.Prelude.{ℕ, List, [], ◌∷◌, ◌++◌, length, map, codes, decimal, Option, Some, None, if◌then◌else◌}
use Rattle.rb_delayed.specs.declared.element.Element.{Element}
use Rattle.rb_queue.specs.declared.act.Act.{Act}
use Rattle.rb_queue.specs.declared.act.Act.TheVariants.{Offer, Poll, Take, PollFor, Peek, Remove, Drain, Clear, Size}
use Rattle.rb_queue.specs.declared.event.Event.{Event}
use Rattle.rb_queue.specs.declared.opening.Opening.{Opening}
use Rattle.rb_history.specs.declared.version.Version.{Version}
use Rattle.rb_history.specs.declared.version.Version.TheVariants.{One, Two, Three}

-- the expiry of the origin's first offer, in the version that has it
abbrev pub first_words : Version → ℕ → List (List ℕ)
first_words One first = []
first_words Two first = []
first_words Three first = decimal first ∷ []

-- an element
abbrev pub whole_element_words : Version → Element → List (List ℕ)
whole_element_words version e =
    decimal e.id ∷ decimal e.expiry ∷ decimal e.origin
    ∷ (first_words version e.first ++ (decimal e.attempt ∷ e.payload ∷ []))

-- the id, or `none`
abbrev pub given_words : Option ℕ → List (List ℕ)
given_words None = codes "none" ∷ []
given_words (Some id) = decimal id ∷ []

-- what was done
abbrev pub act_words : Version → Act → List (List ℕ)
act_words version (Offer element) = codes "offer" ∷ whole_element_words version element
act_words version (Poll given) = codes "poll" ∷ given_words given
act_words version (Take id) = codes "take" ∷ decimal id ∷ []
act_words version (PollFor start timeout given) =
    codes "pollfor" ∷ decimal start ∷ decimal timeout ∷ given_words given
act_words version (Peek shown) = codes "peek" ∷ given_words shown
act_words version (Remove id found) =
    codes "remove" ∷ decimal id ∷ (if found then codes "yes" else codes "no") ∷ []
act_words version (Drain max ids) = codes "drain" ∷ decimal max ∷ map decimal ids
act_words version Clear = codes "clear" ∷ []
act_words version (Size count) = codes "size" ∷ decimal count ∷ []

-- who did what, and when
abbrev pub event_words : Version → Event → List (List ℕ)
event_words version event =
    decimal event.seat ∷ decimal event.asked ∷ decimal event.at ∷ act_words version event.act

-- which version the text has
abbrev pub header_words : Version → List (List ℕ)
header_words One = codes "history" ∷ codes "1" ∷ []
header_words Two = codes "history" ∷ codes "2" ∷ []
header_words Three = codes "history" ∷ codes "3" ∷ []

-- the numbers of an opening: the next id, the last moment, and how many elements there are
abbrev pub open_words : Opening → List (List ℕ)
open_words opening =
    codes "open" ∷ decimal opening.next_id ∷ decimal opening.last_at ∷ decimal (length opening.elements) ∷ []

-- an element of an opening
abbrev pub keep_words : Version → Element → List (List ℕ)
keep_words version element = codes "keep" ∷ whole_element_words version element

-- how many events there were
abbrev pub end_words : ℕ → List (List ℕ)
end_words count = codes "end" ∷ decimal count ∷ []
