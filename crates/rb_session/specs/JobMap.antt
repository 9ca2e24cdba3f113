-- How the jobs that a session holds lie in their map. No public clause cites this module.
use Rattle.std.specs.Prelude.{◌≡◌, ℕ, ◌+◌, ◌*◌, ◌≤◌, List, [], ◌∷◌, length, map, take, Option, Some, None}
use Rattle.std.specs.Map.{values_of}
use Rattle.indexmap.specs.IndexMap.{IndexMap, index_map_len, spare}
use Rattle.rb_delayed.specs.declared.element.Element.{Element}
use Rattle.rb_session.specs.declared.held_jobs.TheConstants.{MOST_ENTRIES}

-- the elements of the entries that are not empty
abbrev pub present : List (Option Element) → List Element
present [] = []
present (None ∷ entries) = present entries
present (Some element ∷ entries) = element ∷ present entries

-- these elements, each under its id
abbrev pub filed : List Element → List (ℕ × Option Element)
filed held = map (λ element. (element.id, Some element)) held

-- the elements of this many entries
abbrev pub held_in : List (ℕ × Option Element) → ℕ → List Element
held_in entries count = present (values_of (take count entries))

-- This many entries have jobs, each under its id. No more come behind them, of jobs that ended.
pub record AreFiled {S : Type 0} (jobs : IndexMap ℕ (Option Element) S) (count : ℕ) : Type 0 where
  pub first : take count jobs.entries ≡ filed (held_in jobs.entries count)
  pub counted : length (held_in jobs.entries count) ≡ count
  pub few_ended : index_map_len jobs ≤ 2 * count
  pub room : MOST_ENTRIES ≤ index_map_len jobs + spare jobs
