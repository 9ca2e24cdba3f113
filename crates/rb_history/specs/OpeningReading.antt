-- What the lines of an opening say.
use Rattle.std.specs.Prelude.{◌≡◌, ◌≢◌, ◌≤◌, ℕ, ◌++◌, List, [], ◌∷◌, codes, decimal}
use Rattle.rb_queue.specs.declared.opening.TheConstants.{GREATEST_OPENING_ID, MOST_OPENING_ELEMENTS}
use Rattle.rb_history.specs.EventText.{header_words}
use Rattle.rb_history.specs.HistoryText.{line_text}
use Rattle.rb_history.specs.declared.version.Version.{Version}
use Rattle.rb_history.specs.declared.version.Version.TheVariants.{One, Two, Three}

-- the words of the line with these numbers
abbrev pub numbers_words : ℕ → ℕ → ℕ → List (List ℕ)
numbers_words next_id last_at count = codes "open" ∷ decimal next_id ∷ decimal last_at ∷ decimal count ∷ []

-- the words are the line of these numbers, which are within their limits
pub record IsOpenLine (words : List (List ℕ)) (next_id last_at count : ℕ) : Type 0 where
  pub words_are : words ≡ numbers_words next_id last_at count
  pub next : next_id ≤ GREATEST_OPENING_ID
  pub few : count ≤ MOST_OPENING_ELEMENTS

-- the text begins with no header
abbrev pub HasNoHeader : List ℕ → Type 0
HasNoHeader text = (version : Version) (behind : List ℕ) → text ≢ line_text (header_words version) ++ behind

-- which numbers a version has a line of: the first none, and the second not those of the empty opening
abbrev pub MayOpen : Version → ℕ → ℕ → ℕ → Type 0
MayOpen One next_id last_at count = ⊥
MayOpen Two next_id last_at count = ((next_id ≡ 0) × (last_at ≡ 0) × (count ≡ 0)) → ⊥
MayOpen Three next_id last_at count = Unit {0}
