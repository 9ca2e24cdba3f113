-- Where a text has its next line feed.
use Rattle.std.specs.Prelude.{ℕ, ◌==◌, List, Option, position}
use Rattle.rb_protocol.specs.declared.format.TheConstants.{LINE_FEED}

-- the place of the first line feed, if there is one
abbrev pub first_feed : List ℕ → Option ℕ
first_feed text = position (λ byte. byte == LINE_FEED) text
