-- Which words of a command line are right, and why words are refused.
use Rattle.std.specs.Prelude.{◌≡◌, ◌⊎◌, true, false, List, Some, Contains, codes, take}
use Rattle.std.specs.Borrow.{Bor}
use Rattle.clap.specs.Words.{Row, Text, subcommand_of, takes}
use Rattle.clap.specs.declared.error.kind.ErrorKind.{ErrorKind}
use Rattle.clap.specs.declared.error.kind.ErrorKind.TheVariants.{DisplayHelp, DisplayVersion, OutOfMemory}
use Rattle.rb_arguments.specs.Arguments.{AreTimerNames}
use Rattle.rb_arguments.specs.CommandLine.{names_both, program}
use Rattle.rb_arguments.specs.RightValues.{AreRightFor}

-- The words are those of a command. `takes` is how clap judges words, and `subcommand_of` how it reads them. They
-- name a subcommand with values in their ranges, and they do not give both a delay and a rate.
pub record AreRightWords (scripted served : Bor (List (Bor Text))) (words : List Text) : Type 0 where
  pub taken : takes (program scripted served) words ≡ true
  pub name : Text
  pub rows : List Row
  pub met : subcommand_of (program scripted served) words ≡ Some (name, rows)
  pub alone : names_both rows ≡ false
  pub right : AreRightFor name rows

-- the words are not those of a command
pub record AreWrongWords (words : List Text) : Type 0 where
  pub scripted : Bor (List (Bor Text))
  pub scripted_are : AreTimerNames scripted
  pub served : Bor (List (Bor Text))
  pub served_are : AreTimerNames served
  pub wrong : AreRightWords scripted served words → ⊥

-- words are refused because memory ran out, or because they are wrong
abbrev pub IsRefusal : List Text → ErrorKind → Type 0
IsRefusal words kind = (kind ≡ OutOfMemory) ⊎ AreWrongWords words

-- a word that asks for help, as clap reads words: `help`, `--help`, or options of one letter of which `h` is the first
abbrev pub IsHelp : Text → Type 0
IsHelp word = (word ≡ codes "help") ⊎ ((word ≡ codes "--help") ⊎ (take 2 word ≡ codes "-h"))

-- a word among these asks for help
abbrev pub AskForHelp : List Text → Type 0
AskForHelp words = (word : Text) × Contains words word × IsHelp word

-- what is shown is no mistake, and the program ends with status 0
abbrev pub ShowsHelp : ErrorKind → Type 0
ShowsHelp kind = (kind ≡ DisplayHelp) ⊎ (kind ≡ DisplayVersion)
