-- What an option's value says, which subcommand was met with which values, and what stands in the rows of matches.
use Rattle.std.proofs.Common.{◌≡◌, ◌||◌, Bool, true, false, true≢false, cond, is_some, List, [], ◌∷◌, Option, Some, None, map, refl, sym, ap, ap₂, ◌∙◌}
use Rattle.std.specs.Prelude.{IfOk, IfNone, IfSome, IsSome, Result, Ok, Err, find, option_map, option_and_then}
use Rattle.std.specs.Option.{option_map_or}
use Rattle.std.specs.Borrow.{Bor}
use Rattle.std.specs.Str.{bytes_eq}
use Rattle.std.proofs.lemmas.Option.{none-some, same_Some}
use Rattle.clap.specs.Facts.{Entry, explicit_source}
use Rattle.clap.specs.Takes.{is_given}
use Rattle.clap.specs.Walk.{has_row, row_of, row_text}
use Rattle.clap.specs.Words.{App, HasMatchesOf, Row, Text, is_simple, matched_of, one_of, rows_of, subcommand_of, subcommand_rows_of}
use Rattle.clap.specs.declared.parser.matches.ArgMatches.{ArgMatches}
use Rattle.clap.specs.declared.parser.matches.Found.{Found}
use Rattle.clap.specs.declared.parser.matches.MatchedArg.{MatchedArg}
use Rattle.clap.specs.declared.parser.matches.ValueSource.TheVariants.{DefaultValue, CommandLine}
use Rattle.clap.proofs.TakesLemmas.{present_row}
use Rattle.rb_arguments.specs.CommandLine.{IsAskedBy, SubcommandAsks, names_both, program}
use Rattle.rb_arguments.specs.RightWords.{AreWrongWords}
use Rattle.rb_arguments.specs.declared.words.Words.{Words}

-- ---- which subcommand was met

-- a command that is the program meets the subcommand that the program reads in the words
pub met_by_program : {app : App} (scripted served : Bor (List (Bor Text))) (words : List Text) (matches : ArgMatches)
    → app ≡ program scripted served → HasMatchesOf app words matches
    → subcommand_rows_of matches ≡ subcommand_of (program scripted served) words
met_by_program scripted served words matches is has =
    let simple : is_simple (program scripted served) ≡ true = refl in
    (has (ap is_simple is ∙ simple)).1 ∙ ap (λ app. subcommand_of app words) is

-- what is met has this name and these rows, so it is the two
pub name_with_rows : {B N R : Type 0} (pair : B → N × R) (met : Option B) (name : N) (rows : R)
    → Some name ≡ option_map (λ b. (pair b).0) met → Some rows ≡ option_map (λ (p : N × R). p.1) (option_map pair met)
    → option_map pair met ≡ Some (name, rows)
name_with_rows pair None name rows named filled = absurd (none-some name (sym named))
name_with_rows pair (Some b) name rows named filled =
    sym (ap₂ (λ n r. Some (n, r)) (same_Some _ _ named) (same_Some _ _ filled))

-- what was not met is no pair
pub name_without : {B N R : Type 0} (pair : B → N × R) (met : Option B) (both : N × R) → false ≡ is_some met
    → option_map pair met ≡ Some both → ⊥
name_without pair None both none is = none-some both is
name_without pair (Some b) both none is = true≢false (sym none)

-- what the subcommand that was met asks for
pub subcommand_asks : {E : Type 0} (result : Result (Option Words) E) (met : Option (Text × List Row)) (name : Text) (rows : List Row)
    → met ≡ Some (name, rows) → IfOk result (λ asked. IfSome asked (IsAskedBy name rows))
    → IfOk result (λ asked. IsSome asked → names_both rows ≡ false)
    → IfOk result (λ asked. IfSome asked (SubcommandAsks met))
subcommand_asks (Err e) met name rows is gives alone = tt
subcommand_asks (Ok None) met name rows is gives alone = tt
subcommand_asks (Ok (Some asked)) met name rows is gives alone =
    record { name = name; rows = rows; met_is = is; alone = alone refl; gives = gives }

-- words that ask for nothing are wrong, if right ones ask for something
pub wrong_if_none : {A : Type 0} (asked : Option A) (words : List Text) → ((IsSome asked → ⊥) → AreWrongWords words)
    → IfNone asked (AreWrongWords words)
wrong_if_none None words wrong = wrong (λ some. true≢false (sym some))
wrong_if_none (Some asked) words wrong = tt

-- ---- what stands in the rows

-- an option has a row exactly if it was found
row_found : (entries : List Entry) (id : Text)
    → is_some (option_map (λ (e : Entry). e.1) (find (λ (e : Entry). bytes_eq e.0.now id) entries)) ≡ has_row id (map row_of entries)
row_found [] id = refl
row_found (entry ∷ entries) id = go (bytes_eq entry.0.now id) (row_found entries id)
  where
    go : (here : Bool) → is_some (option_map (λ (e : Entry). e.1) (find (λ (e : Entry). bytes_eq e.0.now id) entries)) ≡ has_row id (map row_of entries)
        → is_some (option_map (λ (e : Entry). e.1) (cond here (Some entry) (find (λ (e : Entry). bytes_eq e.0.now id) entries))) ≡ (here || has_row id (map row_of entries))
    go true rest = refl
    go false rest = rest

pub has_row_here : (found : Found) (id : Text) → is_some (matched_of found id) ≡ has_row id (rows_of found)
has_row_here found id = row_found found.entries.items id

-- what has no row has no value
pub no_row : (id : Text) (rows : List Row) → has_row id rows ≡ false → one_of id rows ≡ None
no_row id [] none = refl
no_row id (row ∷ rows) none = go (bytes_eq row.id id) (no_row id rows) none
  where
    go : (here : Bool) → (has_row id rows ≡ false → one_of id rows ≡ None) → (here || has_row id rows) ≡ false
        → option_and_then row_text (cond here (Some row) (find (λ (r : Row). bytes_eq r.id id) rows)) ≡ None
    go true rest none = absurd (true≢false none)
    go false rest none = rest none

-- where a value came from says whether it was given
pub given_by_words : (found : Found) (id : Text) → Some CommandLine ≡ option_and_then (λ (a : MatchedArg). a.source) (matched_of found id)
    → true ≡ is_given id (rows_of found)
given_by_words found id from = go (matched_of found id) from ∙ present_row found id
  where
    go : (matched : Option MatchedArg) → Some CommandLine ≡ option_and_then (λ (a : MatchedArg). a.source) matched
        → true ≡ option_map_or (λ (a : MatchedArg). explicit_source a.source) matched false
    go None is = absurd (none-some CommandLine (sym is))
    go (Some a) is = ap explicit_source is

pub given_by_default : (found : Found) (id : Text) → Some DefaultValue ≡ option_and_then (λ (a : MatchedArg). a.source) (matched_of found id)
    → false ≡ is_given id (rows_of found)
given_by_default found id from = go (matched_of found id) from ∙ present_row found id
  where
    go : (matched : Option MatchedArg) → Some DefaultValue ≡ option_and_then (λ (a : MatchedArg). a.source) matched
        → false ≡ option_map_or (λ (a : MatchedArg). explicit_source a.source) matched false
    go None is = absurd (none-some DefaultValue (sym is))
    go (Some a) is = ap explicit_source is

pub given_if_found : (found : Found) (id : Text) → None ≡ option_and_then (λ (a : MatchedArg). a.source) (matched_of found id)
    → is_some (matched_of found id) ≡ is_given id (rows_of found)
given_if_found found id from = go (matched_of found id) from ∙ present_row found id
  where
    go : (matched : Option MatchedArg) → None ≡ option_and_then (λ (a : MatchedArg). a.source) matched
        → is_some matched ≡ option_map_or (λ (a : MatchedArg). explicit_source a.source) matched false
    go None is = refl
    go (Some a) is = ap explicit_source is
