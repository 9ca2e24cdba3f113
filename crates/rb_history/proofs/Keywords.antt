-- Which act a line's words are: the keyword tells the acts apart.
use Rattle.std.proofs.Common.{◌≡◌, ◌≢◌, ℕ, ◌+◌, ◌*◌, Bool, List, [], ◌∷◌, ◌++◌, length, get_or, ap, sym, subst, ◌∙◌, arith, codes, decimal, map, Option}
use Rattle.std.specs.Prelude.{if◌then◌else◌}
use Rattle.std.proofs.lemmas.Slice.Eq.{HasBytesAt, text_from_reads}
use Rattle.rb_queue.specs.declared.act.Act.{Act}
use Rattle.rb_queue.specs.declared.act.Act.TheVariants.{Offer, Poll, Take, PollFor, Peek, Remove, Drain, Clear, Size}
use Rattle.rb_history.specs.declared.version.Version.{Version}
use Rattle.rb_history.specs.EventText.{act_words, given_words}
use Rattle.rb_history.specs.LineReading.{ReadsAct}
use Rattle.rb_history.specs.Ranges.{IsWord, AreWords, IsRightGiven, IsRightAct}

-- the first words of the same lists are the same
heads : (one other : List ℕ) (words behind : List (List ℕ)) → one ∷ words ≡ other ∷ behind → one ≡ other
heads one other words behind is = cc

tails_same : (one other : List ℕ) (words behind : List (List ℕ)) → one ∷ words ≡ other ∷ behind → words ≡ behind
tails_same one other words behind is = cc

-- words whose first has a keyword's bytes are the act, or none, that is read behind that keyword
pub reads_keyword : (version : Version) (words behind : List (List ℕ)) (word keyword : List ℕ) (found : Option Act)
    → words ≡ word ∷ behind → length word ≡ length keyword → HasBytesAt word 0 keyword
    → ReadsAct version (keyword ∷ behind) found → ReadsAct version words found
reads_keyword version words behind word keyword found cut long bytes reads =
    subst (λ all. ReadsAct version all found) (sym (cut ∙ ap (λ w. w ∷ behind) (text_from_reads word keyword long bytes))) reads

-- a word that is no keyword
pub record IsNoKeyword (word : List ℕ) : Type 0 where
  pub offer : word ≢ codes "offer"
  pub poll : word ≢ codes "poll"
  pub take : word ≢ codes "take"
  pub pollfor : word ≢ codes "pollfor"
  pub peek : word ≢ codes "peek"
  pub remove : word ≢ codes "remove"
  pub drain : word ≢ codes "drain"
  pub clear : word ≢ codes "clear"
  pub size : word ≢ codes "size"

-- words that begin with such a word are no act
pub no_act : (version : Version) (words behind : List (List ℕ)) (word : List ℕ) → words ≡ word ∷ behind → IsNoKeyword word → (act : Act) → words ≢ act_words version act
no_act version words behind word cut none (Offer element) is = none.offer (heads _ _ _ _ (sym cut ∙ is))
no_act version words behind word cut none (Poll given) is = none.poll (heads _ _ _ _ (sym cut ∙ is))
no_act version words behind word cut none (Take id) is = none.take (heads _ _ _ _ (sym cut ∙ is))
no_act version words behind word cut none (PollFor start timeout given) is = none.pollfor (heads _ _ _ _ (sym cut ∙ is))
no_act version words behind word cut none (Peek shown) is = none.peek (heads _ _ _ _ (sym cut ∙ is))
no_act version words behind word cut none (Remove id found) is = none.remove (heads _ _ _ _ (sym cut ∙ is))
no_act version words behind word cut none (Drain max ids) is = none.drain (heads _ _ _ _ (sym cut ∙ is))
no_act version words behind word cut none Clear is = none.clear (heads _ _ _ _ (sym cut ∙ is))
no_act version words behind word cut none (Size count) is = none.size (heads _ _ _ _ (sym cut ∙ is))

-- a number that tells the keywords apart
abbrev pub mark : List ℕ → ℕ
mark word = length word * 65536 + get_or word 0 0 * 256 + get_or word 1 0

pub only_pollfor : (version : Version) (behind : List (List ℕ)) → ((start timeout : ℕ) (given : Option ℕ) → IsWord start → IsWord timeout → IsRightGiven given → behind ≢ decimal start ∷ decimal timeout ∷ given_words given) → (act : Act) → IsRightAct act
    → codes "pollfor" ∷ behind ≢ act_words version act
only_pollfor version behind none (PollFor start timeout given) right is = none start timeout given right.0 right.1 right.2 (tails_same _ _ _ _ is)
only_pollfor version behind none act right is = absurd (omega (arith, ap mark (heads _ _ _ _ is)))

pub only_remove : (version : Version) (behind : List (List ℕ)) → ((id : ℕ) (found : Bool) → IsWord id → behind ≢ decimal id ∷ (if found then codes "yes" else codes "no") ∷ []) → (act : Act) → IsRightAct act
    → codes "remove" ∷ behind ≢ act_words version act
only_remove version behind none (Remove id found) right is = none id found right (tails_same _ _ _ _ is)
only_remove version behind none act right is = absurd (omega (arith, ap mark (heads _ _ _ _ is)))

pub only_clear : (version : Version) (behind : List (List ℕ)) → (behind ≢ []) → (act : Act) → IsRightAct act
    → codes "clear" ∷ behind ≢ act_words version act
only_clear version behind none Clear right is = none (tails_same _ _ _ _ is)
only_clear version behind none act right is = absurd (omega (arith, ap mark (heads _ _ _ _ is)))

-- the first word that is no number, of words that are numbers, is one after all
pub ids_stop : (front : List ℕ) (word : List ℕ) (behind : List (List ℕ)) (ids : List ℕ) → map decimal front ++ (word ∷ behind) ≡ map decimal ids
    → AreWords ids → (id : ℕ) × IsWord id × (word ≡ decimal id)
ids_stop [] word behind [] is all = absurd (cc)
ids_stop [] word behind (id ∷ ids) is all = (id, all.0, heads _ _ _ _ is)
ids_stop (first ∷ front) word behind [] is all = absurd (cc)
ids_stop (first ∷ front) word behind (id ∷ ids) is all = ids_stop front word behind ids (tails_same _ _ _ _ is) all.1
