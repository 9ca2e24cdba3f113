-- That values are in their ranges, one value more after the other.
use Rattle.std.proofs.Common.{◌≡◌, ℕ, ◌+◌, ◌<◌, List, [], ◌∷◌, ◌++◌, length, All, take, get_or, sym, subst}
use Rattle.std.proofs.lemmas.List.{take_more}
use Rattle.std.proofs.lemmas.List.Elements.{All-more}
use Rattle.rb_history.specs.Ranges.{IsWord, AreWords}

-- one number more
pub words_push : (ids : List ℕ) (id : ℕ) → AreWords ids → IsWord id → AreWords (ids ++ id ∷ [])
words_push [] id all small = (small, tt)
words_push (first ∷ ids) id all small = (all.0, words_push ids id all.1 small)

-- the next number of a list
pub words_more : (ids : List ℕ) (i : ℕ) (id : ℕ) → i < length ids → id ≡ get_or ids i id → AreWords (take i ids) → IsWord id → AreWords (take (i + 1) ids)
words_more ids i id within is all small =
    subst AreWords (sym (take_more ids i id within)) (words_push (take i ids) (get_or ids i id) all (subst IsWord is small))

-- the next value of a list
pub right_more : {X : Type 0} (P : X → Type 0) (xs : List X) (i : ℕ) (x : X) → i < length xs → x ≡ get_or xs i x → All P (take i xs) → P x → All P (take (i + 1) xs)
right_more P xs i x within is all right = All-more P xs i x within all (subst P is right)
