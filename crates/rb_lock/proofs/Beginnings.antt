-- Beginnings of lists.
use Rattle.std.proofs.Common.{◌≡◌, List, [], ◌∷◌, ◌++◌, length, refl, ap, sym, ◌∙◌, arith, append_assoc, length-append}
use Rattle.std.proofs.lemmas.List.{append-nil}
use mathlib.Core.List.{IsPrefix}

-- each list begins with itself
pub prefix_self : {A : Type 0} (xs : List A) → IsPrefix xs xs
prefix_self xs = ([], append-nil xs)

-- and with the empty list
pub prefix_none : {A : Type 0} (xs : List A) → IsPrefix [] xs
prefix_none xs = (xs, refl)

pub prefix_trans : {A : Type 0} (xs ys zs : List A) → IsPrefix xs ys → IsPrefix ys zs → IsPrefix xs zs
prefix_trans xs ys zs p q = (p.0 ++ q.0, sym (append_assoc xs p.0 q.0) ∙ (ap (λ w. w ++ q.0) p.1 ∙ q.1))

-- a longer list still begins so
pub prefix_more : {A : Type 0} (xs ys more : List A) → IsPrefix xs ys → IsPrefix xs (ys ++ more)
prefix_more xs ys more p = (p.0 ++ more, sym (append_assoc xs p.0 more) ∙ ap (λ w. w ++ more) p.1)

-- what follows one beginning is determined
pub append_same : {A : Type 0} (xs ys zs : List A) → xs ++ ys ≡ xs ++ zs → ys ≡ zs
append_same [] ys zs same = same
append_same (x ∷ xs) ys zs same = append_same xs ys zs (cc same)

-- the last of a list of one is that one
pub last_of_one : {A : Type 0} (items left : List A) (last only : A) → items ≡ left ++ last ∷ [] → items ≡ only ∷ [] → items ≡ last ∷ []
last_of_one items [] last only is one = is
last_of_one items (first ∷ left) last only is one =
    let long : length (first ∷ left ++ last ∷ []) ≡ 1 = ap length (sym is ∙ one) in absurd (omega (arith, length-append left (last ∷ []), long))

-- of two lists that make none, the first is empty
pub append_none : {A : Type 0} (xs ys : List A) → xs ++ ys ≡ [] → xs ≡ []
append_none [] ys none = refl
append_none (x ∷ xs) ys none = absurd (cc none)
