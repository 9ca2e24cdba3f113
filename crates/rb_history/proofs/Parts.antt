-- The parts of lists that are the same.
use Rattle.std.proofs.Common.{◌≡◌, List, [], ◌∷◌, ◌++◌, length, map, refl, sym, ap, ◌∙◌, arith}
use Rattle.std.proofs.lemmas.List.{length-map}

-- their first elements, and what stands behind them
pub head_of : {X : Type 0} (x y : X) (xs ys : List X) → x ∷ xs ≡ y ∷ ys → x ≡ y
head_of x y xs ys is = cc

pub tail_of : {X : Type 0} (x y : X) (xs ys : List X) → x ∷ xs ≡ y ∷ ys → xs ≡ ys
tail_of x y xs ys is = cc

-- lists that begin with as many elements have the same parts
pub same_parts : {X : Type 0} (front other behind rest : List X) → length front ≡ length other → front ++ behind ≡ other ++ rest
    → (front ≡ other) × (behind ≡ rest)
same_parts [] [] behind rest long is = (refl, is)
same_parts [] (y ∷ other) behind rest long is = absurd (omega (arith, long))
same_parts (x ∷ front) [] behind rest long is = absurd (omega (arith, long))
same_parts (x ∷ front) (y ∷ other) behind rest long is =
    let more = same_parts front other behind rest (omega (arith, long)) (tail_of x y (front ++ behind) (other ++ rest) is) in
    let first = head_of x y (front ++ behind) (other ++ rest) is in
    (λ i. first i ∷ more.0 i, more.1)

pub same_length : {X Y : Type 0} (f : X → Y) (xs ys : List X) → map f xs ≡ map f ys → length xs ≡ length ys
same_length f xs ys is = sym (length-map xs f) ∙ ap length is ∙ length-map ys f
