-- Lists with no slot in them, and lists with more room.
use Rattle.std.proofs.Common.{◌≡◌, ℕ, zero, suc, ◌+◌, ◌++◌, List, [], ◌∷◌, length, get_or, take, replicate, length-append, Option, None, sym, ap, ◌∙◌, refl, subst, arith}
use Rattle.std.proofs.lemmas.Option.{none-some}
use Rattle.rb_wheel.specs.declared.node.Node.{Node}
use Rattle.rb_wheel.specs.Nodes.{vacant, node_at}
use Rattle.std.proofs.lemmas.List.{take_all, length-replicate}
use Rattle.rb_wheel.specs.declared.cells.TheConstants.{CELLS}
use Rattle.rb_wheel.specs.WheelLinks.{head_at, cells_of, expiries_of, LinksAgree, AreLinked, AreSoundLists}

-- lists that look the same are linked the same way
pub AreLinked-same : (heads new_heads : List (Option ℕ)) (nodes new_nodes : List Node) (rank : ℕ → ℕ)
    → ((at : ℕ) → head_at new_heads at ≡ head_at heads at) → ((slot : ℕ) → node_at new_nodes slot ≡ node_at nodes slot)
    → AreLinked heads nodes rank → AreLinked new_heads new_nodes rank
AreLinked-same heads new_heads nodes new_nodes rank same_heads same_nodes linked =
    let heads_are : head_at heads ≡ head_at new_heads = λ i at. sym (same_heads at) i in
    let nodes_are : node_at nodes ≡ node_at new_nodes = λ i slot. sym (same_nodes slot) i in
    subst (λ (node : ℕ → Node). LinksAgree (head_at new_heads) (λ s. (node s).cell) (λ s. (node s).next) (λ s. (node s).previous) rank) nodes_are
    (subst (λ (head : ℕ → Option ℕ). LinksAgree head (λ s. (node_at nodes s).cell) (λ s. (node_at nodes s).next) (λ s. (node_at nodes s).previous) rank) heads_are linked)

nothing_linked : AreLinked [] [] (λ slot. 0)
nothing_linked = record {
  head_cell = λ at slot is. absurd (none-some slot is);
  head_first = λ at slot is. refl;
  first_head = λ at slot is first. absurd (none-some at is);
  next_previous = λ slot other is. absurd (none-some other is);
  previous_next = λ slot other is. absurd (none-some slot is);
  next_cell = λ slot other is. refl;
  next_rank = λ slot other is. absurd (none-some other is);
  free_next = λ slot is. refl;
  free_previous = λ slot is. refl;
}

-- no slot lies in any cell
pub AreLinked-none : (heads : List (Option ℕ)) (nodes : List Node)
    → ((at : ℕ) → head_at heads at ≡ None) → ((slot : ℕ) → node_at nodes slot ≡ vacant) → AreLinked heads nodes (λ slot. 0)
AreLinked-none heads nodes no_heads no_nodes = AreLinked-same [] heads [] nodes (λ slot. 0) no_heads no_nodes nothing_linked

-- what is read of a list does not change where what is read past its end is put behind it
pub get_or-padded : {X : Type 0} (xs : List X) (more i : ℕ) (d : X) → get_or (xs ++ replicate more d) i d ≡ get_or xs i d
get_or-padded [] zero i d = refl
get_or-padded [] (suc more) zero d = refl
get_or-padded [] (suc more) (suc i) d = get_or-padded [] more i d
get_or-padded (x ∷ xs) more zero d = refl
get_or-padded (x ∷ xs) more (suc i) d = get_or-padded xs more i d

-- the lists stay sound where there are heads for all cells, and no slot's node changes
pub AreSoundLists-reserved : (heads new_heads : List (Option ℕ)) (nodes new_nodes : List Node) (pad : ℕ)
    → length heads + pad ≡ CELLS → new_heads ≡ take CELLS heads ++ replicate pad None
    → ((slot : ℕ) → node_at new_nodes slot ≡ node_at nodes slot) → AreSoundLists heads nodes → AreSoundLists new_heads new_nodes
AreSoundLists-reserved heads new_heads nodes new_nodes pad fits padded same_nodes sound =
    let whole : take CELLS heads ≡ heads = take_all CELLS heads sound.few_heads in
    let now : new_heads ≡ heads ++ replicate pad None = padded ∙ ap (λ hs. hs ++ replicate pad None) whole in
    let same_heads = λ (at : ℕ). ap (λ hs. head_at hs at) now ∙ get_or-padded heads pad at None in
    let long : length new_heads ≡ length heads + pad = ap length now ∙ length-append heads (replicate pad None) ∙ ap (λ n. length heads + n) (length-replicate pad None) in
    record {
      linked = (sound.linked.0, AreLinked-same heads new_heads nodes new_nodes sound.linked.0 same_heads same_nodes sound.linked.1);
      few_heads = omega arith;
      all_heads = λ some. omega arith;
    }

-- as many free slots as nodes that lie nowhere
pub cells_of-free : (n : ℕ) → cells_of (replicate n vacant) ≡ replicate n None
cells_of-free zero = refl
cells_of-free (suc n) = ap (λ cells. None ∷ cells) (cells_of-free n)

pub expiries_of-free : (n : ℕ) → expiries_of (replicate n vacant) ≡ replicate n None
expiries_of-free zero = refl
expiries_of-free (suc n) = ap (λ expiries. None ∷ expiries) (expiries_of-free n)

-- as many heads and nodes as before, of which none is taken
pub AreSoundLists-none : (heads new_heads : List (Option ℕ)) (nodes new_nodes : List Node)
    → new_heads ≡ replicate (length heads) None → new_nodes ≡ replicate (length nodes) vacant
    → AreSoundLists heads nodes → AreSoundLists new_heads new_nodes
AreSoundLists-none heads new_heads nodes new_nodes no_heads no_nodes sound =
    let none = λ (at : ℕ). ap (λ hs. head_at hs at) no_heads ∙ get_or-padded [] (length heads) at None in
    let heads_long : length new_heads ≡ length heads = ap length no_heads ∙ length-replicate (length heads) None in
    let nodes_long : length new_nodes ≡ length nodes = ap length no_nodes ∙ length-replicate (length nodes) vacant in
    let few = sound.few_heads in
    let all = sound.all_heads in
    record {
      linked = (
        λ slot. 0,
        AreLinked-none new_heads new_nodes none
            (λ slot. ap (λ ls. node_at ls slot) no_nodes ∙ get_or-padded [] (length nodes) slot vacant),
      );
      few_heads = omega arith;
      all_heads = λ some. let enough = all (omega arith) in omega arith;
    }
