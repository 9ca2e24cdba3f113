-- One word more is one id more; the first word that is no number shows that they are no ids.
use Rattle.std.proofs.Common.{◌≡◌, ℕ, List, [], ◌∷◌, ◌++◌, decimal, map, sym, ap, ◌∙◌, append_assoc}
use Rattle.std.proofs.lemmas.List.{map-append}
use Rattle.rb_history.proofs.Keywords.{ids_stop}
use Rattle.rb_history.proofs.RightValues.{words_push}
use Rattle.rb_history.proofs.read_act.read_ids.Goals as goal

pub returns-in_default-read_number : goal.returns-in_default-read_number
returns-in_default-read_number c = λ ids all is.
    let found = ids_stop c.loop-word.ids.items _ _ ids
    (ap (λ t. map decimal c.loop-word.ids.items ++ t) (sym c.in-Some.ensures.some) ∙ sym c.loop-word.invariant.words ∙ is) all in
    c.in_default-read_number.ensures.none found.0 (found.2, found.1)

-- one word more
word_more : (words rest behind : List (List ℕ)) (word : List ℕ) (ids : List ℕ) (id : ℕ) → words ≡ map decimal ids ++ rest → rest ≡ word ∷ behind → word ≡ decimal id
    → words ≡ map decimal (ids ++ id ∷ []) ++ behind
word_more words rest behind word ids id so_far cut is =
    so_far ∙ ap (λ t. map decimal ids ++ t) (cut ∙ ap (λ w. w ∷ behind) is) ∙ sym (append_assoc (map decimal ids) (decimal id ∷ []) behind)
    ∙ ap (λ t. t ++ behind) (sym (map-append decimal ids (id ∷ [])))

pub loop-word-preserved : goal.loop-word-preserved
loop-word-preserved c = record {
  words = rw c.in_ok-push.ensures.items
      (word_more _ _ _ _ c.loop-word.ids.items c.in-Some-read_number.id c.loop-word.invariant.words c.in-Some.ensures.some c.in-Some-read_number.ensures.some.0);
  right = rw c.in_ok-push.ensures.items (words_push c.loop-word.ids.items c.in-Some-read_number.id c.loop-word.invariant.right c.in-Some-read_number.ensures.some.1);
}
