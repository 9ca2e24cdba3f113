-- An element's words have its numbers in order, so words that lack the next one are no element's.
use Rattle.std.proofs.Common.{◌≡◌, List, ℕ, [], ◌∷◌, ◌++◌, decimal, sym, ap, ◌∙◌}
use Rattle.rb_protocol.specs.Words.{words_behind}
use Rattle.rb_delayed.specs.declared.element.Element.{Element}
use Rattle.rb_history.specs.EventText.{first_words, whole_element_words}
use Rattle.rb_history.specs.declared.version.Version.{Version}
use Rattle.rb_history.proofs.Spelled.{behind_first, behind_word}
use Rattle.rb_history.proofs.words.last_element.Goals as goal

-- an element's words from its first expiry on, and from its attempt on
abbrev first_on : Version → Element → List (List ℕ)
first_on version element = first_words version element.first ++ (decimal element.attempt ∷ element.payload ∷ [])

-- what is left of an element's words behind those that were taken
module _ (version : Version) (element : Element) (words : List (List ℕ)) (is : words ≡ whole_element_words version element)
    (id : List ℕ) (one : List (List ℕ)) (takes_id : words ≡ id ∷ one) where
  behind_id : one ≡ decimal element.expiry ∷ decimal element.origin ∷ first_on version element
  behind_id = behind_word words one _ id _ takes_id is

  module _ (expiry : List ℕ) (two : List (List ℕ)) (takes_expiry : one ≡ expiry ∷ two) where
    behind_expiry : two ≡ decimal element.origin ∷ first_on version element
    behind_expiry = behind_word one two _ expiry _ takes_expiry behind_id

    module _ (origin : List ℕ) (three : List (List ℕ)) (takes_origin : two ≡ origin ∷ three) where
      behind_origin : three ≡ first_on version element
      behind_origin = behind_word two three _ origin _ takes_origin behind_expiry

      module _ (first : ℕ) (four : List (List ℕ)) (takes_first : three ≡ first_words version first ++ four) where
        behind_first_one : four ≡ decimal element.attempt ∷ element.payload ∷ []
        behind_first_one = behind_first version first element.first four _ (sym takes_first ∙ behind_origin)

        behind_attempt : (attempt : List ℕ) (five : List (List ℕ)) → four ≡ attempt ∷ five → five ≡ element.payload ∷ []
        behind_attempt attempt five takes_attempt = behind_word four five _ attempt _ takes_attempt behind_first_one

pub returns-in_err-expiry-clause-none : goal.returns-in_err-expiry-clause-none
returns-in_err-expiry-clause-none c =
    rw c.from_residual-in_err-expiry.ensures (λ element right is.
    c.in_err-expiry.ensures.none element.expiry _ right.expiry
    (behind_id c.args.version element _ is _ _ c.in_ok-id.ensures.some))

pub returns-in_err-origin-clause-none : goal.returns-in_err-origin-clause-none
returns-in_err-origin-clause-none c =
    rw c.from_residual-in_err-origin.ensures (λ element right is.
    c.in_err-origin.ensures.none element.origin _ right.origin
    (behind_expiry c.args.version element _ is _ _ c.in_ok-id.ensures.some _ _ c.in_ok-expiry.ensures.some))

pub returns-in_err-first-clause-none : goal.returns-in_err-first-clause-none
returns-in_err-first-clause-none c =
    rw c.from_residual-in_err-first.ensures (λ element right is.
    c.in_err-first.ensures.none element.first _ right.first
    (behind_origin c.args.version element _ is _ _ c.in_ok-id.ensures.some _ _ c.in_ok-expiry.ensures.some
    _ _ c.in_ok-origin.ensures.some))

pub returns-in_err-attempt-clause-none : goal.returns-in_err-attempt-clause-none
returns-in_err-attempt-clause-none c =
    rw c.from_residual-in_err-attempt.ensures (λ element right is.
    c.in_err-attempt.ensures.none element.attempt _ element.attempt_from_one element.attempt_in_range
    (behind_first_one c.args.version element _ is _ _ c.in_ok-id.ensures.some _ _ c.in_ok-expiry.ensures.some
    _ _ c.in_ok-origin.ensures.some c.in_ok-first.first _ c.in_ok-first.ensures.some))

pub returns-in_err-payload-clause-none : goal.returns-in_err-payload-clause-none
returns-in_err-payload-clause-none c =
    rw c.from_residual-in_err-payload.ensures (λ element right is.
    c.in_err-payload.ensures.none element.payload right.payload
    (behind_attempt c.args.version element _ is _ _ c.in_ok-id.ensures.some _ _ c.in_ok-expiry.ensures.some
    _ _ c.in_ok-origin.ensures.some c.in_ok-first.first _ c.in_ok-first.ensures.some _ _ c.in_ok-attempt.ensures.some))

pub returns-clause-some : goal.returns-clause-some
returns-clause-some c =
    c.in_ok-id.ensures.some ∙ ap (λ words. decimal c.in_ok-id.id ∷ words)
    (c.in_ok-expiry.ensures.some ∙ ap (λ words. decimal c.in_ok-expiry.expiry ∷ words)
    (c.in_ok-origin.ensures.some ∙ ap (λ words. decimal c.in_ok-origin.origin ∷ words)
    (c.in_ok-first.ensures.some ∙ ap (λ words. first_words c.args.version c.in_ok-first.first ++ words)
    (c.in_ok-attempt.ensures.some ∙ ap (λ words. decimal c.in_ok-attempt.attempt ∷ words)
    c.in_ok-payload.ensures.some))))
