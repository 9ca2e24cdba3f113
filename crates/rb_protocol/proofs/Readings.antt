-- A line has at most one reading.
use Rattle.std.proofs.Common.{◌≡◌, ℕ, ◌<◌, zero, suc, List, [], ◌∷◌, length, get_or, Result, Ok, Err, decimal, refl, sym, ap, ◌∙◌, subst, arith}
use Rattle.std.proofs.lemmas.Fmt.{decimal_injective, decimal_nonempty}
use Rattle.rb_protocol.specs.Form.{form_of, Arguments, nothing, number, number_and_payload, argument_words, AreRight}
use Rattle.rb_protocol.specs.Line.{words_of}
use Rattle.rb_protocol.specs.Reading.{IsRequest, NoGap, HasWords, HasNumber, HasPayload, LacksNumber, LacksPayload, IsReading}
use Rattle.rb_protocol.specs.declared.request.Request.{Request}
use Rattle.rb_protocol.specs.declared.request.Request.TheVariants.{Offer, OfferAt, Poll, PollFor, Take, Peek, Remove, Drain, Clear, Size, Done, Fail, At, Quit}
use Rattle.rb_protocol.specs.declared.line_fault.LineFault.{LineFault}
use Rattle.rb_protocol.specs.declared.line_fault.LineFault.TheVariants.{Line, Syntax, Number, Payload}

-- arguments of the same words are the same
same_arguments : (one other : Arguments) → AreRight one → AreRight other
    → argument_words one ≡ argument_words other → one ≡ other
same_arguments nothing nothing h k e = refl
same_arguments (number value) (number behind) h k e =
    let texts : decimal value ≡ decimal behind = cc in
    ap number (decimal_injective value behind h k texts)
same_arguments (number_and_payload value payload) (number_and_payload behind bytes) h k e =
    let texts : decimal value ≡ decimal behind = cc in
    let values : value ≡ behind = decimal_injective value behind h.0 k.0 texts in
    let payloads : payload ≡ bytes = cc in
    cc
same_arguments one other h k e = absurd (cc)

-- Requests of the same keyword and the same arguments are the same. Two keywords differ in their
-- first byte, their second or their length.
same_request : (one other : Request) → (form_of one).keyword ≡ (form_of other).keyword
    → (form_of one).arguments ≡ (form_of other).arguments → one ≡ other
same_request (Offer a b) (Offer c d) _ e = cc
same_request (OfferAt a b) (OfferAt c d) _ e = cc
same_request Poll Poll _ _ = refl
same_request (PollFor a) (PollFor b) _ e = cc
same_request Take Take _ _ = refl
same_request Peek Peek _ _ = refl
same_request (Remove a) (Remove b) _ e = cc
same_request (Drain a) (Drain b) _ e = cc
same_request Clear Clear _ _ = refl
same_request Size Size _ _ = refl
same_request (Done a) (Done b) _ e = cc
same_request (Fail a) (Fail b) _ e = cc
same_request (At a) (At b) _ e = cc
same_request Quit Quit _ _ = refl
same_request one other e _ =
    let lengths : length (form_of one).keyword ≡ length (form_of other).keyword = ap length e in
    let firsts : get_or (form_of one).keyword 0 0 ≡ get_or (form_of other).keyword 0 0 =
    ap (λ word. get_or word 0 0) e in
    let seconds : get_or (form_of one).keyword 1 0 ≡ get_or (form_of other).keyword 1 0 =
    ap (λ word. get_or word 1 0) e in
    absurd (omega (arith, lengths, firsts, seconds))

-- a line is at most one request
one_request : (line : List ℕ) (one other : Request)
    → IsRequest line one → IsRequest line other → one ≡ other
one_request line one other h k =
    let words : (form_of one).keyword ∷ argument_words (form_of one).arguments
    ≡ (form_of other).keyword ∷ argument_words (form_of other).arguments = sym h.words ∙ k.words in
    let keywords : (form_of one).keyword ≡ (form_of other).keyword = cc in
    let behind : argument_words (form_of one).arguments
    ≡ argument_words (form_of other).arguments = cc in
    let arguments : (form_of one).arguments ≡ (form_of other).arguments =
    same_arguments _ _ h.right k.right behind in
    same_request one other keywords arguments

one_filled : (word : List ℕ) → 0 < length word → NoGap (word ∷ [])
one_filled word h zero d _ = h
one_filled word h (suc k) d below = absurd (omega arith)

two_filled : (word other : List ℕ) → 0 < length word → 0 < length other
    → NoGap (word ∷ other ∷ [])
two_filled word other h i zero d _ = h
two_filled word other h i (suc zero) d _ = i
two_filled word other h i (suc (suc k)) d below = absurd (omega arith)

-- arguments that are right have a word each, a number and a payload
filled : (arguments : Arguments) → AreRight arguments → NoGap (argument_words arguments)
filled nothing h = λ k d below. absurd (omega arith)
filled (number value) h = one_filled _ (decimal_nonempty value h)
filled (number_and_payload value payload) h =
    two_filled _ _ (decimal_nonempty value h.0) h.1.not_empty

numbered : (arguments : Arguments) → AreRight arguments → HasNumber (argument_words arguments)
numbered nothing h = tt
numbered (number value) h = (value, (refl, h))
numbered (number_and_payload value payload) h = (value, (refl, h.0))

loaded : (arguments : Arguments) → AreRight arguments → HasPayload (argument_words arguments)
loaded nothing h = tt
loaded (number value) h = tt
loaded (number_and_payload value payload) h = h.1

-- the words of a request are those of a request
words_of_request : (line : List ℕ) (request : Request) → IsRequest line request
    → HasWords line (form_of request).keyword (argument_words (form_of request).arguments)
words_of_request line request h = record {
  words = h.words;
  no_gap = filled _ h.right;
  known = record { request = request; named = refl; counted = refl };
}

-- a line has one keyword, and the same words behind it
same_places : (line keyword other : List ℕ) (places behind : List (List ℕ))
    → words_of line ≡ keyword ∷ places → words_of line ≡ other ∷ behind → places ≡ behind
same_places line keyword other places behind h k = cc

-- a request has no fault
no_fault : (line : List ℕ) (request : Request) (fault : LineFault)
    → IsReading line (Ok request) → IsReading line (Err fault) → ⊥
no_fault line request Line h k = omega (arith, h.0, k)
no_fault line request Syntax h k = k.1 _ _ (words_of_request line request h.1)
no_fault line request Number h k =
    let same = same_places line _ _ _ _ h.1.words k.1.words.words in
    k.1.no_number (subst HasNumber same (numbered _ h.1.right))
no_fault line request Payload h k =
    let same = same_places line _ _ _ _ h.1.words k.1.words.words in
    k.1.no_payload (subst HasPayload same (loaded _ h.1.right))

-- the first fault is one
number_first : (line : List ℕ) → LacksNumber line → LacksPayload line → ⊥
number_first line h k =
    h.no_number (subst HasNumber (same_places line _ _ _ _ k.words.words h.words.words) k.number)

one_fault : (line : List ℕ) (one other : LineFault)
    → IsReading line (Err one) → IsReading line (Err other) → one ≡ other
one_fault line Line Line h k = refl
one_fault line Line Syntax h k = absurd (omega (arith, h, k.0))
one_fault line Line Number h k = absurd (omega (arith, h, k.0))
one_fault line Line Payload h k = absurd (omega (arith, h, k.0))
one_fault line Syntax Line h k = absurd (omega (arith, h.0, k))
one_fault line Syntax Syntax h k = refl
one_fault line Syntax Number h k = absurd (h.1 _ _ k.1.words)
one_fault line Syntax Payload h k = absurd (h.1 _ _ k.1.words)
one_fault line Number Line h k = absurd (omega (arith, h.0, k))
one_fault line Number Syntax h k = absurd (k.1 _ _ h.1.words)
one_fault line Number Number h k = refl
one_fault line Number Payload h k = absurd (number_first line h.1 k.1)
one_fault line Payload Line h k = absurd (omega (arith, h.0, k))
one_fault line Payload Syntax h k = absurd (k.1 _ _ h.1.words)
one_fault line Payload Number h k = absurd (number_first line k.1 h.1)
one_fault line Payload Payload h k = refl

-- a line is at most one request, or has one fault
pub one_reading : (line : List ℕ) (one other : Result Request LineFault)
    → IsReading line one → IsReading line other → one ≡ other
one_reading line (Ok one) (Ok other) h k = ap Ok (one_request line one other h.1 k.1)
one_reading line (Ok request) (Err fault) h k = absurd (no_fault line request fault h k)
one_reading line (Err fault) (Ok request) h k = absurd (no_fault line request fault k h)
one_reading line (Err one) (Err other) h k = ap Err (one_fault line one other h k)
