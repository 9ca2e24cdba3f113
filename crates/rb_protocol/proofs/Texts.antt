-- A line is a request exactly where it is that request's text.
use Rattle.std.proofs.Common.{◌≡◌, ℕ, ◌<◌, ◌≤◌, ◌^◌, ◌==◌, Bool, true, false, not, List, [], ◌∷◌, length, get_or, decimal, ◌↔◌, refl, sym, ap, ◌∙◌, arith}
use Rattle.std.proofs.lemmas.Bool.Decides.{nat_tests}
use Rattle.std.proofs.lemmas.Grind.{get_or_default_zero}
use Rattle.std.proofs.lemmas.List.Splits.{slice_split_at, slice_split_none, join_with_byte-slice_split}
use Rattle.std.proofs.lemmas.List.Sums.{fails_before_first, AllPass-from_list_all}
use Rattle.std.proofs.lemmas.Str.Parse.{digit_at}
use Rattle.std.specs.Int.{IsInRange}
use Rattle.std.specs.List.{All, list_all}
use Rattle.rb_delayed.specs.Payload.{IsPayload, is_visible}
use Rattle.rb_delayed.specs.declared.payload.TheConstants.{LEAST_PAYLOAD_BYTE}
use Rattle.rb_protocol.proofs.Cuts.{at_end}
use Rattle.rb_protocol.proofs.Numbers.{number_digits}
use Rattle.rb_protocol.specs.Form.{form_of, Arguments, nothing, number, number_and_payload, argument_words, AreRight}
use Rattle.rb_protocol.specs.Line.{spaced, words_of}
use Rattle.rb_protocol.specs.Reading.{IsRequest, request_text}
use Rattle.rb_protocol.specs.declared.format.TheConstants.{SPACE}
use Rattle.rb_protocol.specs.declared.request.Request.{Request}
use Rattle.rb_protocol.specs.declared.request.Request.TheVariants.{Offer, OfferAt, Poll, PollFor, Take, Peek, Remove, Drain, Clear, Size, Done, Fail, At, Quit}

abbrev NoSpace : List ℕ → Type 0
NoSpace word = All (λ byte. (byte == SPACE) ≡ false) word

-- no keyword has a space
spaceless : (request : Request)
    → list_all (λ byte. not (byte == SPACE)) (form_of request).keyword ≡ true
spaceless (Offer _ _) = refl
spaceless (OfferAt _ _) = refl
spaceless Poll = refl
spaceless (PollFor _) = refl
spaceless Take = refl
spaceless Peek = refl
spaceless (Remove _) = refl
spaceless (Drain _) = refl
spaceless Clear = refl
spaceless Size = refl
spaceless (Done _) = refl
spaceless (Fail _) = refl
spaceless (At _) = refl
spaceless Quit = refl

false_of : (b : Bool) → not b ≡ true → b ≡ false
false_of false h = refl
false_of true h = absurd (cc)

keyword_spaceless : (request : Request) → NoSpace (form_of request).keyword
keyword_spaceless request = λ k d below. false_of _ (AllPass-from_list_all _ _ (spaceless request) k d below)

-- nor has a number, or a payload
above_space : (byte : ℕ) → LEAST_PAYLOAD_BYTE ≤ byte → (byte == SPACE) ≡ false
above_space byte h = grind (arith, nat_tests)

number_spaceless : (value : ℕ) → value < 2 ^ 64 → NoSpace (decimal value)
number_spaceless value h = λ k d below.
    let range : IsInRange 48 57 (get_or (decimal value) k 0) =
    digit_at (decimal value) k (number_digits _ value (refl, h)) below in
    let same : get_or (decimal value) k d ≡ get_or (decimal value) k 0 =
    get_or_default_zero (decimal value) k d below in
    above_space _ (omega (arith, range))

visible_above : (byte : ℕ) → not (is_visible byte) ≡ false → LEAST_PAYLOAD_BYTE ≤ byte
visible_above byte h = grind (arith, nat_tests)

payload_spaceless : (payload : List ℕ) → IsPayload payload → NoSpace payload
payload_spaceless payload h = λ k d below.
    let all : length payload ≤ _ = at_end _ _ h.visible in
    above_space _ (visible_above _ (fails_before_first (λ byte. not (is_visible byte)) payload k d (omega arith)))

-- so words with spaces between them are taken apart again
words_of-spaced : (keyword : List ℕ) (arguments : Arguments) → NoSpace keyword → AreRight arguments
    → words_of (spaced (keyword ∷ argument_words arguments)) ≡ keyword ∷ argument_words arguments
words_of-spaced keyword nothing h k = slice_split_none _ keyword h
words_of-spaced keyword (number value) h k =
    slice_split_at _ keyword SPACE (decimal value) h refl
    ∙ ap (λ words. keyword ∷ words) (slice_split_none _ (decimal value) (number_spaceless value k))
words_of-spaced keyword (number_and_payload value payload) h k =
    slice_split_at _ keyword SPACE (spaced (decimal value ∷ payload ∷ [])) h refl
    ∙ ap (λ words. keyword ∷ words)
    (slice_split_at _ (decimal value) SPACE payload (number_spaceless value k.0) refl
    ∙ ap (λ words. decimal value ∷ words) (slice_split_none _ payload (payload_spaceless payload k.1)))

-- a line is a request exactly where it is that request's text
pub request_has_text : (line : List ℕ) (request : Request)
    → IsRequest line request
    ↔ ((line ≡ request_text request) × AreRight (form_of request).arguments)
request_has_text line request = (
  λ h. (sym (join_with_byte-slice_split SPACE line) ∙ ap spaced h.words, h.right),
  λ h. record {
    words = ap words_of h.0 ∙ words_of-spaced _ _ (keyword_spaceless request) h.1;
    right = h.1;
  },
)
