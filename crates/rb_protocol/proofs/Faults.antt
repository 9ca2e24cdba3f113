-- Which faults the words of a line have.
use Rattle.std.proofs.Common.{◌≡◌, ℕ, ◌≤◌, List, length, sym, ap, subst, lit≤}
use Rattle.rb_protocol.specs.Form.{form_of, form, Arguments, nothing, argument_words, number, number_and_payload, Takes}
use Rattle.rb_protocol.specs.Keywords.{number_request, offer_request}
use Rattle.rb_protocol.specs.declared.keywords.NumberKeyword.{NumberKeyword}
use Rattle.rb_protocol.specs.declared.keywords.OfferKeyword.{OfferKeyword}

-- arguments are two words at most
few_words : (arguments : Arguments) → length (argument_words arguments) ≤ 2
few_words nothing = lit≤ tt
few_words (number value) = lit≤ tt
few_words (number_and_payload value payload) = lit≤ tt

-- a keyword that makes a request of a number takes one word
pub takes_number : (keyword : List ℕ) (k : NumberKeyword)
    → form_of (number_request k 0) ≡ form keyword (number 0) → Takes keyword 1
takes_number keyword k e = record {
  request = number_request k 0;
  named = sym (ap (λ f. f.keyword) e);
  counted = sym (ap (λ f. length (argument_words f.arguments)) e);
}

-- a keyword that makes a request of a number and a payload takes two
pub takes_payload : (keyword payload : List ℕ) (k : OfferKeyword)
    → form_of (offer_request k 0 payload) ≡ form keyword (number_and_payload 0 payload)
    → Takes keyword 2
takes_payload keyword payload k e = record {
  request = offer_request k 0 payload;
  named = sym (ap (λ f. f.keyword) e);
  counted = sym (ap (λ f. length (argument_words f.arguments)) e);
}

-- a request has at most two words behind its keyword
pub takes_few : (keyword : List ℕ) (count : ℕ) → Takes keyword count → count ≤ 2
takes_few keyword count h =
    subst (λ n. n ≤ 2) (sym h.counted) (few_words (form_of h.request).arguments)
