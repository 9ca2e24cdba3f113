-- The words of each request.
use Rattle.std.specs.Prelude.{◌≡◌, ℕ, ◌^◌, ◌<◌, List, [], ◌∷◌, length, codes, decimal}
use Rattle.rb_delayed.specs.Payload.{IsPayload}
use Rattle.rb_protocol.specs.declared.request.Request.{Request}
use Rattle.rb_protocol.specs.declared.request.Request.TheVariants.{Offer, OfferAt, Poll, PollFor, Take, Peek, Remove}
use Rattle.rb_protocol.specs.declared.request.Request.TheVariants.{Drain, Clear, Size, Done, Fail, At, Quit}

-- what follows a keyword
pub data Arguments : Type 0 where
  nothing : Arguments
  number : ℕ → Arguments
  number_and_payload : ℕ → List ℕ → Arguments

-- a keyword with its arguments
pub record Form : Type 0 where
  pub keyword : List ℕ
  pub arguments : Arguments

abbrev pub form : List ℕ → Arguments → Form
form word behind = record { keyword = word; arguments = behind }

-- how each request is written
abbrev pub form_of : Request → Form
form_of (Offer delay payload) = form (codes "OFFER") (number_and_payload delay payload)
form_of (OfferAt expiry payload) = form (codes "OFFERAT") (number_and_payload expiry payload)
form_of Poll = form (codes "POLL") nothing
form_of (PollFor timeout) = form (codes "POLLFOR") (number timeout)
form_of Take = form (codes "TAKE") nothing
form_of Peek = form (codes "PEEK") nothing
form_of (Remove id) = form (codes "REMOVE") (number id)
form_of (Drain most) = form (codes "DRAIN") (number most)
form_of Clear = form (codes "CLEAR") nothing
form_of Size = form (codes "SIZE") nothing
form_of (Done id) = form (codes "DONE") (number id)
form_of (Fail id) = form (codes "FAIL") (number id)
form_of (At moment) = form (codes "AT") (number moment)
form_of Quit = form (codes "QUIT") nothing

-- the words after the keyword
abbrev pub argument_words : Arguments → List (List ℕ)
argument_words nothing = []
argument_words (number value) = decimal value ∷ []
argument_words (number_and_payload value payload) = decimal value ∷ payload ∷ []

-- the number is at most 2^64 - 1, and the payload is one
abbrev pub AreRight : Arguments → Type 0
AreRight nothing = Unit {0}
AreRight (number value) = value < 2 ^ 64
AreRight (number_and_payload value payload) = (value < 2 ^ 64) × IsPayload payload

-- some request has this keyword, and this many words after it
pub record Takes (keyword : List ℕ) (count : ℕ) : Type 0 where
  pub request : Request
  pub named : keyword ≡ (form_of request).keyword
  pub counted : count ≡ length (argument_words (form_of request).arguments)
