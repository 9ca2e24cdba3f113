-- What the keywords that take arguments ask for. No public clause cites this.
use Rattle.std.specs.Prelude.{ℕ, List}
use Rattle.rb_protocol.specs.declared.keywords.NumberKeyword.{NumberKeyword}
use Rattle.rb_protocol.specs.declared.keywords.NumberKeyword.TheVariants as of_number
use Rattle.rb_protocol.specs.declared.keywords.OfferKeyword.{OfferKeyword}
use Rattle.rb_protocol.specs.declared.keywords.OfferKeyword.TheVariants as of_offer
use Rattle.rb_protocol.specs.declared.request.Request.{Request}
use Rattle.rb_protocol.specs.declared.request.Request.TheVariants.{Offer, OfferAt, PollFor}
use Rattle.rb_protocol.specs.declared.request.Request.TheVariants.{Remove, Drain, Done, Fail, At}

-- the request of a keyword with this number
abbrev pub number_request : NumberKeyword → ℕ → Request
number_request of_number.PollFor timeout = PollFor timeout
number_request of_number.Remove id = Remove id
number_request of_number.Drain most = Drain most
number_request of_number.Done id = Done id
number_request of_number.Fail id = Fail id
number_request of_number.At moment = At moment

-- the request of a keyword with this number and this payload
abbrev pub offer_request : OfferKeyword → ℕ → List ℕ → Request
offer_request of_offer.Offer delay payload = Offer delay payload
offer_request of_offer.OfferAt expiry payload = OfferAt expiry payload
