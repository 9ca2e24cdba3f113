-- A fault is the first that holds: what is read before it, keyword or number, was right.
use Rattle.std.proofs.Common.{rules, ◌≡◌, [], ◌∷◌, Some, None, Err}
use Rattle.rb_protocol.specs.Form.{Takes}
use Rattle.rb_protocol.specs.Words.{place_words}
use Rattle.rb_protocol.specs.declared.line_fault.LineFault.TheVariants.{Number, Payload}
use Rattle.rb_protocol.proofs.Faults.{takes_number, takes_payload}
use Rattle.rb_protocol.proofs.request.request_of.Goals as goal
use Rattle.rb_protocol.proofs.request.request_of.Goals.{In-Two, In_ok-keyword-in-Two}

two_words : (c : In-Two) → place_words c.args.places ≡ c.in-Two.word.now ∷ c.in-Two.bytes.now ∷ []
two_words c = search rules

takes_two : (c : In_ok-keyword-in-Two) → Takes c.args.keyword.now 2
takes_two c =
    let known : c.read-in-Two.result ≡ Some c.in_ok-keyword-in-Two.keyword = search rules in
    takes_payload _ [] _ ((rw known at c.read-in-Two.ensures.some) 0 [])

pub returns-in_err-number-in-One : goal.returns-in_err-number-in-One
returns-in_err-number-in-One c =
    let refused : c.from_residual-in_err-number-in-One.result ≡ Err Number = search rules in
    let known : c.read.result ≡ Some c.in_ok-keyword-in-One.keyword = search rules in
    let none : c.read_number.result ≡ None = search rules in
    let places : place_words c.args.places ≡ c.in-One.word.now ∷ [] = search rules in
    rw (refused, places) (takes_number _ _ ((rw known at c.read.ensures.some) 0), λ h. (rw none at c.read_number.ensures.none) h.0 h.1)

pub returns-in_err-number-in-Two : goal.returns-in_err-number-in-Two
returns-in_err-number-in-Two c =
    let at = goal.at.returns-in_err-number-in-Two c in
    let refused : c.from_residual-in_err-number-in-Two.result ≡ Err Number = search rules in
    let none : c.read_number-in-Two.result ≡ None = search rules in
    rw (refused, two_words at.In-Two) (takes_two at.In_ok-keyword-in-Two, λ h. (rw none at c.read_number-in-Two.ensures.none) h.0 h.1)

pub returns-in_err-payload-in-Two : goal.returns-in_err-payload-in-Two
returns-in_err-payload-in-Two c =
    let at = goal.at.returns-in_err-payload-in-Two c in
    let refused : c.from_residual-in_err-payload-in-Two.result ≡ Err Payload = search rules in
    let value : c.read_number-in-Two.result ≡ Some c.in_ok-number-in-Two.number = search rules in
    rw (refused, two_words at.In-Two)
    (takes_two at.In_ok-keyword-in-Two, (c.in_ok-number-in-Two.number, rw value at c.read_number-in-Two.ensures.some), search rules)
