-- The law is the lemma of `Readings`: a line has one request, or one fault.
use Rattle.rb_protocol.proofs.Readings.{one_reading}
use Rattle.rb_protocol.proofs.request.one_reading.Goals as goal

pub returns : goal.returns
returns c = one_reading
