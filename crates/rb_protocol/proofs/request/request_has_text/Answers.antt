-- The law is the lemma of `Texts`: the requests of a line are those whose text it is.
use Rattle.rb_protocol.proofs.Texts.{request_has_text}
use Rattle.rb_protocol.proofs.request.request_has_text.Goals as goal

pub returns : goal.returns
returns c = request_has_text
