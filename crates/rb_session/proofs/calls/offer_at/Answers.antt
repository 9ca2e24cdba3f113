-- The fault of a refused offer is the desk's fault for it.
use Rattle.std.proofs.Common.{ap, Err, ◌∙◌}
use Rattle.rb_session.specs.Turn.{fault_line}
use Rattle.rb_session.proofs.calls.offer_at.Goals as goal

pub returns-in-Err : goal.returns-in-Err
returns-in-Err g c = record {
  draft = c.first.result;
  is_first = record {
    expiry = c.first.ensures.expiry;
    origin = c.first.ensures.origin;
    first = c.first.ensures.first;
    attempt = c.first.ensures.attempt;
    payload = c.first.ensures.payload;
  };
  offered = Err c.in-Err.fault;
  steps = c.in-Err.ensures.step;
  line = c.fault_line.ensures ∙ ap fault_line c.from.ensures;
}
