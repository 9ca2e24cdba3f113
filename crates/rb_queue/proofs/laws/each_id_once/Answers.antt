-- Both laws are lemmas of `Leavings`: no id is offered twice, and none leaves twice.
use Rattle.rb_queue.proofs.Leavings.{is_offered_once, leaves_once}
use Rattle.rb_queue.proofs.laws.each_id_once.Goals as goal

pub returns-clause-offered : goal.returns-clause-offered
returns-clause-offered c = is_offered_once

pub returns-clause-leaves : goal.returns-clause-leaves
returns-clause-leaves c = leaves_once
