-- A history's text is read as that history, so what is said of its opening is said of the text's.
use Rattle.std.proofs.Common.{Err, Ok, subst}
use Rattle.rb_history.specs.Readings.{IsReadAs}
use Rattle.rb_ending.specs.declared.broker_fault.BrokerFault.TheVariants.{BadOpening}
use Rattle.rb_runs.proofs.Beginnings.{begins_nowhere, goes_on_same, refused, too_large}
use Rattle.rb_runs.proofs.opening.opening_in.Goals as goal

pub returns-in-Err-At-clause-each : goal.returns-in-Err-At-clause-each
returns-in-Err-At-clause-each c from events right rights is =
    absurd (subst (λ fault. IsReadAs from events (Err fault)) c.in-Err-At.field-0-is (c.in-Err-At.ensures.each from events right rights is))

pub returns-in-Ok-opening_of-clause-each : goal.returns-in-Ok-opening_of-clause-each
returns-in-Ok-opening_of-clause-each c from events right rights is =
    goes_on_same (Ok c.in-Ok-opening_of.opening) (c.in-Ok.ensures.each from events right rights is) c.in-Ok-opening_of.ensures

pub returns-in-Err-At-opening_of-clause-begins : goal.returns-in-Err-At-opening_of-clause-begins
returns-in-Err-At-opening_of-clause-begins c = begins_nowhere c.in-Ok.history.opening c.in-Ok.history.events
    c.in-Ok.ensures.reads (refused c.in-Err-At-opening_of.field-0-is c.in-Err-At-opening_of.ensures)

pub returns-in-Err-At-opening_of-clause-each : goal.returns-in-Err-At-opening_of-clause-each
returns-in-Err-At-opening_of-clause-each c from events right rights is = goes_on_same (Err BadOpening)
    (c.in-Ok.ensures.each from events right rights is) (refused c.in-Err-At-opening_of.field-0-is c.in-Err-At-opening_of.ensures)

pub returns-in-Err-TooLarge-clause-begins : goal.returns-in-Err-TooLarge-clause-begins
returns-in-Err-TooLarge-clause-begins c = begins_nowhere c.in-Ok.history.opening c.in-Ok.history.events
    c.in-Ok.ensures.reads (too_large c.in-Err-TooLarge.field-0-is c.in-Err-TooLarge.ensures)

pub returns-in-Err-TooLarge-clause-each : goal.returns-in-Err-TooLarge-clause-each
returns-in-Err-TooLarge-clause-each c from events right rights is = goes_on_same (Err BadOpening)
    (c.in-Ok.ensures.each from events right rights is) (too_large c.in-Err-TooLarge.field-0-is c.in-Err-TooLarge.ensures)
