-- A right history's text has one reading, and no reading has more than 1,000,000 events.
use Rattle.rb_history.proofs.EachReadings.{reads_each}
use Rattle.rb_history.proofs.WholeTexts.{few_read}
use Rattle.rb_history.proofs.read.read_history.Goals as goal

pub returns-clause-each : goal.returns-clause-each
returns-clause-each c = reads_each c.args.text.now c.read_right.result c.read_right.ensures.right c.read_right.ensures.reads

pub returns-clause-few : goal.returns-clause-few
returns-clause-few c = few_read c.args.text.now c.read_right.result c.read_right.ensures.reads
