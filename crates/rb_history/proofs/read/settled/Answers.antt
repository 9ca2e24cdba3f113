-- An older version does not tell first expiries, so those that follow from its lines are right.
use Rattle.rb_history.proofs.WholeTexts.{each_settled, untold}
use Rattle.rb_history.proofs.read.settled.Goals as goal

pub returns-in-One : goal.returns-in-One
returns-in-One c = each_settled c.args.version c.args.told c.with_firsts.result (untold c.args.version c.in-One.is) c.with_firsts.ensures
