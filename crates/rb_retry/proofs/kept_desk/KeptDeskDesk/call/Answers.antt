-- One call makes no more events than the history has room for.
use Rattle.rb_retry.proofs.MadeCounts.{made_few}
use Rattle.rb_retry.proofs.kept_desk.KeptDeskDesk.call.Goals as goal

pub returns-clause-few : goal.returns-clause-few
returns-clause-few g c =
    let desk = c.args.self.now in
    made_few desk.kept.now _ c.act.result c.act.new.self desk.before c.act.ensures.step desk.few desk.most
