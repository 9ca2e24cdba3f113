-- One offer is one try, which was answered, and makes no more events than the history has room for.
use Rattle.std.proofs.Common.{Ok, refl, sym, ap, ◌∙◌}
use Rattle.rb_kept.specs.declared.outcome.Outcome.TheVariants.{Done}
use Rattle.rb_retry.specs.KeptSteps.{answer_of}
use Rattle.rb_retry.proofs.MadeCounts.{made_few}
use Rattle.rb_retry.proofs.kept_desk.KeptDeskDesk.offer.Goals as goal

pub returns-in_err-outcome-clause-few : goal.returns-in_err-outcome-clause-few
returns-in_err-outcome-clause-few g c =
    let desk = c.args.self.now in
    made_few desk.kept.now _ c.act.result c.act.new.self desk.before c.act.ensures.step desk.few desk.most

pub returns-clause-few : goal.returns-clause-few
returns-clause-few g c =
    let desk = c.args.self.now in
    made_few desk.kept.now _ c.act.result c.act.new.self desk.before c.act.ensures.step desk.few desk.most

pub returns-clause-step : goal.returns-clause-step
returns-clause-step g c = record {
  earlier = c.args.self.now.earlier;
  outcome = c.act.result;
  answers = sym (ap answer_of (c.in_ok-outcome.was ∙ ap Ok (c.in-Done.is ∙ ap Done c.in-Offered.is)));
  steps = c.act.ensures.step;
  counts = c.act.ensures.tally;
  stays = refl;
}
