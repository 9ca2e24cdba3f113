-- The one job that was fetched is what the answer hands out.
use Rattle.std.proofs.Common.{Option, Result, Ok, ap, subst, ◌∙◌}
use Rattle.rb_delayed.specs.declared.element.Element.{Element}
use Rattle.rb_retry.specs.Jobs.{answer_with}
use Rattle.rb_retry.specs.declared.desk_fault.DeskFault.{DeskFault}
use Rattle.rb_session.specs.Held.{AreNew}
use Rattle.rb_session.specs.Turn.{fetched_by}
use Rattle.rb_session.proofs.JobMaps.{new_place}
use Rattle.rb_session.proofs.fetches.hold.Goals as goal

pub hold-requires-clause-new : goal.hold-requires-clause-new
hold-requires-clause-new c =
    new_place c.args.held.now c.in-Ok-Some.job
    (subst (λ (fetched : Result (Option Element) DeskFault). AreNew c.args.held.now (fetched_by (answer_with fetched)))
    (c.in-Ok-Some.is ∙ ap Ok c.in-Ok-Some.field-0-is) c.requires.new)
