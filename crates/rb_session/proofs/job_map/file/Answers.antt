-- The entry for the job's id is filled.
use Rattle.std.proofs.Common.{Some, ap, ◌∙◌, arith, nat_eq}
use Rattle.std.specs.Map.{remove_entry}
use Rattle.indexmap.proofs.CallerLemmas.{index_map_len-with_value_at}
use Rattle.rb_delayed.specs.declared.element.Element.{Element}
use Rattle.rb_session.proofs.JobMaps.{filled}
use Rattle.rb_session.proofs.job_map.file.Goals as goal

pub returns-clause-there : goal.returns-clause-there
returns-clause-there c =
    (filled c.entry_for-at.new.jobs.entries c.entry_for-at.result (Some c.args.job) c.entry_for-at.ensures.within).0
    ∙ ap (λ k. Some (k, Some c.args.job)) (c.entry_for-at.ensures.key ∙ ap (λ (e : Element). e.id) c.element.ensures)

pub returns-clause-others : goal.returns-clause-others
returns-clause-others c =
    (filled c.entry_for-at.new.jobs.entries c.entry_for-at.result (Some c.args.job) c.entry_for-at.ensures.within).1
    ∙ c.entry_for-at.ensures.others
    ∙ ap (λ (e : Element). remove_entry (nat_eq e.id) c.args.jobs.now.entries) c.element.ensures

pub returns-clause-len : goal.returns-clause-len
returns-clause-len c =
    omega (
      arith,
      c.entry_for-at.ensures.len,
      index_map_len-with_value_at c.entry_for-at.new.jobs c.entry_for-at.result (Some c.args.job),
    )

pub returns-clause-room : goal.returns-clause-room
returns-clause-room c =
    omega (
      arith,
      c.entry_for-at.ensures.room,
      index_map_len-with_value_at c.entry_for-at.new.jobs c.entry_for-at.result (Some c.args.job),
    )
