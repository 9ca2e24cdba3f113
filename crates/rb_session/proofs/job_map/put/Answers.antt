-- The job's entry moves to its place among the first, and what is behind them are still entries of jobs that ended.
use Rattle.std.proofs.Common.{◌≡◌, ◌+◌, List, ◌++◌, length, length-append, sym, ap, ◌∙◌, arith, nat_eq}
use Rattle.std.proofs.Common.{insert, remove, take, drop}
use Rattle.std.proofs.lemmas.List.{length-map, take-append-drop}
use Rattle.std.proofs.lemmas.List.Edits.{length-remove, length-insert}
use Rattle.std.proofs.lemmas.Option.{slice_get_within}
use Rattle.std.specs.Map.{remove_entry}
use Rattle.rb_delayed.specs.declared.element.Element.{Element}
use Rattle.rb_session.specs.JobMap.{filed, held_in}
use Rattle.rb_session.proofs.JobMaps.{Entry, entry, moves_in, removes_ended, held_first}
use Rattle.rb_session.proofs.job_map.put.Goals as goal
use Rattle.rb_session.proofs.job_map.put.Goals.{After-file-at, After-move_entry}

abbrev held : After-file-at → List Element
held c = held_in c.args.jobs.now.entries c.args.count

abbrev ended : After-file-at → List Entry
ended c = remove_entry (nat_eq c.args.job.id) (drop c.args.count c.args.jobs.now.entries)

-- the others are as they were, but that none behind them has the job's id
others : (c : After-file-at) → remove c.file-at.new.jobs.entries c.file-at.result ≡ filed (held c) ++ ended c
others c =
    let entries : List Entry = c.args.jobs.now.entries in
    let parts : entries ≡ filed (held c) ++ drop c.args.count entries =
    sym (take-append-drop c.args.count entries) ∙ ap (λ (es : List Entry). es ++ drop c.args.count entries)
    c.requires.filed.first in
    c.file-at.ensures.others ∙ ap (remove_entry (nat_eq c.args.job.id)) parts
    ∙ removes_ended (held c) (drop c.args.count entries) c.args.job.id c.requires.new

pub move_entry-requires-clause-to_within : goal.move_entry-requires-clause-to_within
move_entry-requires-clause-to_within c =
    let on = (goal.at.move_entry-requires-clause-to_within c).After-file-at in
    omega (
      arith,
      c.requires.within,
      c.requires.filed.counted,
      ap length (others on),
      length-append (filed (held on)) (ended on),
      length-map (held on) entry,
      length-remove c.file-at.new.jobs.entries c.file-at.result
          (slice_get_within c.file-at.new.jobs.entries c.file-at.result _ c.file-at.ensures.there),
    )

module _ (c : After-move_entry) where
  abbrev on : After-file-at
  on = (goal.at.After-move_entry c).After-file-at

  abbrev more : List Element
  more = insert (held on) c.args.place c.args.job

  first : (take (c.args.count + 1) c.move_entry.new.jobs.entries ≡ filed more)
      × (held_in c.move_entry.new.jobs.entries (c.args.count + 1) ≡ more)
  first =
      held_first more (ended on) c.move_entry.new.jobs.entries (c.args.count + 1)
      (c.move_entry.ensures.entries ∙ moves_in c.file-at.new.jobs.entries (held on) (ended on) c.file-at.result
      c.args.place c.args.job c.file-at.ensures.there (others on)
      (omega (arith, c.requires.within, c.requires.filed.counted)))
      (omega (
        arith,
        c.requires.filed.counted,
        length-insert (held on) c.args.place c.args.job
            (omega (arith, c.requires.within, c.requires.filed.counted)),
      ))

pub returns-clause-filed : goal.returns-clause-filed
returns-clause-filed c =
    let is = first (goal.at.returns-clause-filed c).After-move_entry in
    record {
      first = is.0 ∙ ap filed (sym is.1);
      counted = ap length is.1 ∙ omega (
        arith,
        c.requires.filed.counted,
        length-insert (held_in c.args.jobs.now.entries c.args.count) c.args.place c.args.job
            (omega (arith, c.requires.within, c.requires.filed.counted)),
      );
      few_ended = omega (arith, c.move_entry.ensures.len, c.file-at.ensures.len, c.requires.filed.few_ended);
      room =
          omega (
            arith,
            c.move_entry.ensures.len,
            c.move_entry.ensures.room,
            c.file-at.ensures.room,
            c.requires.filed.room,
          );
    }

pub returns-clause-held : goal.returns-clause-held
returns-clause-held c = (first (goal.at.returns-clause-held c).After-move_entry).1
