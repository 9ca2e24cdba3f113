-- Where no job had ended, each entry is of a job that is held.
use Rattle.std.proofs.Common.{List, sym, ap, ◌∙◌, arith, position, nat_eq}
use Rattle.std.proofs.lemmas.List.{take_all}
use Rattle.std.specs.Map.{keys_of}
use Rattle.rb_session.specs.JobMap.{held_in}
use Rattle.rb_session.proofs.JobMaps.{Entry, same_place}
use Rattle.rb_session.proofs.job_map.index_of_ended.Goals as goal

pub returns-then-len-count : goal.returns-then-len-count
returns-then-len-count c =
    let entries : List Entry = c.args.jobs.now.entries in
    sym (ap (λ (es : List Entry). position (nat_eq c.args.id) (keys_of es))
    (sym (take_all c.args.count entries (omega (arith, c.if-len-count.true, c.len.ensures.len))) ∙ c.requires.filed.first)
    ∙ same_place (held_in entries c.args.count) c.args.id ∙ c.requires.new)
