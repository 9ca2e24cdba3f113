-- The jobs lie in reverse, so that the last one is put in next.
use Rattle.std.proofs.Common.{◌≡◌, List, [], ◌∷◌, ◌++◌, sym, ap, subst, ◌∙◌, arith, append_assoc, reverse, insert, ◌+◌}
use Rattle.std.proofs.lemmas.List.{reverse-append, reverse-reverse}
use Rattle.std.proofs.lemmas.List.Edits.{insert_end}
use Rattle.rb_delayed.specs.declared.element.Element.{Element}
use Rattle.rb_session.specs.Held.{AreNew}
use Rattle.rb_session.specs.JobMap.{held_in}
use Rattle.rb_session.proofs.GivenJobs.{first_new, others_new}
use Rattle.rb_session.proofs.JobMaps.{new_place}
use Rattle.rb_session.proofs.job_map.put_all.Goals as goal
use Rattle.rb_session.proofs.job_map.put_all.Goals.{In-Some}

pub loop-job-init : goal.loop-job-init
loop-job-init c =
    let back : reverse c.reverse.new.self.items ≡ c.args.fetched.now.items =
    ap reverse c.reverse.ensures.items ∙ reverse-reverse c.args.fetched.now.items in
    let held : List Element = held_in c.args.jobs.now.entries c.args.count in
    record {
      filed = c.requires.filed;
      few = omega (arith, c.requires.few, c.reverse.ensures.len);
      held = ap (λ (jobs : List Element). held ++ jobs) back;
      new = subst (AreNew held) (sym back) c.requires.new;
      capacity = c.reverse.ensures.capacity;
    }

-- the last one, and those before it
turned : (all rest : List Element) (job : Element) → all ≡ rest ++ job ∷ [] → reverse all ≡ job ∷ reverse rest
turned all rest job is = ap reverse is ∙ reverse-append rest (job ∷ [])

next_new : (c : In-Some) → AreNew (held_in c.loop-job.jobs.entries c.loop-job.count)
    (c.in-Some.job ∷ reverse c.pop.new.self.items)
next_new c =
    subst (AreNew (held_in c.loop-job.jobs.entries c.loop-job.count))
    (turned c.loop-job.fetched.items c.pop.new.self.items c.in-Some.job c.in-Some.ensures.items)
    c.loop-job.invariant.new

pub put-requires-clause-new : goal.put-requires-clause-new
put-requires-clause-new c =
    let held : List Element = held_in c.loop-job.jobs.entries c.loop-job.count in
    new_place held c.in-Some.job (first_new held c.in-Some.job (reverse c.pop.new.self.items)
    (next_new (goal.at.put-requires-clause-new c).In-Some))

pub loop-job-preserved : goal.loop-job-preserved
loop-job-preserved c =
    let held : List Element = held_in c.loop-job.jobs.entries c.loop-job.count in
    let rest : List Element = reverse c.pop.new.self.items in
    let is = turned c.loop-job.fetched.items c.pop.new.self.items c.in-Some.job c.in-Some.ensures.items in
    let behind : held_in c.put.new.jobs.entries (c.loop-job.count + 1) ≡ held ++ c.in-Some.job ∷ [] =
    c.put.ensures.held ∙ ap (λ n. insert held n c.in-Some.job) (sym c.loop-job.invariant.filed.counted)
    ∙ insert_end held c.in-Some.job in
    record {
      filed = c.put.ensures.filed;
      few = omega (arith, c.loop-job.invariant.few, c.in-Some.ensures.cases);
      held = ap (λ (jobs : List Element). jobs ++ rest) behind
          ∙ append_assoc held (c.in-Some.job ∷ []) rest ∙ sym (ap (λ (jobs : List Element). held ++ jobs) is)
          ∙ c.loop-job.invariant.held;
      new = subst (λ (h : List Element). AreNew h rest) (sym behind)
          (others_new held c.in-Some.job rest (next_new (goal.at.loop-job-preserved c).In-Some));
      capacity = c.in-Some.ensures.capacity ∙ c.loop-job.invariant.capacity;
    }
