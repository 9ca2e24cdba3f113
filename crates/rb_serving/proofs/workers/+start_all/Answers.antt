-- The last worker that ends is folded in behind the others, and its visits are counted with theirs.
use Rattle.std.proofs.Common.{rules, ◌≡◌, ◌<◌, ◌+◌, ◌-◌, ◌++◌, ◌∷◌, [], ℕ, sym, subst, ap, arith, ◌∙◌}
use Rattle.std.specs.Prelude.{is_ok}
use Rattle.rb_lock.specs.Passes.{PassState}
use Rattle.std.proofs.lemmas.Bool.Decides.{nat_tests}
use Rattle.rb_serving.specs.Serving.{FoldsWorkers, IsWorkerResult}
use Rattle.rb_serving.specs.Terms.{service_terms}
use Rattle.rb_serving.proofs.FoldedWorkers.{folds_one_more, gathers_more, gathers_none}
use Rattle.rb_serving.proofs.ServedRuns.{of_ok}
use Rattle.rb_serving.proofs.workers.+start_all.Goals as goal

pub returns-then-count-eq0-clause-folds : goal.returns-then-count-eq0-clause-folds
returns-then-count-eq0-clause-folds g t c =
    gathers_none (service_terms g.D.Reader.Read g.D.Writer.Recipient g.D.Gate.Gate g.C.Clock c.args.service.now)
    g.D.Door.has_joined c.args.count c.args.door c.args.pass c.default.result
    (grind (arith, nat_tests, c.if-count-eq0.true)) (search rules)

pub returns-clause-folds : goal.returns-clause-folds
returns-clause-folds g t c =
    let terms = service_terms g.D.Reader.Read g.D.Writer.Recipient g.D.Gate.Gate g.C.Clock in
    let of = terms c.args.service.now in
    let some : 0 < c.args.count = grind (arith, nat_tests, c.if-count-eq0.false) in
    let done = c.join-done.result in
    let rest = c.in-Ok-others.folded in
    let others = of_ok _ c.in-Ok-others.folded _ c.in-Ok-others.is c.start_all-door.ensures.folds in
    let serve = c.start_all-door.ensures.serve ∙ ap is_ok c.in-Ok-others.is in
    let kept = c.join-done.ensures.3 (ap g.V.Decision.serves (sym c.agrees.ensures) ∙ serve) in
    let begun = c.in-Ok-start_worker.ensures.given in
    let as_promised = subst (λ served. IsWorkerResult (terms served) c.in-Ok-start_worker.started.0.promise.start.value.capacity
    c.in-Ok-start_worker.started.0.promise.start.value.opening kept.0 done.0 done.1) c.in-Ok-start_worker.ensures.service kept.2 in
    let parts = c.join-done.ensures.1 ∙ ap (λ (start : PassState). start.parts) begun in
    let worked = subst (λ (start : PassState). IsWorkerResult of start.capacity start.opening kept.0 done.0 done.1)
    (begun ∙ c.in-Ok.ensures.child) as_promised in
    record {
      logs = others.logs ++ kept.0 ∷ [];
      gathers = gathers_more of g.D.Door.has_joined g.D.Door.has_seen c.args.door c.split-entrance.new.self
          c.start_all-door.result.0 c.join-2.new.self done.2 others.logs kept.0 c.split-entrance.ensures.out
          others.gathers kept.1 c.join-2.ensures;
      folds = subst (FoldsWorkers of c.args.count (others.logs ++ kept.0 ∷ []) c.args.pass c.fold.new.pass)
          (sym c.with.ensures)
          (folds_one_more of c.args.count others.logs kept.0 c.args.pass c.split.new.pass rest.0 done.0 c.fold.new.pass
          done.1 rest.1 some c.in-Ok.ensures.learns c.in-Ok.ensures.mine
          (ap (λ (parts : ℕ). c.split.new.pass.parts + parts) parts ∙ c.in-Ok.ensures.parts) others.folds worked c.fold.ensures);
    }

-- An entrance more may be split off, for a pass that made no call, of a later name than those before.
pub split-entrance-requires : goal.split-entrance-requires
split-entrance-requires g t c =
    let some : 0 < c.args.count = grind (arith, nat_tests, c.if-count-eq0.false) in
    let is : c.args.count ≡ (c.args.count - 1) + 1 = omega (arith, some) in
    let splits = c.requires.splits in record {
      unused = search rules;
      more = (
        c.args.count - 1,
        splits.0,
        subst (λ count. g.D.Door.may_split c.args.door count splits.0) is splits.1,
        omega (arith, splits.2, c.in-Ok.ensures.later),
      );
    }

pub start_all-door-requires-clause-splits : goal.start_all-door-requires-clause-splits
start_all-door-requires-clause-splits g t c κs within =
    let some : 0 < c.args.count = grind (arith, nat_tests, c.if-count-eq0.false) in
    let is : c.args.count ≡ (c.args.count - 1) + 1 = omega (arith, some) in
    let splits = c.requires.splits in (
      c.in-Ok.child.name + 1,
      c.split-entrance.ensures.fewer (c.args.count - 1) splits.0
          (subst (λ count. g.D.Door.may_split c.args.door count splits.0) is splits.1),
      omega (arith, c.in-Ok.ensures.noted),
    )
