-- One job more has failed before those that are still held, and is counted as lost or not by its result.
use Rattle.std.proofs.Common.{◌≡◌, ℕ, ◌+◌, ◌≤◌, List, [], ◌∷◌, sym, ap, subst, refl, ◌∙◌, arith, length}
use Rattle.rb_delayed.specs.declared.element.Element.{Element}
use Rattle.rb_retry.specs.DeskRules.{desk_rules}
use Rattle.rb_session.specs.Closing.{Closes, lost_by}
use Rattle.rb_session.specs.declared.held_jobs.TheConstants.{MOST_HELD}
use Rattle.rb_session.proofs.Closings.{lost_one, lost_none}
use Rattle.rb_session.proofs.held_job_ends.fail_all.Given.{Over}
use Rattle.rb_session.proofs.held_job_ends.fail_all.Goals as goal
use Rattle.rb_session.proofs.held_job_ends.fail_all.Goals.{After-is_err}

-- the first of those that were held is taken out
first_out : (g : Over) (c : After-is_err g) → c.loop-job.held ≡ c.in-Some.job ∷ c.take_first.new.self
first_out g c = c.in-Some.ensures

one_more : (g : Over) (c : After-is_err g) (lost : ℕ) → c.loop-job.lost + lost_by c.fail.result ≡ lost
    → (more : ℕ) (new : g.D.Desk.State)
    → Closes (desk_rules g.D.Desk c.args.policy.now) (g.D.Desk.state c.fail.new.desk) c.take_first.new.self more new
    → Closes (desk_rules g.D.Desk c.args.policy.now) (g.D.Desk.state c.args.desk.now) c.args.held.now (lost + more) new
one_more g c lost is more new closes =
    let rules = desk_rules g.D.Desk c.args.policy.now in
    let before : ℕ = lost_by c.fail.result + more in
    let sum : c.loop-job.lost + before ≡ lost + more = omega (arith, is) in
    let from : Closes rules (g.D.Desk.state c.loop-job.desk) (c.in-Some.job ∷ c.take_first.new.self) before new =
    (c.now-now.result, c.now-now.ensures, c.fail.result, g.D.Desk.state c.fail.new.desk, c.fail.ensures.fails, more, closes, refl) in
    subst (λ (n : ℕ). Closes rules (g.D.Desk.state c.args.desk.now) c.args.held.now n new) sum
    (c.loop-job.invariant.closes before new
    (subst (λ (held : List Element). Closes rules (g.D.Desk.state c.loop-job.desk) held before new) (sym (first_out g c)) from))

fewer : (g : Over) (c : After-is_err g) → c.loop-job.lost + 1 + length c.take_first.new.self ≤ MOST_HELD
fewer g c = omega (arith, c.loop-job.invariant.few, ap length (first_out g c))

pub loop-job-preserved-then-is_err : goal.loop-job-preserved-then-is_err
loop-job-preserved-then-is_err g c =
    let on = (goal.at.loop-job-preserved-then-is_err g c).After-is_err in
    let one = lost_one c.fail.result (sym c.is_err.ensures.value ∙ c.if-is_err.true) in
    record {
      closes = one_more g on (c.loop-job.lost + 1) (omega (arith, one));
      few = fewer g on;
    }

pub loop-job-preserved : goal.loop-job-preserved
loop-job-preserved g c =
    let on = (goal.at.loop-job-preserved g c).After-is_err in
    let none = lost_none c.fail.result (sym c.is_err.ensures.value ∙ c.if-is_err.false) in
    let left = fewer g on in
    record {
      closes = one_more g on c.loop-job.lost (omega (arith, none));
      few = omega (arith, left);
    }

pub returns-clause-closes : goal.returns-clause-closes
returns-clause-closes g c =
    let rules = desk_rules g.D.Desk c.args.policy.now in
    let last = g.D.Desk.state c.loop-job.desk in
    let none : c.loop-job.held ≡ [] = c.in_default.ensures.0 in
    let sum : c.loop-job.lost + 0 ≡ c.loop-job.lost = omega arith in
    subst (λ (n : ℕ). Closes rules (g.D.Desk.state c.args.desk.now) c.args.held.now n last) sum
    (c.loop-job.invariant.closes 0 last
    (subst (λ (held : List Element). Closes rules last held 0 last) (sym none) (refl, refl)))
