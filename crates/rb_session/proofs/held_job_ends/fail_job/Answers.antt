-- The job of the id fails at its place, and its line tells the verdict.
use Rattle.std.proofs.Common.{◌≡◌, ℕ, List, [], ◌∷◌, Option, Some, Result, Ok, Err, refl, sym, ap, subst, ◌∙◌, zero, suc}
use Rattle.std.proofs.Common.{insert, remove, slice_get}
use Rattle.std.specs.Prelude.{MatchOption}
use Rattle.rb_delayed.specs.declared.element.Element.{Element}
use Rattle.rb_kept.specs.declared.fault.CallFault.{CallFault}
use Rattle.rb_protocol.specs.declared.line_reply.LineReply.{LineReply}
use Rattle.rb_retry.specs.DeskRules.{desk_rules}
use Rattle.rb_retry.specs.Jobs.{FailsTo}
use Rattle.rb_retry.specs.declared.desk_fault.DeskFault.{DeskFault}
use Rattle.rb_retry.specs.declared.desk_fault.DeskFault.TheVariants.{Full, Memory, Stopped}
use Rattle.rb_retry.specs.declared.verdict.Verdict.{Verdict}
use Rattle.rb_retry.specs.declared.verdict.Verdict.TheVariants.{Again, Dead}
use Rattle.rb_session.specs.Progress.{replies_of}
use Rattle.rb_session.specs.Turn.{fault_line}
use Rattle.rb_session.proofs.held_job_ends.fail_job.Given.{Over}
use Rattle.rb_session.proofs.held_job_ends.fail_job.Goals as goal
use Rattle.rb_session.proofs.held_job_ends.fail_job.Goals.{After-fail}

-- what holds at the place that there is
at_place : (place : Option ℕ) (at : ℕ) → place ≡ Some at → (None' : Type 0) (There : ℕ → Type 0) → There at
    → MatchOption place None' There
at_place place at is None' There holds = subst (λ (p : Option ℕ). MatchOption p None' There) (sym is) holds

-- an element that is put back to its place
put_back : (held : List Element) (place : ℕ) (element : Element) → slice_get held place ≡ Some element
    → insert (remove held place) place element ≡ held
put_back [] place element there = absurd (cc)
put_back (first ∷ held) zero element there =
    let same : element ≡ first = cc in
    ap (λ (e : Element). e ∷ held) same
put_back (first ∷ held) (suc place) element there =
    ap (λ (es : List Element). first ∷ es) (put_back held place element there)

-- a fault's line is one alone
one_line : (fault : DeskFault) (held : List Element) → replies_of (fault_line fault) held ≡ fault_line fault ∷ []
one_line Full held = refl
one_line Memory held = refl
one_line Stopped held = refl

-- how the job failed, by the result
failed : (g : Over) (c : After-fail g) (result : Result Verdict (Element × CallFault)) → c.fail.result ≡ result
    → FailsTo (desk_rules g.D.Desk c.args.policy.now) c.take_out.result c.args.now (g.D.Desk.state c.args.desk.now)
    result (g.D.Desk.state c.fail.new.desk)
failed g c result is =
    subst (λ (r : Result Verdict (Element × CallFault)). FailsTo (desk_rules g.D.Desk c.args.policy.now)
    c.take_out.result c.args.now (g.D.Desk.state c.args.desk.now) r (g.D.Desk.state c.fail.new.desk)) is
    c.fail.ensures.fails

pub returns-in-Ok-Again : goal.returns-in-Ok-Again
returns-in-Ok-Again g c =
    at_place _ c.in-Some.place (sym c.place_of.ensures ∙ c.in-Some.is) _ _ (
      c.take_out.result,
      c.take_out.ensures.job,
      Ok (Again c.in-Ok-Again.field-0-0),
      failed g (goal.at.returns-in-Ok-Again g c).After-fail _ (c.in-Ok-Again.is ∙ ap Ok c.in-Ok-Again.field-0-is),
      refl,
      c.take_out.ensures.rest,
    )

pub returns-in-Ok-Dead : goal.returns-in-Ok-Dead
returns-in-Ok-Dead g c =
    at_place _ c.in-Some.place (sym c.place_of.ensures ∙ c.in-Some.is) _ _ (
      c.take_out.result,
      c.take_out.ensures.job,
      Ok (Dead c.in-Ok-Dead.dead),
      failed g (goal.at.returns-in-Ok-Dead g c).After-fail _ (c.in-Ok-Dead.is ∙ ap Ok c.in-Ok-Dead.field-0-is),
      refl,
      c.take_out.ensures.rest,
    )

pub returns-in-Err : goal.returns-in-Err
returns-in-Err g c =
    let fails = failed g (goal.at.returns-in-Err g c).After-fail _ c.in-Err.is in
    at_place _ c.in-Some.place (sym c.place_of.ensures ∙ c.in-Some.is) _ _ (
      c.take_out.result,
      c.take_out.ensures.job,
      Err (c.in-Err.job, c.in-Err.fault),
      fails,
      ap (λ (line : LineReply). replies_of line c.put_back.new.self) c.fault_line.ensures
          ∙ one_line c.from.result c.put_back.new.self
          ∙ ap (λ (fault : DeskFault). fault_line fault ∷ []) c.from.ensures,
      c.put_back.ensures
          ∙ ap (λ (held : List Element). insert held c.in-Some.place c.in-Err.job) c.take_out.ensures.rest
          ∙ put_back c.args.held.now c.in-Some.place c.in-Err.job
          (c.take_out.ensures.job ∙ ap Some (sym fails.3)),
    )
