-- The counting reader is the reader that it was made of.
use Rattle.std.proofs.Common.{rules, Option, List, ℕ, sym, ap, subst, ◌∙◌}
use Rattle.std.specs.Io.KnownBytes.{Appends, Consumes, IsAtEnd}
use Rattle.rb_retry.specs.DeskRules.{desk_rules}
use Rattle.rb_session.specs.Exchange.{Exchanges}
use Rattle.rb_session.specs.Ran.{Ran}
use Rattle.rb_session.specs.Rules.{session_rules, HadGotBehind}
use Rattle.rb_session.specs.declared.delivery.Delivery.TheVariants.{AtOnce}
use Rattle.rb_session.proofs.run.run_session.Goals as goal

pub returns-clause-ran : goal.returns-clause-ran
returns-clause-ran g c =
    let limited = c.run_limited-ended in
    let ran = limited.ensures.ran in
    let got = g.W.Write.contents c.args.writer.now in
    let left = g.R.Read.remaining limited.new.reader.inner.now in
    let read_name = sym (limited.ensures.same_reference ∙ c.new-reader.ensures.same_reference) in
    let write_name = sym (limited.ensures.on.same_reference ∙ c.new-writer.ensures.same_reference) in
    let fresh = ap g.W.Write.contents c.new-writer.ensures.same in
    let whole : Exchanges (g.R.Read.remaining c.args.reader.now) left got (g.W.Write.contents limited.result.0.inner.now)
    (λ came sent. Ran (session_rules (desk_rules g.D.Desk c.args.policy.now) AtOnce
    (HadGotBehind g.W.Write.contents got))
    (IsAtEnd left) (g.D.Desk.state c.args.desk.now) (record { came = came; sent = sent; ended = limited.result.1 })
    (g.D.Desk.state limited.new.desk)) = record {
      came = ran.came;
      sent = ran.sent;
      consumed = subst (λ (first : Option (List ℕ)). Consumes first left ran.came)
          (ap g.R.Read.remaining c.new-reader.ensures.same) ran.consumed;
      appended = subst (λ (first : Option (List ℕ)).
          Appends first (g.W.Write.contents limited.result.0.inner.now) ran.sent) fresh ran.appended;
      holds = subst (λ (first : Option (List ℕ)). Ran (session_rules (desk_rules g.D.Desk c.args.policy.now) AtOnce
          (HadGotBehind g.W.Write.contents first)) (IsAtEnd left) (g.D.Desk.state c.args.desk.now)
          (record { came = ran.came; sent = ran.sent; ended = limited.result.1 })
          (g.D.Desk.state limited.new.desk)) fresh ran.holds;
    } in
    search rules
