-- Seven members were put in one after the other, so the object has them in the spec's order.
use Rattle.std.proofs.Common.{◌≡◌, ◌∙◌, ap, codes, rules}
use Rattle.serde_json.specs.Data.{Members, member, no_members, number, object, put, unsigned}
use Rattle.serde_json.specs.View.{members_view}
use Rattle.serde_json.proofs.OnLiterals.{serde_json_on_literals}
use Rattle.serde_json.proofs.Views.{view-Object}
use Rattle.rb_ending.proofs.audit.audit_json.Goals as goal

pub returns : goal.returns
unfolding serde_json_on_literals
returns c =
    let audit = c.args.audit.now in
    let filled : (key : _) (value : _) → Members → Members = λ key value members. put key (number (unsigned value)) members in
    let built : members_view c.put_number-7.new.object.entries ≡ member (codes "calls") (number (unsigned audit.calls))
    (member (codes "cleared") (number (unsigned audit.cleared))
    (member (codes "given") (number (unsigned audit.given))
    (member (codes "left") (number (unsigned audit.left))
    (member (codes "offered") (number (unsigned audit.offered))
    (member (codes "opening") (number (unsigned audit.opening))
    (member (codes "removed") (number (unsigned audit.removed)) no_members)))))) =
    c.in_ok-put_number-7.ensures ∙ ap (filled (codes "removed") audit.removed) (c.in_ok-put_number-6.ensures
    ∙ ap (filled (codes "opening") audit.opening) (c.in_ok-put_number-5.ensures
    ∙ ap (filled (codes "offered") audit.offered) (c.in_ok-put_number-4.ensures
    ∙ ap (filled (codes "left") audit.left) (c.in_ok-put_number-3.ensures
    ∙ ap (filled (codes "given") audit.given) (c.in_ok-put_number-2.ensures
    ∙ ap (filled (codes "cleared") audit.cleared) (c.in_ok-put_number.ensures
    ∙ ap (filled (codes "calls") audit.calls) (ap members_view c.new-object.ensures.empty))))))) in
    let shown = view-Object c.put_number-7.new.object ∙ ap object built in
    search (rules, shown)
