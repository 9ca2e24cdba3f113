-- A known origin keeps its expiry, and a new one gets that of this element, which is its first.
use Rattle.std.proofs.Common.{◌≡◌, Some, None, arith}
use Rattle.std.specs.Ordering.{nat_cmp}
use Rattle.std.specs.BTreeMap as tree
use Rattle.rb_history.proofs.Settlings.{is_first_known, is_first_new}
use Rattle.rb_history.proofs.firsts.Firsts.first_of.Goals as goal

pub returns-in-Some : goal.returns-in-Some
returns-in-Some c =
    let found : tree.get nat_cmp c.args.self.now.expiries c.args.element.now.origin ≡ Some c.in-Some.first = cc in
    is_first_known c.args.self.now c.args.element.now c.in-Some.first (omega arith) found

pub returns : goal.returns
returns c =
    let none : tree.get nat_cmp c.args.self.now.expiries c.args.element.now.origin ≡ None = cc in
    is_first_new c.args.self.now _ c.args.element.now (omega arith) none c.in_ok-insert.ensures.updates.1 c.in_ok-insert.ensures.updates.2
