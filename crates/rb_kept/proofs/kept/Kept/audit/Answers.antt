-- What is kept beside the history, its books, sums and the queue's size, is what counting it gives. So the law
-- for legal histories speaks of these numbers.
use Rattle.std.proofs.Common.{◌≡◌, ◌+◌, length, refl, sym, ap, ◌∙◌, arith}
use Rattle.std.specs.FinMap as map
use Rattle.rb_ledger.specs.declared.totals.Totals.{Totals}
use Rattle.rb_queue.specs.Queue.{Queue}
use Rattle.rb_queue.specs.Counts.{left_count}
use Rattle.rb_queue.specs.declared.audit.Audit.{Audit}
use Rattle.rb_kept.proofs.kept.Kept.audit.Goals as goal

pub returns-clause-counts : goal.returns-clause-counts
returns-clause-counts g c =
    let calls : c.len.result ≡ length c.self.inside.history.items = omega arith in
    let offered = c.offered.ensures ∙ ap (λ (t : Totals). t.offered) c.self.invariant.booked in
    let given = c.given.ensures ∙ ap (λ (t : Totals). t.given) c.self.invariant.booked in
    let left : c.size.result ≡ left_count c.self.inside.opening c.self.inside.history.items = (c.size.ensures 0).permitted ∙ ap (λ (q : Queue). map.len q.bag) (sym c.self.invariant.leads) in
    let opening = ap length c.as_slice.ensures in
    rw (← c.self.view_is, calls, offered, given, c.self.invariant.summed, left, opening) refl

pub returns-clause-balanced : goal.returns-clause-balanced
returns-clause-balanced g c =
    let counts = returns-clause-counts g c in
    let law = c.each_element_counted.ensures c.args.self.now.opening c.args.self.now.history (rw (← c.self.view_is) c.self.invariant.legal) in
    ap (λ (a : Audit). a.offered + a.opening) counts ∙ law
    ∙ sym (ap (λ (a : Audit). a.given + a.removed + a.cleared + a.left) counts)
