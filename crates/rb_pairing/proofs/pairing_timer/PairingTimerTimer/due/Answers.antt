-- The least entry is due, or none is.
use Rattle.std.proofs.Common.{rules, ◌≡◌, None, MatchOption, nat_le}
use Rattle.std.specs.Bool.{then_some}
use Rattle.rb_timer.specs.Slots.{content_of}
use Rattle.rb_timer.proofs.Least.{IsDueEntry-from_least}
use Rattle.rb_pairing.specs.Nodes.{expiries}
use Rattle.rb_pairing.proofs.pairing_timer.PairingTimerTimer.due.Goals as goal

pub returns-clause-due : goal.returns-clause-due
returns-clause-due c =
    let timer = c.args.self.now in
    let due = c.filter.result in
    let filtered : MatchOption c.least.result (due ≡ None) (λ entry. due ≡ then_some (nat_le entry.1 c.args.now) entry) =
    search rules in
    IsDueEntry-from_least (content_of (expiries timer.nodes))
    c.args.now c.least.result due c.least.ensures filtered
