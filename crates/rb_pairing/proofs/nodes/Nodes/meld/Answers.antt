-- The later of the two is put under the other.
use Rattle.std.proofs.Common.{◌<◌, ◌≤◌, ◌≢◌, Some, sym, ap, ◌∙◌, arith}
use Rattle.rb_pairing.specs.Nodes.{moment_of}
use Rattle.rb_pairing.proofs.Linked.{child_within, not_child}
use Rattle.rb_pairing.proofs.Roots.{melds_one, melds_other}
use Rattle.rb_pairing.proofs.nodes.Nodes.meld.Goals as goal

pub adopt-requires-clause-first : goal.adopt-requires-clause-first
adopt-requires-clause-first c = child_within c.args.self.now c.requires.linked c.in-Some-Some.second

pub adopt-requires-clause-apart : goal.adopt-requires-clause-apart
adopt-requires-clause-apart c =
    not_child c.args.self.now c.requires.linked c.in-Some-Some.second c.in-Some-Some.first
    (c.requires.one c.in-Some-Some.first c.in-Some-Some.is-0).alone

pub adopt-requires-else-is_earlier-clause-first : goal.adopt-requires-else-is_earlier-clause-first
adopt-requires-else-is_earlier-clause-first c =
    child_within c.args.self.now c.requires.linked c.in-Some-Some.first

pub adopt-requires-else-is_earlier-clause-apart : goal.adopt-requires-else-is_earlier-clause-apart
adopt-requires-else-is_earlier-clause-apart c =
    not_child c.args.self.now c.requires.linked c.in-Some-Some.first c.in-Some-Some.second
    (c.requires.other c.in-Some-Some.second c.in-Some-Some.is-1).alone

pub returns-then-is_earlier : goal.returns-then-is_earlier
returns-then-is_earlier c =
    let first = c.in-Some-Some.first in
    let second = c.in-Some-Some.second in
    let less : moment_of c.args.self.now second < moment_of c.args.self.now first =
    c.is_earlier.ensures.0 c.if-is_earlier.true in
    let apart : second ≢ first =
    λ same. c.requires.apart first c.in-Some-Some.is-0 (c.in-Some-Some.is-1 ∙ ap Some same) in
    rw (c.in-Some-Some.is-0, c.in-Some-Some.is-1)
    (melds_other c.args.self.now c.adopt.new.self second first c.requires.linked
    (c.requires.other second c.in-Some-Some.is-1) (c.requires.one first c.in-Some-Some.is-0) apart (omega arith)
    c.adopt.ensures)

pub returns-else-is_earlier : goal.returns-else-is_earlier
returns-else-is_earlier c =
    let first = c.in-Some-Some.first in
    let second = c.in-Some-Some.second in
    let less : moment_of c.args.self.now first ≤ moment_of c.args.self.now second =
    grind (arith, c.is_earlier.ensures.1, c.if-is_earlier.false) in
    let apart : first ≢ second =
    λ same. c.requires.apart first c.in-Some-Some.is-0 (c.in-Some-Some.is-1 ∙ ap Some (sym same)) in
    rw (c.in-Some-Some.is-0, c.in-Some-Some.is-1)
    (melds_one c.args.self.now c.adopt-else-is_earlier.new.self first second c.requires.linked
    (c.requires.one first c.in-Some-Some.is-0) (c.requires.other second c.in-Some-Some.is-1) apart less
    c.adopt-else-is_earlier.ensures)
