-- The lines are read up to the last one, and each fault is answered with the number of its line.
use Rattle.std.proofs.Common.{◌≡◌, ◌+◌, ◌<◌, ◌≤◌, length, subst, ap, ◌∙◌, arith}
use Rattle.std.proofs.lemmas.Result.{err_from_is_err_and}
use Rattle.rb_protocol.specs.Line.{words_of}
use Rattle.rb_history.specs.LineReading.{ReadsEvent}
use Rattle.rb_history.specs.declared.write.TheConstants.{MOST_EVENTS}
use Rattle.rb_history.proofs.EventLines.{read_more, read_all, read_ends_badly, read_too_many}
use Rattle.rb_history.proofs.read_events.read_events.Goals as goal

pub returns-in_err-end_fault : goal.returns-in_err-end_fault
returns-in_err-end_fault c =
    let count : c.len-count.result ≡ length c.loop-line.events.items = omega arith in
    let p = err_from_is_err_and c.from_residual.result c.from_residual.ensures.1 in
    rw (p.1, p.2)
    (read_ends_badly c.args.version c.args.text.now c.loop-line.events.items c.loop-line.rest.now c.in-Some.line.now c.in-Some.behind.now c.in-Some-read_end.told _ c.args.first
    (c.args.first + c.len-count.result) _ count c.loop-line.invariant c.in-Some.ensures.text c.in-Some-read_end.ensures.some c.in-Some-read_end.ensures.small
    (ap (λ n. c.args.first + n) count) c.in_err-end_fault.ensures)

pub returns-in-Some-read_end : goal.returns-in-Some-read_end
returns-in-Some-read_end c =
    let count : c.len-count.result ≡ length c.loop-line.events.items = omega arith in
    rw c.new.ensures
    (read_all c.args.version c.args.text.now c.loop-line.events.items c.loop-line.rest.now c.in-Some.line.now c.in-Some.behind.now c.in-Some-read_end.told
    c.loop-line.invariant c.in-Some.ensures.text c.in-Some-read_end.ensures.some (c.in_ok-end_fault.ensures.0 ∙ count) c.in_ok-end_fault.ensures.1)

pub returns-then-count-ge-MOST_EVENTS : goal.returns-then-count-ge-MOST_EVENTS
returns-then-count-ge-MOST_EVENTS c =
    let count : c.len-count.result ≡ length c.loop-line.events.items = omega arith in
    let many : MOST_EVENTS ≤ length c.loop-line.events.items = omega (arith, count, c.if-count-ge-MOST_EVENTS.true) in
    let words = subst (ReadsEvent c.args.version (words_of c.in-Some.line.now)) c.in-Some-found.is c.in-Ok.ensures in
    rw c.at-then-count-ge-MOST_EVENTS.ensures
    (read_too_many c.args.version c.args.text.now c.loop-line.events.items c.loop-line.rest.now c.in-Some.line.now c.in-Some.behind.now c.in-Some-found.event c.args.first
    (c.args.first + c.len-count.result) c.loop-line.invariant c.in-Some.ensures.text words.0 words.1 (ap (λ n. c.args.first + n) count) many)

pub loop-line-preserved : goal.loop-line-preserved
loop-line-preserved c =
    let count : c.len-count.result ≡ length c.loop-line.events.items = omega arith in
    let room : length c.loop-line.events.items < MOST_EVENTS = omega (arith, count, c.if-count-ge-MOST_EVENTS.false) in
    let words = subst (ReadsEvent c.args.version (words_of c.in-Some.line.now)) c.in-Some-found.is c.in-Ok.ensures in
    rw c.in-Ok-push.ensures.items
    (read_more c.args.version c.args.text.now c.loop-line.events.items c.loop-line.rest.now c.in-Some.line.now c.in-Some.behind.now c.in-Some-found.event
    c.loop-line.invariant c.in-Some.ensures.text words.0 words.1 room)
