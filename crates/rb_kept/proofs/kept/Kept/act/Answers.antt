-- One event more: the log stays legal, and the books and the sums count it.
use Rattle.std.proofs.Common.{List, [], ◌∷◌, length, Ok, refl, sym, ap, subst, ◌∙◌, arith}
use Rattle.rb_queue.specs.declared.event.Event.{Event}
use Rattle.rb_queue.specs.Queue.{Queue}
use Rattle.rb_queue.specs.Counts.{sums_with}
use Rattle.rb_queue.specs.History.{start_of}
use Rattle.rb_queue.proofs.Histories.{next_id_few}
use Rattle.rb_kept.specs.Log.{Log}
use Rattle.rb_kept.specs.Performing.{DoesAsk}
use Rattle.rb_kept.specs.Shares.{Grows}
use Rattle.rb_kept.specs.Tries.{StepsTo}
use Rattle.rb_kept.specs.declared.tries.Try.{Try}
use Rattle.rb_kept.specs.declared.outcome.Outcome.TheVariants.{Later}
use Rattle.rb_kept.proofs.Logs.{IsNext, is_next, has_room, would_wait, kept_more, recorded, grows_none}
use Rattle.rb_kept.proofs.kept.Kept.act.Given.{Over}
use Rattle.rb_kept.proofs.kept.Kept.act.Goals as goal
use Rattle.rb_kept.proofs.kept.Kept.act.Goals.{In-Done}

abbrev log_of : (g : Over) → In-Done g → Log
log_of g c = record { opening = c.self.inside.opening; history = c.self.inside.history.items; capacity = c.self.inside.capacity }

-- the event that is about to be appended
abbrev event_of : (g : Over) → In-Done g → Event
event_of g c = record { seat = c.args.seat; asked = c.args.asked; at = c.max-at.result; act = c.in-Done.field-0.act }

does_ask : (g : Over) (c : In-Done g) → DoesAsk c.self.inside.queue c.max-at.result c.args.ask c.in-Done.field-0 c.perform.new.queue
does_ask g c = rw c.in-Done.is at c.perform.ensures

comes_next : (g : Over) (c : In-Done g) → IsNext c.self.inside.queue c.perform.new.queue (log_of g c) (event_of g c)
comes_next g c =
    is_next _ _ (log_of g c) (event_of g c) c.last_moment.result c.len.result _ c.max-at.ensures c.last_moment.ensures c.deref.ensures.value c.if-len-self.false
    (c.len.ensures ∙ sym c.deref.ensures.len ∙ ap length c.deref.ensures.value) c.self.invariant.few (does_ask g c).acts

-- there are no more ids than the opening's and the events
pub perform-requires : goal.perform-requires
perform-requires g c =
    let few = next_id_few (start_of c.self.inside.opening) c.self.inside.history.items in
    let same = ap (λ (q : Queue). q.next_id) c.self.invariant.leads in
    omega (arith, few, same, c.self.invariant.few, c.self.invariant.most, c.self.inside.opening.opening.next)

pub invariant_of-self : goal.invariant_of-self
invariant_of-self g c =
    let next = comes_next g (goal.at.invariant_of-self g c).In-Done in
    let booked = rw (c.offered.ensures, c.given.ensures) at c.note.ensures.books in
    let summed = c.note-in-Done.ensures ∙ ap (sums_with c.self.inside.sums c.in-Done.field-0.act) (c.size-standing.ensures 0).permitted in
    rw c.push_reserved.ensures.capacity
    (kept_more _ _ _ _ _ _ _ c.self.invariant next c.push_reserved.new.self.items c.note.new.self c.note-in-Done.new.self c.push_reserved.ensures.items booked summed)

pub returns-in-Done-clause-step : goal.returns-in-Done-clause-step
returns-in-Done-clause-step g c =
    let done = (goal.at.returns-in-Done-clause-step g c).In-Done in
    let next = comes_next g done in
    let does = does_ask g done in
    rw (← c.self.view_is) (
      next.room,
      (
        event_of g done,
        ap (λ (items : List Event). record (log_of g done) { history = items }) c.push_reserved.ensures.items,
        recorded _ _ _ _ _ _ _ c.self.invariant next (record { seat = c.args.seat; asked = c.args.asked; ask = c.args.ask }) c.in-Done.field-0.reply refl refl does.of_ask does.reply,
      ),
    )

pub returns-in-Done-clause-tally : goal.returns-in-Done-clause-tally
returns-in-Done-clause-tally g c =
    let done = (goal.at.returns-in-Done-clause-tally g c).In-Done in
    subst (λ (old : Log). Grows old (record (log_of g done) { history = c.push_reserved.new.self.items }) c.args.tally.now c.note.new.tally)
    c.self.view_is (record {
      more = event_of g done ∷ [];
      log = ap (λ (items : List Event). record (log_of g done) { history = items }) c.push_reserved.ensures.items;
      share = rw (c.offered.ensures, c.given.ensures) at c.note.ensures.tally;
    })

-- a call that would wait leaves all as it was
pub returns-in-Later-clause-tally : goal.returns-in-Later-clause-tally
returns-in-Later-clause-tally g c =
    let log : Log = record { opening = c.self.inside.opening; history = c.self.inside.history.items; capacity = c.self.inside.capacity } in
    subst (λ (old : Log). Grows old log c.args.tally.now c.args.tally.now) c.self.view_is (grows_none log c.args.tally.now)

pub returns-in-Later-clause-step : goal.returns-in-Later-clause-step
returns-in-Later-clause-step g c =
    let log : Log = record { opening = c.self.inside.opening; history = c.self.inside.history.items; capacity = c.self.inside.capacity } in
    let try : Try = record { seat = c.args.seat; asked = c.args.asked; ask = c.args.ask } in
    subst (λ (old : Log). StepsTo old try (Ok (Later c.in-Later.next)) log) c.self.view_is (
      has_room log c.len.result c.if-len-self.false (c.len.ensures ∙ sym c.deref.ensures.len ∙ ap length c.deref.ensures.value) c.self.invariant.few,
      (
        would_wait c.self.inside.queue log try c.max-at.result c.last_moment.result c.deref.result.now c.in-Later.next
            c.max-at.ensures c.last_moment.ensures c.deref.ensures.value c.self.invariant.leads
            c.in-Later.ensures.0 c.in-Later.ensures.1 c.in-Later.ensures.2,
        refl,
      ),
    )
