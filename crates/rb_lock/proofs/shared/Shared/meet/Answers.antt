-- Each has heard a note of the other, the first one last.
use Rattle.std.proofs.Common.{sym, ap, ◌∙◌}
use Rattle.rb_lock.specs.Passes.{NoteState, PassState}
use Rattle.rb_lock.proofs.Meetings.{same_seen}
use Rattle.rb_lock.proofs.shared.Shared.meet.Goals as goal

pub returns-clause-same : goal.returns-clause-same
returns-clause-same g c =
    let first = c.note-note in
    let second = c.note-note-2 in
    same_seen first.new.pass.seen c.hear.new.pass.seen first.result.seen second.result.seen c.hear-2.new.pass.seen
    (ap (λ (note : NoteState). note.seen) first.ensures.note ∙ sym (ap (λ (pass : PassState). pass.seen) first.ensures.pass))
    (ap (λ (note : NoteState). note.seen) second.ensures.note)
    c.hear.ensures.heard c.hear-2.ensures.heard c.hear-2.ensures.which
    ∙ sym (ap (λ (pass : PassState). pass.seen) second.ensures.pass)
