-- A legal history leads to the end, at which the opening begins.
use Rattle.std.proofs.Common.{◌≡◌, List, Result, Ok, Err, ◌∙◌, subst}
use Rattle.rb_queue.specs.History.{State, state_of, IsLegal}
use Rattle.rb_queue.specs.declared.event.Event.{Event}
use Rattle.rb_queue.specs.declared.opening.Opening.{Opening}
use Rattle.rb_replay.specs.Opens.{Opens, OpensAt, IsTooLarge}
use Rattle.rb_replay.specs.Replaying.{end_state}
use Rattle.rb_replay.specs.declared.opening_fault.OpeningFault.{OpeningFault}
use Rattle.rb_replay.specs.declared.opening_fault.OpeningFault.TheVariants.{At, TooLarge, Memory}
use Rattle.rb_replay.proofs.calls.opening_of.opening_of.Goals as goal

opens : (from : Opening) (events : List Event) (state : State) (result : Result Opening OpeningFault)
    → IsLegal from events → state ≡ state_of from events → OpensAt state result → Opens from events result
opens from events state (Ok opening) legal same begins = (legal, begins ∙ same)
opens from events state (Err (At index reason)) legal same none = absurd none
opens from events state (Err TooLarge) legal same large = (legal, subst IsTooLarge same large)
opens from events state (Err Memory) legal same nothing = nothing

pub returns-in-Ok : goal.returns-in-Ok
returns-in-Ok c =
    let replayed = rw (c.opening.ensures, c.events.ensures.events) at c.in-Ok.ensures in
    opens _ _ (end_state c.in-Ok.end) _ replayed.legal replayed.state c.opening_at.ensures
