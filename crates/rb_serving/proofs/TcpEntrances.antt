-- What is seen at an entrance of a door over TCP.
use Rattle.std.proofs.Common.{List, [], ◌∷◌, ◌++◌, Option, Some, Result, Ok, Err, IfOk, OnErr}
use Rattle.std.specs.List.{All}
use Rattle.std.proofs.lemmas.List.Elements.{All-push, All-weaker}
use Rattle.rb_serving.specs.declared.door.DoorFault.{DoorFault}
use Rattle.rb_serving.specs.declared.listener.Listener as Listener
use Rattle.rb_serving.specs.declared.tcp_door.NoMore.{NoMore as NoMoreVisits}
use Rattle.rb_serving.specs.declared.tcp_door.TcpDoor.{TcpDoor}
use Rattle.rb_serving.specs.declared.tcp_gate.TcpGate.{TcpGate}
use Rattle.rb_serving.specs.declared.tcp_reader.TcpReader.{TcpReader}
use Rattle.rb_serving.specs.declared.tcp_writer.TcpWriter.{TcpWriter}
use Rattle.rb_serving.specs.declared.visit.Visit.{Visit}
use Rattle.rb_serving.specs.DoorSteps.{DoorStep, LetIn, TurnedAway, NoMore, Left}
use Rattle.rb_serving.specs.TcpSteps.{IsAsked, IsClient, IsOver, ShowsStep}

module _ {L R W : Type 0} (words : Listener.Ghosts L R W) (door : TcpDoor L) where
  -- the answer to one who was asked for
  abbrev Answer : Type 0
  Answer = Result (Visit (TcpReader R) (TcpWriter W) (TcpGate R)) DoorFault

  -- what is shown of a step behind others is seen
  pub sees_more : (no_more : Option NoMoreVisits) (step : DoorStep (TcpReader R) (TcpWriter W) (TcpGate R))
      → ShowsStep words door no_more step
      → (log : List (DoorStep (TcpReader R) (TcpWriter W) (TcpGate R))) → All (ShowsStep words door no_more) log
      → All (ShowsStep words door no_more) (log ++ step ∷ [])
  sees_more no_more step shows log seen = All-push (ShowsStep words door no_more) log step seen shows

  -- a client was let in
  pub sees_let_in : (no_more : Option NoMoreVisits) (answer : Answer) → IsAsked words door → IfOk answer (IsClient words door)
      → IfOk answer (λ visit. (log : List (DoorStep (TcpReader R) (TcpWriter W) (TcpGate R)))
      → All (ShowsStep words door no_more) log → All (ShowsStep words door no_more) (log ++ LetIn visit ∷ []))
  sees_let_in no_more (Ok visit) asked client = sees_more no_more (LetIn visit) (asked, client)
  sees_let_in no_more (Err fault) asked client = tt

  -- a client could not be had
  pub sees_turned_away : (no_more : Option NoMoreVisits) (answer : Answer) → IsAsked words door
      → OnErr answer (words.fails door.listener)
      → OnErr answer ((log : List (DoorStep (TcpReader R) (TcpWriter W) (TcpGate R)))
      → All (ShowsStep words door no_more) log → All (ShowsStep words door no_more) (log ++ TurnedAway ∷ []))
  sees_turned_away no_more (Ok visit) asked fails = tt
  sees_turned_away no_more (Err fault) asked fails = sees_more no_more TurnedAway (asked, fails)

  -- what was seen before is seen also once no more come
  shows_still : (no_more : Option NoMoreVisits) (why : NoMoreVisits) → IsOver words door why
      → (step : DoorStep (TcpReader R) (TcpWriter W) (TcpGate R)) → ShowsStep words door no_more step
      → ShowsStep words door (Some why) step
  shows_still no_more why over (LetIn visit) shows = shows
  shows_still no_more why over TurnedAway shows = shows
  shows_still no_more why over NoMore shows = over
  shows_still no_more why over (Left reader status writer) shows = shows

  -- for a reason no more come
  pub sees_no_more : (no_more : Option NoMoreVisits) (why : NoMoreVisits) → IsOver words door why
      → (log : List (DoorStep (TcpReader R) (TcpWriter W) (TcpGate R))) → All (ShowsStep words door no_more) log
      → All (ShowsStep words door (Some why)) (log ++ NoMore ∷ [])
  sees_no_more no_more why over log seen =
      sees_more (Some why) NoMore over log
      (All-weaker (ShowsStep words door no_more) (ShowsStep words door (Some why)) (shows_still no_more why over) log seen)
