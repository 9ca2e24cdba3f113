-- What happens at the entrances of a door over TCP.
use Rattle.std.specs.Prelude.{◌≡◌, ◌<◌, ◌||◌, ℕ, Bool, Option, IfSome, IsSomeAnd, is_some}
use Rattle.rb_serving.specs.declared.connection.Connection.{Connection}
use Rattle.rb_serving.specs.declared.connection.ConnectionNeeds.{ConnectionNeeds}
use Rattle.rb_serving.specs.declared.listener.Listener as Listener
use Rattle.rb_serving.specs.declared.patience.Patience.{Patience}
use Rattle.rb_serving.specs.declared.tcp_door.NoMore.{NoMore as NoMoreVisits}
use Rattle.rb_serving.specs.declared.tcp_door.TcpDoor.{TcpDoor}
use Rattle.rb_serving.specs.declared.tcp_gate.TcpGate.{TcpGate}
use Rattle.rb_serving.specs.declared.tcp_reader.TcpReader.{TcpReader}
use Rattle.rb_serving.specs.declared.tcp_writer.TcpWriter.{TcpWriter}
use Rattle.rb_serving.specs.declared.visit.Visit.{Visit}
use Rattle.rb_serving.specs.DoorSteps.{DoorStep, LetIn, TurnedAway, NoMore, Left}
use Rattle.rb_serving.specs.TcpReasons.{IsNoMore}

module _ {L R W : Type 0} (words : Listener.Ghosts L R W) where
  -- A client of the door may be given up: when it is silent for too long, or something ends its session.
  abbrev pub may_give_up : TcpDoor L → Bool
  may_give_up door = is_some door.manners.silent || is_some door.manners.ending

  -- What the connections of a door's clients are to have: its greeting, and what its other manners need.
  pub record AreNeeds (door : TcpDoor L) (needs : ConnectionNeeds) : Type 0 where
    pub greeting : needs.greeting ≡ door.manners.greeting
    pub look : is_some needs.look ≡ may_give_up door
    pub returns : needs.returns ≡ is_some door.manners.ending
    pub watched : needs.watched ≡ door.manners.attentive
    pub heard : needs.heard ≡ (door.manners.attentive || is_some door.manners.ending)

  -- The listener brought a connection, of a client of the door.
  abbrev pub IsBrought : TcpDoor L → Connection R W → Type 0
  IsBrought door connection = (needs : ConnectionNeeds) × AreNeeds door needs × words.brings door.listener needs connection

  -- When a door's sessions give up their clients, if they may.
  pub record IsPatience (door : TcpDoor L) (patience : Option Patience) : Type 0 where
    pub some : is_some patience ≡ may_give_up door
    pub silent : IfSome patience (λ it. it.silent ≡ door.manners.silent)
    pub ending : IfSome patience (λ it. it.ending ≡ door.manners.ending)

  -- A visit of a client: its reader, its writer and what its gate looks at are those of one connection, as the listener
  -- brought it with what the door needs; and so is where its gate notes what its reader sees. Its waits end after the
  -- door's turns, or with the server, and it is given up as the door's manners say.
  pub record IsClient (door : TcpDoor L) (visit : Visit (TcpReader R) (TcpWriter W) (TcpGate R)) : Type 0 where
    pub connection : Connection R W
    pub brought : IsBrought door connection
    pub reader : visit.reader.stream ≡ connection.reader
    pub writer : visit.writer.stream ≡ connection.writer
    pub watched : visit.gate.watched ≡ connection.watched
    pub turns : visit.gate.limit ≡ door.turns
    pub ending : visit.gate.ending ≡ door.manners.ending
    pub heard : visit.gate.standing ≡ connection.heard
    pub seen : visit.reader.standing ≡ connection.seen
    pub reads : IsPatience door visit.reader.patience
    pub writes : IsPatience door visit.writer.patience

  -- The listener was asked for a client when sessions of the door were left.
  abbrev pub IsAsked : TcpDoor L → Type 0
  IsAsked door = (asked : ℕ) × words.counts door.listener asked × (asked < door.sessions)

  -- For this reason the door has no more visits: the listener was asked, and the door's sessions were used up, or the
  -- server is to drain.
  abbrev pub IsOver : TcpDoor L → NoMoreVisits → Type 0
  IsOver door why = (asked : ℕ) × words.counts door.listener asked × IsNoMore door.sessions door.manners.ending asked why

  -- What is let in is a client of the listener, and one is turned away only where the listener failed. Each takes one of
  -- the door's sessions. There are no more for a reason that the entrance has. What a client's replies went to is
  -- closed, as it came back, and its client is told so if it could have been given up.
  abbrev pub ShowsStep : TcpDoor L → Option NoMoreVisits → DoorStep (TcpReader R) (TcpWriter W) (TcpGate R) → Type 0
  ShowsStep door no_more (LetIn visit) = IsAsked door × IsClient door visit
  ShowsStep door no_more TurnedAway = IsAsked door × words.fails door.listener
  ShowsStep door no_more NoMore = IsSomeAnd no_more (IsOver door)
  ShowsStep door no_more (Left reader status writer) = words.closes door.listener writer.stream (is_some writer.patience)

  -- at an entrance of some door
  abbrev pub ShowsStepSomewhere : DoorStep (TcpReader R) (TcpWriter W) (TcpGate R) → Type 0
  ShowsStepSomewhere step = (door : TcpDoor L) × (no_more : Option NoMoreVisits) × ShowsStep door no_more step
