-- What happens at the entrances of a door.
use Rattle.std.specs.Prelude.{ℕ, List, [], ◌∷◌, ◌++◌}
use Rattle.std.specs.List.{flat_map}
use Rattle.rb_protocol.specs.declared.streams.limited_reader.LimitedReader.{LimitedReader}
use Rattle.rb_protocol.specs.declared.streams.writer_status.WriterStatus.{WriterStatus}
use Rattle.rb_serving.specs.declared.visit.Visit.{Visit}

-- A visitor is let in, or turned away; there are no more; or the entrance gets back what is left of a visit.
pub data DoorStep (I O G : Type 0) : Type 0 where
  LetIn : Visit I O G → DoorStep I O G
  TurnedAway : DoorStep I O G
  NoMore : DoorStep I O G
  Left : LimitedReader I → WriterStatus O → O → DoorStep I O G

-- one thing more happened at the entrance
abbrev pub Sees : {D I O G : Type 0} → (D → List (DoorStep I O G) → Type 0) → D → DoorStep I O G → D → Type 0
Sees {I = I} {O = O} {G = G} has_seen old step new =
    (log : List (DoorStep I O G)) → has_seen old log → has_seen new (log ++ step ∷ [])

-- what happened at all entrances, at one behind the other
abbrev pub all_steps : {I O G : Type 0} → List (List (DoorStep I O G)) → List (DoorStep I O G)
all_steps logs = flat_map (λ own. own) logs

-- All entrances that were split off in between are back, and this is all that happened at them.
abbrev pub Gathers : {D I O G : Type 0} → (D → ℕ → List (DoorStep I O G) → Type 0) → D → List (DoorStep I O G) → D → Type 0
Gathers {I = I} {O = O} {G = G} has_joined old happened new =
    (out : ℕ) (before : List (DoorStep I O G)) → has_joined old out before → has_joined new out (before ++ happened)
