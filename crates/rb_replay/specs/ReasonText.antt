-- How each reason why an event is not allowed is printed.
use Rattle.std.specs.Prelude.{ℕ, List, codes}
use Rattle.rb_replay.specs.declared.reason.Reason.{Reason}
use Rattle.rb_replay.specs.declared.reason.Reason.TheVariants.{BadMoment, BadId, NotInQueue, NotLeast}
use Rattle.rb_replay.specs.declared.reason.Reason.TheVariants.{NotExpired, NotNone, TooEarly, WrongFound}
use Rattle.rb_replay.specs.declared.reason.Reason.TheVariants.{TooMany, NotAll, WrongSize}

abbrev pub reason_text : Reason → List ℕ
reason_text BadMoment = codes "bad moment"
reason_text BadId = codes "bad id"
reason_text NotInQueue = codes "not in queue"
reason_text NotLeast = codes "not least"
reason_text NotExpired = codes "not expired"
reason_text NotNone = codes "not none"
reason_text TooEarly = codes "too early"
reason_text WrongFound = codes "wrong found"
reason_text TooMany = codes "too many"
reason_text NotAll = codes "not all"
reason_text WrongSize = codes "wrong size"
