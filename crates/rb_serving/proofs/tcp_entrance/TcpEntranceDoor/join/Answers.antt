-- What happened at the entrance that comes back was shown for its own door.
use Rattle.std.proofs.lemmas.List.Elements.{All-append}
use Rattle.rb_serving.specs.TcpSteps.{ShowsStepSomewhere}
use Rattle.rb_serving.proofs.tcp_entrance.TcpEntranceDoor.join.Goals as goal

pub returns : goal.returns
returns g c out log own joined seen =
    All-append (ShowsStepSomewhere g.L.Listener) log own joined (λ k d less. (c.args._other.door.now, c.args._other.no_more, seen k d less))
