-- A timed poll has a timeout as its second number, so a line without one is none.
use Rattle.std.proofs.Common.{◌≡◌, ◌∷◌, decimal}
use Rattle.rb_protocol.specs.Words.{words_behind}
use Rattle.rb_history.specs.EventText.{given_words}
use Rattle.rb_history.proofs.Keywords.{only_pollfor}
use Rattle.rb_history.proofs.read_act.poll_for.Goals as goal

pub returns-in_err-timeout : goal.returns-in_err-timeout
returns-in_err-timeout c =
    rw c.from_residual-in_err-timeout.ensures (λ version act right is.
    only_pollfor version _ (λ start timeout given low small right_given words.
    let rest : words_behind c.in_ok-start.rest ≡ decimal timeout ∷ given_words given = cc (c.in_ok-start.ensures.some, words) in
    c.in_err-timeout.ensures.none timeout _ small rest) act right is)
