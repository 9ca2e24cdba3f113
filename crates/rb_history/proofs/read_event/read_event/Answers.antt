-- An event's line has three numbers in front, so a line without the second or third is none.
use Rattle.std.proofs.Common.{◌≡◌, ◌∷◌, decimal}
use Rattle.rb_protocol.specs.Words.{words_behind}
use Rattle.rb_history.specs.EventText.{act_words}
use Rattle.rb_history.proofs.read_event.read_event.Goals as goal

pub returns-in_default-take_number : goal.returns-in_default-take_number
returns-in_default-take_number c = λ event right is.
    let rest : words_behind c.in-Some.words ≡ decimal event.asked ∷ decimal event.at ∷ act_words c.args.version event.act = cc (c.in-Some.ensures.some, is) in
    c.in_default-take_number.ensures.none event.asked _ right.asked rest

pub returns-in_default-take_number-2 : goal.returns-in_default-take_number-2
returns-in_default-take_number-2 c = λ event right is.
    let rest : words_behind c.in-Some-take_number.words ≡ decimal event.at ∷ act_words c.args.version event.act =
    cc (c.in-Some.ensures.some, c.in-Some-take_number.ensures.some, is) in
    c.in_default-take_number-2.ensures.none event.at _ right.at rest
