-- Six rules are added, one after the other.
use Rattle.rb_arguments.proofs.command_line.with_manners.Goals as goal

pub returns : goal.returns
returns c = λ app narrow.
    c.with_option.ensures _ _ c.since_option.ensures.rule
    (c.with_option-silent.ensures _ _ c.silent_option.ensures.rule
    (c.with_option-attentive.ensures _ _ c.attentive_flag.ensures.rule
    (c.with_option-greeting.ensures _ _ c.greeting_option.ensures.rule
    (c.with_option-until.ensures _ _ c.until_input_ends_flag.ensures.rule
    (c.with_option-socket.ensures app _ c.socket_option.ensures.rule narrow)))))
