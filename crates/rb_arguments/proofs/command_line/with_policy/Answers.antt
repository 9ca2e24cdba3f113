-- The policy's three rules are added one after the other: delay, rate and attempts.
use Rattle.rb_arguments.proofs.command_line.with_policy.Goals as goal

pub returns : goal.returns
returns c = λ plain app narrow.
    c.with_option.ensures _ _ c.attempts_option.ensures.rule
    (c.with_option-rate.ensures _ _ (c.in_ok-rate.ensures.rule plain)
    (c.with_option-delay.ensures app _ c.delay_option.ensures.rule narrow))
