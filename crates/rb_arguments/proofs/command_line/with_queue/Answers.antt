-- Two rules are added: the number of calls and the timer.
use Rattle.rb_arguments.proofs.command_line.with_queue.Goals as goal

pub returns : goal.returns
returns c =
    let (names, names_are, timer_is) = c.timer_option.ensures.rule in (
      names,
      names_are,
      λ app narrow.
          c.with_option.ensures _ _ timer_is (c.with_option-calls.ensures app _ c.calls_option.ensures.rule narrow),
    )
