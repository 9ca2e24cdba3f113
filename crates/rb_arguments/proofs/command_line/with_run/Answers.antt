-- The rules of the two files are added, and then those of the policy.
use Rattle.rb_arguments.proofs.command_line.with_run.Goals as goal

pub returns : goal.returns
returns c = λ plain app narrow.
    c.with_policy.ensures plain _
    (c.with_option-from.ensures _ _ c.from_option.ensures.rule
    (c.with_option-history.ensures app _ c.history_option.ensures.rule narrow))
