-- The names of the kinds of timer.
use Rattle.std.specs.Prelude.{ℕ, List, codes}
use Rattle.rb_options.specs.declared.timer_kind.TimerKind.{TimerKind}
use Rattle.rb_options.specs.declared.timer_kind.TimerKind.TheVariants as Kind

-- the name on the command line
abbrev pub timer_name : TimerKind → List ℕ
timer_name Kind.List = codes "list"
timer_name Kind.Heap = codes "heap"
timer_name Kind.Pairing = codes "pairing"
timer_name Kind.Wheel = codes "wheel"
