pub use Rattle.rb_retry.specs.Retry
pub use Rattle.rb_options.specs.TimerKind
pub mod Arguments
pub mod CommandLine
pub mod LocalCommand
pub mod Ranges
pub mod RightValues
pub mod RightWords
