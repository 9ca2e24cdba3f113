pub use Rattle.rb_retry.specs.Retry
pub mod TimerKind
