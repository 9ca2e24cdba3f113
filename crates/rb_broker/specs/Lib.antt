pub use Rattle.rb_ending.specs.BrokerFault
pub mod ExitStatus
pub mod Greeting
