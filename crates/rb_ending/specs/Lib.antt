pub use Rattle.rb_history.specs.Written
pub use Rattle.rb_session.specs.Ran
pub mod BrokerFault
pub mod WriteReasons
pub mod Recording
pub mod AuditText
