pub mod Moment
pub mod Payload
pub mod Padding
