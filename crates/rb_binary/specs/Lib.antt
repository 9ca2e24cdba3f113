pub mod Layout
pub mod Room
