pub mod Content
pub mod IndexWords
pub mod Run
pub mod Slots
