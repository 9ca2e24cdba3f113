-- The lemmas of this crate, by subject, from bags and stores to the laws of whole histories.
pub mod Bags
pub mod Options
pub mod BagsInSlots
pub mod Stores
pub mod Queues
pub mod Drains
pub mod Orders
pub mod Histories
pub mod Effects
pub mod Leavings
pub mod ShortHistories
pub mod OfferedElements
