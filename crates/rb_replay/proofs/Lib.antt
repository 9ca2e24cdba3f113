-- The lemmas of this crate, by subject: histories done again and checked.
pub mod Elements
pub mod Judgements
pub mod Replays
pub mod Ordered
pub mod ReadAgain
pub mod AttemptIndexes
pub mod ChainedHistories
