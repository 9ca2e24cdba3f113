-- The lemmas of this crate: how many events a desk has made, and one run more behind others.
pub mod MadeCounts
pub mod RunSteps
