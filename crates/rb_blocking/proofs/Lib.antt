-- The lemmas of this crate: what a pass has learned, and a gate seen, in several calls, one after the other.
pub mod LearnedPasses
pub mod GateSteps
pub mod TimedReplies
