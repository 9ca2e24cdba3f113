-- The lemmas of this crate, by subject: steps that keep the lock's rule, and what passes learn.
pub mod Sums
pub mod Beginnings
pub mod LongerHistories
pub mod Halvings
mod HeldPairs
pub mod CallTotals
pub mod MadeCalls
pub mod Openings
pub mod SharedViews
pub mod Sharings
pub mod RestingPasses
pub mod SplitPasses
pub mod FoldedPasses
pub mod Meetings
pub mod CountedCalls
pub mod Closings
pub mod EqualTotals
pub mod Takings
pub mod Returns
