-- The lemmas of this crate: how a call at a desk over a shared queue ends.
pub mod SharedEndings
