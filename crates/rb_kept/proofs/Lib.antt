-- The lemmas of this crate: what one event more does to a log.
pub mod Logs
