-- The lemmas of this crate: what becomes of writers.
pub mod Writers
