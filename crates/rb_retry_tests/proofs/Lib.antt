-- The lemma of these tests: what working off a desk's jobs leaves as it is.
pub mod NamedRuns
