-- The lemmas of this crate: where runs go on behind histories, verdicts on histories, sessions of scripts, and what is
-- read of what a run wrote.
pub mod Beginnings
pub mod TextVerdicts
pub mod ScriptRuns
pub mod RecordedScripts
pub mod WrittenRuns
