-- The lemmas of this crate: what an option's value says, and which subcommand was met.
pub mod CommandLines
