-- The lemmas that each timer may use: rows of slots, the least of a row, and runs of commands.
pub mod Least
pub mod Rows
pub mod Runs
