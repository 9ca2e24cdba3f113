-- The lemmas of this crate: what lines, sessions, scripts and servers make; lists of elements, jobs that stand apart, and
-- what a legal history does with them; and what sessions do with what they hold.
pub mod Ways
pub mod Events
pub mod KeptEvents
pub mod GivenJobs
pub mod HandedOut
pub mod RunEvents
pub mod ScriptEvents
pub mod GatheredNames
pub mod SharedRuns
pub mod ServerEvents
pub mod Lists
pub mod Apart
pub mod Gifts
pub mod Histories
pub mod Sessions
pub mod SessionHands
pub mod KeptHands
pub mod ServedHands
pub mod QueueSums
pub mod EachOnce
pub mod Accounts
pub mod RunAccounts
pub mod Continued
pub mod NextRuns
