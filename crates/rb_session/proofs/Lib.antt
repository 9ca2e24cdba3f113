-- The lemmas of this crate, by subject: how lines are read and served, how replies are sent, devices that tell their
-- bytes, what of a desk stays, and what is held.
pub mod LongerExchanges
pub mod Buffers
pub mod LineFeeds
pub mod Closings
pub mod ReplyTexts
pub mod Turns
pub mod Outlets
pub mod Gatherings
pub mod Passed
pub mod KnownDevices
pub mod DeskParts
pub mod GivenJobs
pub mod JobMaps
