-- The lemmas of this crate, by subject: how a line is cut, what it reads as, what text it has, and what
-- a writer has got of bytes.
pub mod Numbers
pub mod Cuts
pub mod Faults
pub mod Readings
pub mod Texts
pub mod Attempts
pub mod WrittenBytes
pub mod Sending
pub mod Accepted
