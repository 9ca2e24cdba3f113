-- The lemmas of this crate, by subject: the heap's order, and the places that agree with it.
pub mod Contents
pub mod Inserts
pub mod Removals
pub mod KeptPlaces
pub mod Exchange
pub mod Order
pub mod Expiries
pub mod ForgottenPlaces
