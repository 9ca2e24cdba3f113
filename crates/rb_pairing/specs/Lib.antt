pub mod Fields
pub mod NodeWords
pub mod Nodes
pub mod Forest
pub mod Changes
pub mod NodeRoom
