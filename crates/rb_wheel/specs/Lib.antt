pub mod Cells
pub mod WheelLinks
pub mod Lists
pub mod Marks
pub mod Wheel
pub mod Nodes
