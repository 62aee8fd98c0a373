pub mod Codes
pub mod Values
pub mod Cells
pub mod Frames
pub mod Heaps
