pub mod Work
pub mod Completes
pub mod FirstWrite
pub mod Bounds
pub mod CoverHeadline
