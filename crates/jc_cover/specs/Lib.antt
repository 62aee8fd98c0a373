pub mod Covered
pub mod Marking
pub mod Counters
pub mod Followed
pub mod Planned
pub mod Sums
pub mod Lines
pub mod Tally
