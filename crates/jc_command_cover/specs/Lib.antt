pub mod Files
pub mod AcceptedItems
pub mod Deciding
pub mod Accepted
pub mod CoverSeen
pub mod Placed
pub mod Runs
