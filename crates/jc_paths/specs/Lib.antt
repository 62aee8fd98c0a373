pub mod Paths
pub mod Looks
