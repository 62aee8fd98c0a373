pub mod Types
pub mod Shown
pub mod Prepared
pub mod Places
pub mod Sites
pub mod FirstValues
pub mod Invoked
