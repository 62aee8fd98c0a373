pub mod Copying
pub mod Known
pub mod Layout
pub mod Places
pub mod Rule
pub mod Seen
pub mod Views
