pub mod Rule
pub mod Seen
pub mod Taking
pub mod Views
