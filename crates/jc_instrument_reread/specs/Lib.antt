pub mod WrittenCode
pub mod ReadCode
pub mod InitRead
pub mod Written
pub mod Again
