pub mod Spelled
pub mod Split
pub mod Names
pub mod Order
pub mod Rows
pub mod Csv
pub mod Written
