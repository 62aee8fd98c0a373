pub mod Operands
pub mod Descriptions
pub mod Categories
pub mod Narrowings
