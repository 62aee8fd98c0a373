pub mod Status
pub mod LineList
pub mod Totals
pub mod Adding
pub mod Rules
pub mod Placed
pub mod Spans
