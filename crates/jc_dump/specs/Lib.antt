pub mod Dumps
pub mod HasRun
pub mod Nowhere
pub mod OnBoard
pub mod Since
