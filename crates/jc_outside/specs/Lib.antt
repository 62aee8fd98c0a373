pub mod Folder
pub mod Outside
pub mod Planned
pub mod InMemory
