pub mod ExecData
pub mod Merge
pub mod ExecInfo
pub mod Gathering
pub mod Lines
pub mod Listing
pub mod Informing
