pub mod ClaimRule
pub mod Claims
pub mod Nowhere
pub mod Cases
pub mod Ran
pub mod Drawing
