pub mod Lines
pub mod Each
pub mod ClassInfo
pub mod Report
pub mod Kept
pub mod ReportSteps
pub mod Instrument
