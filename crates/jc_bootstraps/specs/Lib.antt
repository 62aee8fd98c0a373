pub mod Bootstraps
pub mod BootstrapHead
pub mod BootstrapsReading
