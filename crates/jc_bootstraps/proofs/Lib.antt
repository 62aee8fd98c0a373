pub mod BootstrapFormLaws
pub mod PassedLaws
pub mod BootstrapHeadLaws
pub mod BootstrapLaws
pub mod NamedLaws
