pub mod BeginLaws
pub mod DumpLaws
