pub mod ProgramExamples
pub mod InsnExamples
pub mod EdgeExamples
pub mod ConstantExamples
