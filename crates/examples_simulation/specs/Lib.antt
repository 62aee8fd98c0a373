pub mod SimulationExamples
pub mod CoverageExamples
pub mod ConstantExamples
