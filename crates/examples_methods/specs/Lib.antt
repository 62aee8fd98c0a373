pub mod BodyExamples
pub mod TwinExamples
pub mod CoverageExamples
pub mod ReportExamples
pub mod SlowUnion
