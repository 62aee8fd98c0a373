pub mod SampleFile
pub mod SamplePlan
pub mod SampleWork
pub mod Seen
