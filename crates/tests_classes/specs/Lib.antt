pub mod Standing
pub mod Instrumented
