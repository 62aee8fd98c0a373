pub mod FramelessMethodLaws
pub mod FramelessMonitorLaws
pub mod FramelessRunLaws
