pub mod CaseLaws
pub mod MonitorCaseLaws
