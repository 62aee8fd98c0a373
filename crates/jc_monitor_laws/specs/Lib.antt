pub mod MonitorKept
pub mod MonitorSame
pub mod SameMonitored
