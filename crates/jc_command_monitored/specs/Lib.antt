pub mod MonitoredHits
pub mod MonitoredAnswers
