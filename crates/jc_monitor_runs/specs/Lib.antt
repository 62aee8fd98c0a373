pub mod MonitorTexts
