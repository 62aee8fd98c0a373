mod SlowLaws
mod ReportExampleLaws
