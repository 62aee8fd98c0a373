pub mod StandingLaws
pub mod InstrumentedLaws
