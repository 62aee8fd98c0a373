pub mod DumpedAnswers
pub mod OptionsSeen
