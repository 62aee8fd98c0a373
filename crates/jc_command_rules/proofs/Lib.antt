mod PrintingLaws
mod ListingLaws
mod JudgingLaws
pub mod AnswerLaws
