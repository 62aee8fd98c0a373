pub mod ExecDataLaws
pub mod MergeLaws
pub mod InfoLaws
pub mod ExecAnswers
pub mod PartLaws
pub mod GatheredLaws
pub mod LinesLaws
pub mod ListingLaws
