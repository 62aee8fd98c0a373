pub mod AnswerLaws
pub mod FirstNumberLaws
pub mod LinkingLaws
pub mod OneRefusalLaws
pub mod OwnBootstrapLaws
pub mod PairedLaws
mod PairsLaws
pub mod ProbeInitLaws
pub mod SameCodeLaws
pub mod SameLinkedLaws
mod SingleLaws
