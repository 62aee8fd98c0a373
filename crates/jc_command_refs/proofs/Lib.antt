pub mod AnswerLaws
pub mod SameProgramLaws
pub mod SuitedDecidedLaws
pub mod SomeRefusalLaws
pub mod OneAnswerLaws
