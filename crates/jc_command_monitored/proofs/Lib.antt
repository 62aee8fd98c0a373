pub mod CaseLaws
pub mod FramelessLaws
pub mod AnswerLaws
