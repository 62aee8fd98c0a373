pub mod FramelessLaws
pub mod AnswerLaws
pub mod PathLaws
pub mod SomeDumps
pub mod WriteLaws
