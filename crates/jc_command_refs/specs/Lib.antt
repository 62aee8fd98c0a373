pub mod RefsAnswers
