pub mod LinesAnswers
pub mod CheckAnswers
pub mod Printing
