pub mod ArithmeticLaws
pub mod PairLaws
pub mod BeginLaws
pub mod TurnLaws
pub mod LockedLaws
