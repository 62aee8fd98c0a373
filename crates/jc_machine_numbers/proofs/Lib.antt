mod CategoryLaws
mod OperandLaws
