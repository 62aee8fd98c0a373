pub mod PlanWords
pub mod Plans
pub mod PlanReading
