pub mod RunStore
pub mod PairTexts
pub mod RunAnswers
pub mod Beginnings
pub mod Clash
pub mod HitStore
pub mod PlanStops
pub mod Texts
