pub mod BitLaws
mod ClosingLaws
mod CopyingLaws
pub mod HitSetLaws
pub mod KnownLaws
mod PartLaws
pub mod PlaceLaws
mod StepLaws
pub mod ViewLaws
