pub mod AccessLaws
pub mod HeldLaws
pub mod FrameLaws
pub mod PlaceLaws
