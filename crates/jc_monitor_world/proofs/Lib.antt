mod SlotLaws
mod LockLaws
mod KeptLockLaws
mod TurnKindLaws
pub mod KeptLaws
mod StuckCallLaws
pub mod MonitorHitLaws
mod TurnedLaws
mod MonitoredLaws
mod InPlaceLaws
mod ReleaseLaws
mod MonitorBeginLaws
