pub mod Locks
pub mod SynchronizedFrames
pub mod MonitorWorld
pub mod MonitorTurns
pub mod MonitorStep
pub mod MonitorRun
pub mod KeptLocks
