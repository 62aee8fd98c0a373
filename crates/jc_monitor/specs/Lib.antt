pub use Rattle.jc_monitor_model.specs.Locks
pub use Rattle.jc_monitor_model.specs.SynchronizedFrames
pub use Rattle.jc_monitor_model.specs.MonitorWorld
pub use Rattle.jc_monitor_model.specs.MonitorTurns
pub use Rattle.jc_monitor_model.specs.MonitorStep
pub use Rattle.jc_monitor_model.specs.MonitorRun
pub use Rattle.jc_monitor_model.specs.KeptLocks
pub use Rattle.jc_monitor_world.specs.Monitored
