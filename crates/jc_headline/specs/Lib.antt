pub mod CoverWork
pub mod Named
pub mod CoverRun
pub mod Headline
pub mod Runs
pub mod FitCover
pub mod FewSlots
