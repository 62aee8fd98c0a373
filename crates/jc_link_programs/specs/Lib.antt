pub mod Linking
pub mod OwnBootstrap
pub mod Pairs
pub mod ProbeInits
pub mod SameProgram
pub mod Statics
pub mod Steps
