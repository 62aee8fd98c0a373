pub mod Typings
pub mod Laws
pub mod Frameless
