pub mod Fields
pub mod Items
pub mod Spells
pub mod Reading
pub mod Decoding
pub mod Sizes
pub mod Writing
pub mod Layouts
