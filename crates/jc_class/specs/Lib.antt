pub mod ClassId
pub mod ClassFormat
pub mod ClassText
pub mod ItemReading
pub mod ClassReading
pub mod Writable
pub mod Sizes
