mod StatusLaws
mod StateLaws
mod PlacedLaws
mod SpanLaws
mod SaidLaws
mod ListingLaws
pub mod OneListLaws
pub mod SomeListLaws
mod AddingLaws
mod PlacingLaws
