pub mod ClaimLaws
pub mod NumberLaws
pub mod RanLaws
pub mod CaseLaws
mod KnownLaws
