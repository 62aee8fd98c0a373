mod StoredLaws
mod FieldLaws
mod PlaceLaws
mod CorrespondLaws
mod SiteLaws
mod GivenLaws
mod TypeLaws
mod ThrownLaws
mod FirstValueLaws
mod CodeLaws
pub mod LockedLaws
pub mod PrepareLaws
pub mod SwitchLaws
pub mod InvokedLaws
