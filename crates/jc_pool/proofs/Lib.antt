pub mod PoolStepsLaws
pub mod EntryLaws
pub mod PoolLaws
pub mod WritingLaws
pub mod TextLaws
pub mod OneTextLaws
mod FirstPlaceLaws
pub mod OneMoreEntryLaws
mod FirstPlaceMapLaws
pub mod KeyPlaceLaws
mod IndexLaws
mod MemberTableLaws
pub mod AddingLaws
pub mod AddedLaws
mod MemberLaws
pub mod AddedMemberLaws
mod MemberKeyLaws
pub mod LinkedKeyLaws
mod LinkedLaws
pub mod AddedLinkedLaws
mod PlannedLaws
