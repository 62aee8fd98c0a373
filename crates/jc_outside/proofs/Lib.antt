pub mod FolderLaws
pub mod HeldLaws
pub mod PartLaws
