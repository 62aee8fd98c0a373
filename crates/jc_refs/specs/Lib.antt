pub use Rattle.jc_refs_check.specs.Suits
pub use Rattle.jc_refs_check.specs.Needs
pub use Rattle.jc_refs_check.specs.RefsOk
pub use Rattle.jc_refs_check.specs.Wrong
pub use Rattle.jc_refs_check.specs.Answers
pub use Rattle.jc_refs_laws.specs.Laws
