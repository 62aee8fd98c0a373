use Rattle.jc_kinds.proofs.BranchLaws.{fits_falling, fits_ending}
use Rattle.jc_refs_check.proofs.flow.suits_next.Goals as goal

pub returns-then-falls_through : goal.returns-then-falls_through
returns-then-falls_through c = fits_falling c.args.insn.now c.falls_through.result c.suits_frame.result _ c.if-falls_through.true c.falls_through.ensures c.suits_frame.ensures

pub returns-else-falls_through : goal.returns-else-falls_through
returns-else-falls_through c = fits_ending c.args.insn.now c.falls_through.result _ c.if-falls_through.false c.falls_through.ensures
