use Rattle.jc_kinds.proofs.BranchLaws.{fits_falling, fits_ending}
use Rattle.jc_kinds.proofs.walk.fits_next.Goals as goal

pub returns-then-falls_through : goal.returns-then-falls_through
returns-then-falls_through c = fits_falling c.args.insn.now c.falls_through.result c.fits_frame.result _ c.if-falls_through.true c.falls_through.ensures c.fits_frame.ensures

pub returns-else-falls_through : goal.returns-else-falls_through
returns-else-falls_through c = fits_ending c.args.insn.now c.falls_through.result _ c.if-falls_through.false c.falls_through.ensures
