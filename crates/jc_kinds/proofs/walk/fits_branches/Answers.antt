use Rattle.jc_kinds.specs.StateSequence.{fits_frame}
use Rattle.jc_kinds.proofs.BranchLaws.{fits_not, fits_all}
use Rattle.jc_kinds.proofs.walk.fits_branches.Goals as goal

pub returns-then-not-fits_next : goal.returns-then-not-fits_next
returns-then-not-fits_next c =
    fits_not (fits_frame c.args.framed.now.body.now.frames c.args.state.now) c.args.insn.now c.args.at c.fits_next.result c.fits_next.ensures c.if-not-fits_next.true

pub returns : goal.returns
returns c = fits_all (fits_frame c.args.framed.now.body.now.frames c.args.state.now) c.args.insn.now c.args.at c.fits_next.result c.in_ok-fits_targets.field-0
    c.fits_next.ensures c.if-not-fits_next.false c.in_ok-fits_targets.ensures
