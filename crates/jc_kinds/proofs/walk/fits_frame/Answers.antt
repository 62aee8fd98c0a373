use Rattle.std.proofs.Common.{◌∙◌, ap}
use Rattle.jc_kinds.specs.StateSequence.{fits_there}
use Rattle.jc_kinds.proofs.walk.fits_frame.Goals as goal

pub returns-in-Some : goal.returns-in-Some
returns-in-Some c = c.fits_state.ensures ∙ ap (fits_there c.args.state.now) c.in-Some.ensures

pub returns-in-None : goal.returns-in-None
returns-in-None c = ap (fits_there c.args.state.now) c.in-None.ensures
