use Rattle.std.proofs.Common.{◌≡◌, drop}
use Rattle.std.specs.List.{list_all}
use Rattle.jc_kinds.specs.StateSequence.{fits_frame}
use Rattle.jc_kinds.proofs.walk.fits_frames.Given as goal

-- it fits those so far, so that the others decide
abbrev pub invariant-aiming : goal.invariant-aiming
invariant-aiming l = list_all (fits_frame l.framed.body.now.frames l.state) l.places ≡ list_all (fits_frame l.framed.body.now.frames l.state) (drop l.place-index l.places)
