use Rattle.std.proofs.Common.{◌≡◌, drop}
use Rattle.std.specs.List.{list_all}
use Rattle.jc_refs_check.specs.SuitedFlow.{suits_frame}
use Rattle.jc_refs_check.proofs.flow.suits_frames.Given as goal

-- it suits those so far, so that the others decide
abbrev pub invariant-aiming : goal.invariant-aiming
invariant-aiming l = list_all (suits_frame l.classes.names l.body.frames l.state) l.places ≡ list_all (suits_frame l.classes.names l.body.frames l.state) (drop l.place-index l.places)
