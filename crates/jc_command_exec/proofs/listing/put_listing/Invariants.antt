use Rattle.std.proofs.Common.{ℕ, List, Option}
use Rattle.jc_outside.specs.Outside.{FileMap, LastFailed}
use Rattle.jc_command_work.specs.Step.{Landed, outside, counts, to_out}
use Rattle.jc_command_work.proofs.Reaching.{Writes}
use Rattle.jc_command_exec.proofs.listing.put_listing.Given as goal

-- the lines so far were put, whatever stands elsewhere
abbrev pub invariant-putting : goal.invariant-putting
invariant-putting g l =
    let O = g.O.Sink in
    (landed : Landed) (contents : Option FileMap) (failed : LastFailed) (err : Option (List ℕ)) (reads writes errs : ℕ)
    → Writes landed to_out l.listing l.place (outside contents failed (O.told l.fn.out) err) (outside contents failed (O.told l.out) err)
    (counts reads writes (O.faults l.fn.out) errs) (counts reads writes (O.faults l.out) errs)
