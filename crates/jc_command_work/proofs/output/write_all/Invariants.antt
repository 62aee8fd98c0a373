use Rattle.jc_command_work.specs.Seen.{write_seen}
use Rattle.jc_command_work.specs.Step.{outside, counts}
use Rattle.jc_command_work.specs.Handed.{SameReferences}
use Rattle.jc_command_work.proofs.Reaching.{Writes}
use Rattle.jc_command_work.proofs.output.write_all.Given as goal

-- the writes so far were made
abbrev pub invariant-writing : goal.invariant-writing
invariant-writing g l =
    let F = g.F.Files in
    let O = g.O.Sink in
    let E = g.E.Sink in
    SameReferences l.fn.outside l.outside
    × Writes F.landed write_seen l.writes l.write-index
    (outside (F.contents l.fn.outside.files.now) (F.failed_path l.fn.outside.files.now) (O.told l.fn.outside.out.now) (E.told l.fn.outside.err.now))
    (outside (F.contents l.outside.files.now) (F.failed_path l.outside.files.now) (O.told l.outside.out.now) (E.told l.outside.err.now))
    (counts (F.read_faults l.fn.outside.files.now) (F.write_faults l.fn.outside.files.now) (O.faults l.fn.outside.out.now) (E.faults l.fn.outside.err.now))
    (counts (F.read_faults l.outside.files.now) (F.write_faults l.outside.files.now) (O.faults l.outside.out.now) (E.faults l.outside.err.now))
