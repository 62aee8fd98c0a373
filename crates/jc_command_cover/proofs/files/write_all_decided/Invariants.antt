use Rattle.std.proofs.Common.{List, length, map}
use Rattle.jc_command_work.specs.Step.{Word, outside, counts}
use Rattle.jc_command_work.specs.Handed.{SameReferences}
use Rattle.jc_command_classes.specs.Instrument.{decision_seen}
use Rattle.jc_headline.specs.CoverWork.{LookedFile}
use Rattle.jc_command_cover.specs.Files.{AreOf}
use Rattle.jc_command_cover.proofs.FileLaws.{WroteFirst}
use Rattle.jc_command_cover.proofs.files.write_all_decided.Given as goal

-- the files so far were written
abbrev pub invariant-writing : goal.invariant-writing
invariant-writing g l =
    let F = g.F.Files in
    let O = g.O.Sink in
    let E = g.E.Sink in
    SameReferences l.fn.outside l.outside
    × ((dest : Word) (looked : List LookedFile) → AreOf dest looked l.targeted.targets l.targeted.inputs.paths l.targeted.inputs.texts (map decision_seen l.fn.all.items)
    → WroteFirst F.landed dest looked (length l.yielded)
    (outside (F.contents l.fn.outside.files.now) (F.failed_path l.fn.outside.files.now) (O.told l.fn.outside.out.now) (E.told l.fn.outside.err.now))
    (outside (F.contents l.outside.files.now) (F.failed_path l.outside.files.now) (O.told l.outside.out.now) (E.told l.outside.err.now))
    (counts (F.read_faults l.fn.outside.files.now) (F.write_faults l.fn.outside.files.now) (O.faults l.fn.outside.out.now) (E.faults l.fn.outside.err.now))
    (counts (F.read_faults l.outside.files.now) (F.write_faults l.outside.files.now) (O.faults l.outside.out.now) (E.faults l.outside.err.now)) l.places.items)
