use Rattle.std.proofs.Common.{refl, subst}
use Rattle.jc_outside.specs.Outside.{LeavesPart}
use Rattle.jc_outside.specs.InMemory.{MemoryState, held}
use Rattle.jc_outside.proofs.HeldLaws.{write_failed}
use Rattle.jc_outside.proofs.memory_files.MemoryFilesFiles.write.Goals as goal

pub returns-then-fails-clause-leaves : goal.returns-then-fails-clause-leaves
returns-then-fails-clause-leaves c =
    let left = write_failed c.overwrite-written.result (held c.self.inside.files) (held c.overwrite-written.new.files) c.args.path.now
    c.front-part.result.now c.args.bytes.now c.front-part.ensures.begins c.overwrite-written.ensures.ok c.overwrite-written.ensures.err in
    (held c.overwrite-written.new.files, refl, subst (λ (s : MemoryState). LeavesPart c.args.bytes.now c.args.path.now s.files (held c.overwrite-written.new.files)) c.self.view_is left)
