use Rattle.std.proofs.Common.{◌++◌, drop, take, sym, ◌∙◌, ap}
use Rattle.std.specs.FinMap.{get}
use Rattle.jc_outside.specs.InMemory.{MemoryState}
use Rattle.jc_outside.proofs.PartLaws.{part_given}
use Rattle.jc_outside.proofs.memory_files.MemoryFilesFiles.read_part.Goals as goal

pub returns-clause-gives : goal.returns-clause-gives
returns-clause-gives c =
    let appended = c.in_ok-extend_from_slice.ensures in
    let there = sym (c.in-Some.ensures ∙ ap (λ (s : MemoryState). get s.files c.args.path.now) c.self.view_is) in (
      take 65536 (drop c.args.from c.in-Some.bytes.now),
      appended.items ∙ ap (λ part. c.args.into.now.items ++ part) c.part_of.ensures,
      part_given c.args.self.now.files c.args.path.now c.in-Some.bytes.now c.args.from there c.if-len.false,
    )
