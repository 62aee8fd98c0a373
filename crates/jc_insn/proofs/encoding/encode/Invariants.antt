use Rattle.jc_methods.specs.Widened.{listed}
use Rattle.jc_insn.proofs.InsnWritingLaws.{CodePut}
use Rattle.jc_insn.proofs.encoding.encode.Given as goal

-- the instructions so far
abbrev pub invariant-writing : goal.invariant-writing
invariant-writing l = CodePut l.starts (listed l.wide) l.code l.number l.text.items
