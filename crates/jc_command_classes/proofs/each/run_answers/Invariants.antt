use Rattle.std.proofs.Common.{take}
use Rattle.std.specs.List.{AllZip}
use Rattle.std.specs.Fn.{FnReturnsAt}
use Rattle.jc_command_classes.proofs.each.run_answers.Given as goal

-- the files so far have their answers
abbrev pub invariant-answering : goal.invariant-answering
invariant-answering g l = AllZip (FnReturnsAt g.F.Fn l.answer) (take l.bytes-index l.run) l.answers.items
