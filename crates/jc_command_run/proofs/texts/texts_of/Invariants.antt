use Rattle.std.proofs.Common.{◌≡◌, take}
use Rattle.jc_command_run.specs.Texts.{end_texts}
use Rattle.jc_command_run.proofs.texts.texts_of.Given as goal

-- the texts of the cases so far stand there
abbrev pub invariant-printing : goal.invariant-printing
invariant-printing l = l.text.items ≡ end_texts l.program 1 (take l.index l.ends)
