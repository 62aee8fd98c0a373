use Rattle.std.proofs.Common.{◌≡◌, [], take}
use Rattle.jc_exec.specs.Writing.{exec_text}
use Rattle.examples_methods.proofs.slow_union.text.Given as goal

-- the records so far
abbrev pub invariant-writing : goal.invariant-writing
invariant-writing l = l.out.items ≡ exec_text (record { sessions = []; classes = take l.hits-index l.records })
