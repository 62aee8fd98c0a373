use Rattle.std.proofs.Common.{◌≡◌, ◌++◌, take}
use Rattle.jc_machine_model.specs.CaseText.{thread_lines}
use Rattle.jc_machine_text.proofs.ends.put_threads.Given as goal

-- the lines of the threads so far stand at the end
abbrev pub invariant-putting : goal.invariant-putting
invariant-putting l = l.text.items ≡ l.fn.text.items ++ thread_lines 0 (take l.number l.ends)
