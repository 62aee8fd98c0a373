use Rattle.std.proofs.Common.{◌≡◌, take}
use Rattle.jc_command_work.specs.Answered.{writes_seen}
use Rattle.jc_command_work.specs.Seen.{words_of}
use Rattle.jc_command_dumped.specs.DumpedAnswers.{dump_files}
use Rattle.jc_command_dumped.proofs.writes.dump_writes.Given as goal

-- the writes so far are those of the dumps so far
abbrev pub invariant-writing : goal.invariant-writing
invariant-writing l = writes_seen l.writes ≡ dump_files l.program (words_of l.paths) (take l.index l.dumps)
