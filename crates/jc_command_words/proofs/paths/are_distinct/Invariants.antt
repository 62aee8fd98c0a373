use Rattle.jc_command_words.proofs.PathLaws.{Seen}
use Rattle.jc_command_words.proofs.paths.are_distinct.Given as goal

-- the texts so far are seen, and differ
abbrev pub invariant-seeing : goal.invariant-seeing
invariant-seeing l = Seen l.texts l.text-index l.seen.keys
