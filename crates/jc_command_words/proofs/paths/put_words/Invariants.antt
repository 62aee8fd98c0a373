use Rattle.std.proofs.Common.{◌≡◌, ◌++◌, take}
use Rattle.jc_command_words.specs.Words.{words_of}
use Rattle.jc_command_words.proofs.PathLaws.{texts}
use Rattle.jc_command_words.proofs.paths.put_words.Given as goal

-- the words so far stand behind the paths
abbrev pub invariant-putting : goal.invariant-putting
invariant-putting l = texts l.paths.items ≡ texts l.initial.paths.items ++ words_of (take l.word-index l.words)
