use Rattle.std.proofs.Common.{◌≡◌, take}
use Rattle.jc_command_work.specs.Seen.{words_of, texts_of}
use Rattle.jc_command_work.proofs.input.as_texts.Given as goal

-- the paths so far
abbrev pub invariant-naming : goal.invariant-naming
invariant-naming l = texts_of l.texts.items ≡ words_of (take l.path-index l.paths)
