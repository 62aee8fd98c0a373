use Rattle.std.proofs.Common.{◌≡◌, take}
use Rattle.jc_command_words.specs.Words.{words_of}
use Rattle.jc_command_words.specs.Seen.{texts_seen}
use Rattle.jc_command_words.proofs.call.file_texts.Given as goal

-- the texts so far are those of the files so far
abbrev pub invariant-taking : goal.invariant-taking
invariant-taking l = texts_seen l.texts.items ≡ words_of (take l.file-index l.files)
