use Rattle.std.proofs.Common.{◌≡◌, map, take}
use Rattle.jc_paths.specs.Paths.{file_text}
use Rattle.jc_paths.specs.Looks.{file_view}
use Rattle.jc_command_words.specs.Seen.{texts_seen}
use Rattle.jc_command_words.proofs.command.file_words.Given as goal

-- the words so far are those of the files so far
abbrev pub invariant-reading : goal.invariant-reading
invariant-reading l = map file_view l.words.items ≡ map file_text (texts_seen (take l.file-index l.files))
