use Rattle.std.proofs.Common.{refl}
use Rattle.jc_paths.proofs.SlashLaws.{no_slash_behind}
use Rattle.jc_paths.proofs.paths.file_word.Goals as goal

pub returns-in-None : goal.returns-in-None
returns-in-None c = rw (no_slash_behind c.args.word.now c.in-None.ensures.cases) refl
