use Rattle.std.proofs.Common.{length, drop}
use Rattle.jc_command_work.specs.Seen.{words_of}
use Rattle.jc_command_work.proofs.OnceLaws.{Kept}
use Rattle.jc_command_work.proofs.folders.once.Given as goal

-- of the paths so far each is kept where it stands first
abbrev pub invariant-keeping : goal.invariant-keeping
invariant-keeping l = Kept (words_of l.fn.paths.items) (words_of (drop (length l.yielded) l.fn.paths.items)) (words_of l.seen.keys)
