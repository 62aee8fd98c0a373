use Rattle.std.proofs.Common.{ℕ, ◌<◌, ◌≤◌, List, length, sym, subst}
use Rattle.jc_bytes.specs.Reader.{most_read}
use Rattle.jc_command_work.specs.Seen.{texts_of}
use Rattle.jc_command_work.specs.Step.{FilesRead}
use Rattle.jc_command_work.proofs.AnsweredLaws.{are_short}
use Rattle.jc_command_work.proofs.input_files.InputFiles.text.Goals as goal

pub returns-clause-short : goal.returns-clause-short
returns-clause-short c =
    let within = subst (λ (f : FilesRead). c.args.index < length f.texts) (sym c.self.view_is) c.requires in
    subst (λ (t : List ℕ). length t ≤ most_read) (sym c.index.ensures)
    (are_short (texts_of c.self.inside.paths.items) c.self.inside.texts.items c.self.invariant c.args.index c.index.result.now within)
