use Rattle.std.proofs.Common.{length, sym, ◌∙◌, ap}
use Rattle.jc_command_work.specs.Seen.{texts_of}
use Rattle.jc_command_work.specs.Step.{FilesRead}
use Rattle.jc_command_work.proofs.AnsweredLaws.{as_many_files}
use Rattle.jc_command_work.proofs.input_files.InputFiles.paths.Goals as goal

pub returns-clause-paths : goal.returns-clause-paths
returns-clause-paths c = ap texts_of c.deref.ensures.value ∙ ap (λ (f : FilesRead). f.paths) c.self.view_is

pub returns-clause-each : goal.returns-clause-each
returns-clause-each c =
    let many = as_many_files c.self.inside.paths.items c.self.inside.texts.items c.self.invariant in
    ap length c.deref.ensures.value ∙ sym many ∙ ap (λ (f : FilesRead). length f.texts) c.self.view_is
