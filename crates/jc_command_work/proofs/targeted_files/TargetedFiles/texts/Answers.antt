use Rattle.std.proofs.Common.{length, ◌∙◌, ap}
use Rattle.jc_command_work.specs.Step.{FilesTargeted}
use Rattle.jc_command_work.proofs.targeted_files.TargetedFiles.texts.Goals as goal

pub returns-clause-texts : goal.returns-clause-texts
returns-clause-texts c = c.texts.ensures.texts ∙ ap (λ (f : FilesTargeted). f.inputs.texts) c.self.view_is

pub returns-clause-each : goal.returns-clause-each
returns-clause-each c = c.texts.ensures.each ∙ ap (λ (f : FilesTargeted). length f.inputs.paths) c.self.view_is
