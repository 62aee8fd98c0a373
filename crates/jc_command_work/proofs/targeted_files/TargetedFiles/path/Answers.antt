use Rattle.std.proofs.Common.{◌<◌, [], length, get_or, sym, ◌∙◌, ap, subst}
use Rattle.jc_command_work.specs.Step.{FilesTargeted}
use Rattle.jc_command_work.proofs.targeted_files.TargetedFiles.path.Goals as goal

pub path-requires : goal.path-requires
path-requires c = subst (λ (f : FilesTargeted). c.args.index < length f.inputs.texts) (sym c.self.view_is) c.requires

pub returns : goal.returns
returns c = c.path.ensures ∙ ap (λ (f : FilesTargeted). get_or f.inputs.paths c.args.index []) c.self.view_is
