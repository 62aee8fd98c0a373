use Rattle.std.proofs.Common.{ℕ, ◌<◌, List, [], Bor, length, get_or, sym, ◌∙◌, ap, subst, arith}
use Rattle.jc_command_work.specs.Seen.{texts_of}
use Rattle.jc_command_work.specs.Step.{FilesRead}
use Rattle.jc_command_work.proofs.AnsweredLaws.{as_many_files}
use Rattle.jc_command_work.proofs.input_files.InputFiles.path.Goals as goal

pub path_at-requires : goal.path_at-requires
path_at-requires c =
    let within = subst (λ (f : FilesRead). c.args.index < length f.texts) (sym c.self.view_is) c.requires in
    let many = as_many_files c.self.inside.paths.items c.self.inside.texts.items c.self.invariant in
    omega (arith, within, many, ap length c.deref.ensures.value)

pub returns : goal.returns
returns c =
    c.path_at.ensures ∙ ap (λ (ps : List (Bor (List ℕ))). get_or (texts_of ps) c.args.index []) c.deref.ensures.value ∙ ap (λ (f : FilesRead). get_or f.paths c.args.index []) c.self.view_is
