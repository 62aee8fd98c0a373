use Rattle.std.proofs.Common.{ℕ, ◌<◌, List, [], Bor, length, get_or, sym, ◌∙◌, ap, subst, arith}
use Rattle.jc_command_work.specs.Seen.{texts_of}
use Rattle.jc_command_work.specs.Step.{FilesTargeted}
use Rattle.jc_command_work.proofs.targeted_files.TargetedFiles.target.Goals as goal

pub path_at-requires : goal.path_at-requires
path_at-requires c =
    let within = subst (λ (f : FilesTargeted). c.args.index < length f.inputs.texts) (sym c.self.view_is) c.requires in
    let many = c.self.invariant in
    omega (arith, within, many, ap length c.deref.ensures.value)

pub returns : goal.returns
returns c =
    c.path_at.ensures ∙ ap (λ (ps : List (Bor (List ℕ))). get_or (texts_of ps) c.args.index []) c.deref.ensures.value ∙ ap (λ (f : FilesTargeted). get_or f.targets c.args.index []) c.self.view_is
