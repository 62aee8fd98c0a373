use Rattle.std.proofs.Common.{ℕ, List, Bor, None, length, sym, ◌∙◌, ap}
use Rattle.std.proofs.lemmas.List.{length-map}
use Rattle.std.proofs.lemmas.Result.{err_from_is_err_and}
use Rattle.jc_command_work.specs.Seen.{texts_of}
use Rattle.jc_command_work.specs.Step.{FilesTargeted}
use Rattle.jc_command_work.proofs.AnsweredLaws.{as_texts_of, none_made, were_read}
use Rattle.jc_command_work.proofs.targeted_files.read_again.Goals as goal

pub returns-in_err-paths-clause-does : goal.returns-in_err-paths-clause-does
returns-in_err-paths-clause-does g c out err outs errs =
    let p = err_from_is_err_and c.from_residual.result c.from_residual.ensures.1 in
    rw (p.1, p.2) (none_made g.F.Files.landed _ _ _)

pub returns-in_err-texts-clause-does : goal.returns-in_err-texts-clause-does
returns-in_err-texts-clause-does g c out err outs errs =
    let p = err_from_is_err_and c.from_residual-in_err-texts.result c.from_residual-in_err-texts.ensures.1 in
    let same = ap texts_of c.deref.ensures.value ∙ ap (λ (f : FilesTargeted). f.targets) c.targeted.view_is in
    rw (p.1, p.2, ← same) (c.in_err-texts.ensures out err outs errs)

pub new-requires : goal.new-requires
new-requires g c =
    let targets = c.deref.result.now in
    let paths = c.in_ok-paths.paths.items in
    let read = were_read g.F.Files.landed _ _ _ _ (c.in_ok-texts.ensures None None 0 0).1 in
    let many = ap length c.in_ok-paths.ensures ∙ c.paths.ensures.each ∙ sym c.targeted.invariant ∙ sym (ap length c.deref.ensures.value) in
    as_texts_of (texts_of targets) (texts_of paths) c.in_ok-texts.texts.items read
    (length-map paths (λ (t : Bor (List ℕ)). t.now) ∙ many ∙ sym (length-map targets (λ (t : Bor (List ℕ)). t.now)))

pub returns-clause-does : goal.returns-clause-does
returns-clause-does g c out err outs errs =
    let same = ap texts_of c.deref.ensures.value ∙ ap (λ (f : FilesTargeted). f.targets) c.targeted.view_is in
    rw (c.new.ensures.texts, ← same) (c.in_ok-texts.ensures out err outs errs)

pub returns-clause-paths : goal.returns-clause-paths
returns-clause-paths g c =
    c.new.ensures.paths ∙ ap texts_of c.in_ok-paths.ensures ∙ c.paths.ensures.paths ∙ ap (λ (f : FilesTargeted). f.inputs.paths) c.targeted.view_is
