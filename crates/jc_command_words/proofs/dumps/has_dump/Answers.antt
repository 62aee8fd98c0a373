use Rattle.std.proofs.Common.{[], Bor, List, ℕ, ap, ◌∙◌}
use Rattle.std.specs.List.{list_any}
use Rattle.jc_paths.specs.Paths.{in_folder}
use Rattle.jc_command_words.specs.Dumps.{is_dump}
use Rattle.jc_command_words.proofs.FormLaws.{list_any-map}
use Rattle.jc_command_words.proofs.dumps.has_dump.Goals as goal

pub returns : goal.returns
returns c =
    let paths = c.args.paths.now in
    let dir = c.in-Some.dir.now in
    rw c.in-Some.is
    (c.any_dump.ensures
    ∙ ap (λ (folder : List ℕ). list_any (λ (p : Bor (List ℕ)). is_dump folder p.now) paths) (c.as_str.ensures.value ∙ c.in_ok-folder.ensures)
    ∙ list_any-map (is_dump (in_folder dir [])) (λ (p : Bor (List ℕ)). p.now) paths)
