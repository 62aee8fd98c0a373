use Rattle.std.proofs.Common.{◌++◌, List, ℕ, ap, sym, ◌∙◌}
use Rattle.jc_command_words.specs.Dumps.{is_dump}
use Rattle.jc_command_words.proofs.DumpLaws.{path_test, lacks_folder}
use Rattle.jc_command_words.proofs.dumps.is_dump.Goals as goal

pub returns-in-Some : goal.returns-in-Some
returns-in-Some c =
    let folder = c.args.folder.now in
    let name = c.in-Some.name.now in
    let cut = c.in-Some.ensures.cases in
    let path_is = cut.1.1 ∙ ap (λ (l : List ℕ). folder ++ l) (sym cut.2) in
    c.is_dump_name.ensures ∙ sym (ap (is_dump folder) path_is ∙ path_test folder name)

pub returns-in-None : goal.returns-in-None
returns-in-None c = lacks_folder c.args.folder.now c.args.path.now c.in-None.ensures.cases
