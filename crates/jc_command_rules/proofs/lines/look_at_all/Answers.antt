use Rattle.std.proofs.Common.{List, ℕ, Option, Result, Vec, length, ◌∙◌, ap, subst}
use Rattle.std.specs.List.{AllZip}
use Rattle.std.specs.declared.alloc.Global.{Global}
use Rattle.jc_command_work.specs.declared.stop.Stop.{Stop}
use Rattle.jc_command_classes.specs.declared.kept.Seen.{Seen}
use Rattle.jc_command_classes.specs.ReportSteps.{data_records, data_path, IsLooked}
use Rattle.jc_command_classes.proofs.ReportStepLaws.{all_look, all_stop}
use Rattle.jc_command_rules.specs.Printing.{IsListed}
use Rattle.jc_command_rules.proofs.lines.look_at_all.Goals as goal

pub keep_all-requires-clause-texts : goal.keep_all-requires-clause-texts
keep_all-requires-clause-texts g c = c.in_ok-answers.ensures.len ∙ ap length c.texts.ensures.texts

pub keep_all-requires-clause-paths : goal.keep_all-requires-clause-paths
keep_all-requires-clause-paths g c = c.in_ok-answers.ensures.len ∙ c.texts.ensures.each

pub returns-clause-all : goal.returns-clause-all
returns-clause-all g c =
    let records = data_records c.args.exec_data in
    let path = data_path c.args.exec_data in
    let answers = c.in_ok-answers.answers.items in
    let Looks : List ℕ → Result (Seen (Option (Vec ℕ Global))) Stop → Type 0 = IsLooked (IsListed records) records path in
    let each = subst (λ (ts : List (List ℕ)). AllZip Looks ts answers) c.texts.ensures.texts c.in_ok-answers.ensures.each in
    all_look (IsListed records) records path c.args.inputs.now.paths c.args.inputs.now.texts answers each c.keep_all.result c.keep_all.ensures.all

pub returns-clause-clash : goal.returns-clause-clash
returns-clause-clash g c =
    let records = data_records c.args.exec_data in
    let path = data_path c.args.exec_data in
    let answers = c.in_ok-answers.answers.items in
    let Looks : List ℕ → Result (Seen (Option (Vec ℕ Global))) Stop → Type 0 = IsLooked (IsListed records) records path in
    let each = subst (λ (ts : List (List ℕ)). AllZip Looks ts answers) c.texts.ensures.texts c.in_ok-answers.ensures.each in
    all_stop (IsListed records) records path c.args.inputs.now.paths c.args.inputs.now.texts answers each c.keep_all.result c.keep_all.ensures.stop
