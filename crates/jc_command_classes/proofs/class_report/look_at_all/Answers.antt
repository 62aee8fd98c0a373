use Rattle.std.proofs.Common.{List, ℕ, Result, length, sym, ◌∙◌, ap, subst}
use Rattle.std.specs.List.{AllZip}
use Rattle.jc_report.specs.declared.row.Counted.{Counted}
use Rattle.jc_command_work.specs.declared.stop.Stop.{Stop}
use Rattle.jc_command_classes.specs.declared.kept.Seen.{Seen}
use Rattle.jc_command_classes.specs.ReportSteps.{data_records, data_path, IsCountedBy, IsLooked}
use Rattle.jc_command_classes.proofs.ReportStepLaws.{all_look, all_stop, report_all, report_few}
use Rattle.jc_command_classes.proofs.class_report.look_at_all.Goals as goal

pub keep_all-requires-clause-texts : goal.keep_all-requires-clause-texts
keep_all-requires-clause-texts g c = c.in_ok-answers.ensures.len ∙ ap length c.texts.ensures.texts

pub keep_all-requires-clause-paths : goal.keep_all-requires-clause-paths
keep_all-requires-clause-paths g c = c.in_ok-answers.ensures.len ∙ c.texts.ensures.each

pub returns-clause-all : goal.returns-clause-all
returns-clause-all g c =
    let records = data_records c.args.exec_data in
    let path = data_path c.args.exec_data in
    let answers = c.in_ok-answers.answers.items in
    let Looks : List ℕ → Result (Seen Counted) Stop → Type 0 = IsLooked (IsCountedBy records) records path in
    let each = subst (λ (ts : List (List ℕ)). AllZip Looks ts answers) c.texts.ensures.texts c.in_ok-answers.ensures.each in
    report_all records c.args.inputs.now.paths c.args.inputs.now.texts c.keep_all.result
    (all_look (IsCountedBy records) records path c.args.inputs.now.paths c.args.inputs.now.texts answers each c.keep_all.result c.keep_all.ensures.all)

pub returns-clause-few : goal.returns-clause-few
returns-clause-few g c =
    report_few (data_records c.args.exec_data) c.args.inputs.now.paths c.args.inputs.now.texts
    (sym (ap length c.texts.ensures.texts) ∙ c.texts.ensures.each) c.keep_all.result (returns-clause-all g c)

pub returns-clause-clash : goal.returns-clause-clash
returns-clause-clash g c =
    let records = data_records c.args.exec_data in
    let path = data_path c.args.exec_data in
    let answers = c.in_ok-answers.answers.items in
    let Looks : List ℕ → Result (Seen Counted) Stop → Type 0 = IsLooked (IsCountedBy records) records path in
    let each = subst (λ (ts : List (List ℕ)). AllZip Looks ts answers) c.texts.ensures.texts c.in_ok-answers.ensures.each in
    all_stop (IsCountedBy records) records path c.args.inputs.now.paths c.args.inputs.now.texts answers each c.keep_all.result c.keep_all.ensures.stop
