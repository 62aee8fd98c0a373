use Rattle.std.proofs.Common.{rules, List, ℕ, Option, Result, Vec, subst}
use Rattle.std.specs.declared.alloc.Global.{Global}
use Rattle.jc_command_work.specs.declared.stop.Stop.{Stop}
use Rattle.jc_command_classes.specs.declared.kept.Seen.{Seen}
use Rattle.jc_command_classes.specs.ReportSteps.{data_records, data_path, IsLooked}
use Rattle.jc_command_classes.proofs.RunLaws.{answers_read}
use Rattle.jc_command_rules.specs.Printing.{IsListed}
use Rattle.jc_command_rules.proofs.lines.look_at_each.Goals as goal

pub returns-clause-each : goal.returns-clause-each
returns-clause-each g c =
    let records = data_records c.args.exec_data in
    let Looks : List ℕ → Result (Seen (Option (Vec ℕ Global))) Stop → Type 0 = IsLooked (IsListed records) records (data_path c.args.exec_data) in
    answers_read Looks c.args.texts.now c.each_answer.result c.each_answer.ensures.each
    (λ t u a. let said : Looks a.shown.now u = search (rules, a.says.met) in subst (λ (l : List ℕ). Looks l u) a.shows said)
