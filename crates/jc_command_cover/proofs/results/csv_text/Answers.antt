use Rattle.std.proofs.Common.{subst}
use Rattle.jc_exec.specs.Store.{Store}
use Rattle.jc_command_work.specs.Seen.{stop_seen}
use Rattle.jc_headline.specs.CoverWork.{IsReportText, IsClashEnd}
use Rattle.jc_command_cover.specs.Deciding.{Decides}
use Rattle.jc_command_cover.proofs.ReportLaws.{report_decided}
use Rattle.jc_command_cover.proofs.results.csv_text.Goals as goal

pub returns : goal.returns
returns g c =
    let name = c.args.options.now.name.now in
    let exec = c.args.options.now.destfile.now in
    let texts = c.args.inputs.now.texts in
    subst (λ (s : Store). Decides (IsReportText name s texts) (IsClashEnd exec s texts) (λ csv. csv.items) stop_seen c.csv_of_files.result) c.in_ok-packed.ensures
    (report_decided name exec c.in_ok-packed.field-0 texts c.csv_of_files.result c.csv_of_files.ensures)
