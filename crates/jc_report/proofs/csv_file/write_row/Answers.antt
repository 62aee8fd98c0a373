use Rattle.std.proofs.Common.{◌≢◌}
use Rattle.csv.specs.declared.writer.QuoteStyle.TheVariants as style
use Rattle.jc_report.proofs.CsvLaws.{line_same}
use Rattle.jc_report.proofs.csv_file.write_row.Goals as goal

pub returns-in-Ok-clause-text : goal.returns-in-Ok-clause-text
returns-in-Ok-clause-text c =
    let plain : c.args.writer.now.cfg.style ≢ style.NonNumeric = rw c.requires.setup (λ e. cc e) in
    let h = c.in-Ok.ensures.bytes c.requires.fields c.requires.wrote plain in
    let text = rw (c.requires.setup, c.in_ok-fields.ensures, line_same) at h in
    text
