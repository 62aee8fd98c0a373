use Rattle.std.proofs.Common.{◌++◌, ◌∙◌, ap, sym}
use Rattle.jc_report.specs.Csv.{row_line}
use Rattle.jc_report.proofs.CsvLaws.{csv_of-more}
use Rattle.jc_report.proofs.csv_file.csv_text.Goals as goal

pub writing-preserved : goal.writing-preserved
writing-preserved c = record {
  fields = c.in_ok-write_row.ensures.fields;
  wrote = c.in_ok-write_row.ensures.wrote;
  setup = c.in_ok-write_row.ensures.setup;
  text = c.in_ok-write_row.ensures.text ∙ ap (λ t. t ++ row_line c.row-item.result) c.writing.invariant.text
      ∙ sym (csv_of-more c.args.rows.now c.writing.row-index c.row-item.result c.writing-test.true c.row-item.is);
}
