use Rattle.std.proofs.Common.{◌≡◌, take, false}
use Rattle.csv.specs.Writing.{default_writer, fields_written, has_written, writer_setup}
use Rattle.jc_report.specs.Csv.{csv_of}
use Rattle.jc_report.specs.Written.{written}
use Rattle.jc_report.proofs.csv_file.csv_text.Given as goal

-- the lines so far, each of them whole
abbrev pub invariant-writing : goal.invariant-writing
invariant-writing l = record {
  fields : fields_written l.writer ≡ 0;
  wrote : has_written l.writer ≡ false;
  setup : writer_setup l.writer ≡ default_writer;
  text : written l.writer ≡ csv_of (take l.row-index l.rows);
}
