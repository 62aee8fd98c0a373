use Rattle.examples_methods.proofs.ReportExampleLaws.{nothing_is_filed, half_is_filed, missed_is_filed, calculator_is_filed, quoted_is_filed}
use Rattle.examples_methods.proofs.reports.worked_files.Goals as goal

pub returns : goal.returns
returns c = record {
  nothing = nothing_is_filed;
  half = half_is_filed;
  missed = missed_is_filed;
  calculator = calculator_is_filed;
  quoted = quoted_is_filed;
}
