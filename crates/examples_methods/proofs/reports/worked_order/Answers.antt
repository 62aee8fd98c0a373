use Rattle.examples_methods.proofs.ReportExampleLaws.{rows_are_in_order}
use Rattle.examples_methods.proofs.reports.worked_order.Goals as goal

pub returns : goal.returns
returns c = rows_are_in_order
