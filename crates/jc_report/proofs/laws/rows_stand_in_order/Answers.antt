use Rattle.jc_report.specs.Rows.{row_lt}
use Rattle.jc_report.proofs.OrderLaws.{put_in_order, one_order}
use Rattle.jc_report.proofs.RowLaws.{rows_total, rows_ordered}
use Rattle.jc_report.proofs.laws.rows_stand_in_order.Goals as goal

pub returns : goal.returns
returns c = record { total = rows_total; order = put_in_order row_lt rows_ordered; only = one_order row_lt rows_ordered }
