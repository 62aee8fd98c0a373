use Rattle.std.proofs.Common.{rules, ◌∙◌, ap}
use Rattle.std.proofs.lemmas.List.{take_all}
use Rattle.std.proofs.lemmas.List.Sorted.{answers_always}
use Rattle.jc_report.specs.Order.{in_order}
use Rattle.jc_report.specs.Rows.{row_lt, each_row}
use Rattle.jc_report.proofs.OrderLaws.{one_order}
use Rattle.jc_report.proofs.RowLaws.{rows_ordered}
use Rattle.jc_report.proofs.class_rows.rows.Goals as goal

pub returns : goal.returns
returns c =
    let answers = answers_always _ _ _ (λ f a r next called. search rules) in
    one_order row_lt rows_ordered c.making.rows.items c.sort_by.new.self.items
    (record {
      sorted = c.in_ok-sort_by.ensures.sorted row_lt rows_ordered answers;
      stable = c.in_ok-sort_by.ensures.stable row_lt rows_ordered answers;
    })
    ∙ ap (in_order row_lt) (c.making.invariant ∙ ap (each_row c.args.name.now) (take_all c.making.class-index c.args.classes.now c.making-test.false))
