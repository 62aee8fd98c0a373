-- The order of rows.
use Rattle.std.specs.Cmp.{IsTotalOrder, IsStrictWeakOrder}
use Rattle.std.proofs.lemmas.Cmp.{nat_cmp_total, nat_list_cmp_total, on_total, then_total}
use Rattle.std.proofs.lemmas.List.Sorted.{ranks_by}
use Rattle.jc_report.specs.declared.row.Row.{Row}
use Rattle.jc_report.specs.Rows.{row_cmp, row_lt}

pub rows_total : IsTotalOrder row_cmp
rows_total =
    then_total (on_total (λ (r : Row). r.«package») nat_list_cmp_total)
    (then_total (on_total (λ (r : Row). r.class) nat_list_cmp_total) (on_total (λ (r : Row). r.id) nat_cmp_total))

pub rows_ordered : IsStrictWeakOrder row_lt
rows_ordered = ranks_by rows_total (λ (r : Row). r)
