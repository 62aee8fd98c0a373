use Rattle.std.proofs.Common.{List, subst}
use Rattle.jc_methods.specs.declared.body.Handler.{Handler}
use Rattle.jc_kinds.specs.Rows.{AreRisingRowsOf}
use Rattle.jc_kinds.proofs.RowLaws.{kept_rows}
use Rattle.jc_kinds.proofs.rows.rising.Goals as goal

pub returns : goal.returns
returns c =
    let kept = c.in_ok-further_rows.field-0.items in
    kept_rows c.args.rows.now c.in_ok-sorted.sorted.items kept c.in_ok-sorted.ensures.permutation
    (subst (λ (rows : List Handler). AreRisingRowsOf rows kept) c.deref.ensures.value c.in_ok-further_rows.ensures)
