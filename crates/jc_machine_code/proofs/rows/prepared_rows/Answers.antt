use Rattle.std.proofs.Common.{◌+◌, sym, subst}
use Rattle.jc_machine_code.specs.Prepared.{IsRow}
use Rattle.jc_machine_code.proofs.CorrespondLaws.{BuiltTo, built_next, built_all}
use Rattle.jc_machine_code.proofs.rows.prepared_rows.Goals as goal

pub preparing-preserved : goal.preparing-preserved
preparing-preserved c = λ b whats.
    subst (BuiltTo (IsRow b) c.args.handlers.now (c.preparing.row-index + 1)) (sym c.in_ok-push.ensures.ok)
    (built_next (IsRow b) c.args.handlers.now c.preparing.row-index c.preparing.rows _ c.prepared_row.result c.preparing-test.true
    (c.prepared_row.ensures b c.preparing.row-index whats) (c.preparing.invariant b whats))

pub returns : goal.returns
returns c = λ b whats. built_all (IsRow b) c.args.handlers.now c.preparing.row-index c.preparing.rows c.preparing-test.false c.preparing.auto.row-index-end (c.preparing.invariant b whats)
