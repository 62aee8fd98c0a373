use Rattle.std.proofs.Common.{rules, ◌≡◌, ◌+◌, ◌<◌, ◌≤◌, List, [], ◌∷◌, ◌++◌, take, refl, sym, subst}
use Rattle.jc_methods.specs.declared.body.Handler.{Handler}
use Rattle.jc_kinds.proofs.GuardLaws.{row_at}
use Rattle.jc_kinds.proofs.RowLaws.{AreKept, kept_more, kept_same, all_kept}
use Rattle.jc_kinds.proofs.rows.further_rows.Goals.{then-row-reached+in_ok-push, else-row-reached}
use Rattle.jc_kinds.proofs.rows.further_rows.Goals as goal

pub keeping-preserved : goal.keeping-preserved
keeping-preserved c =
    let rows = c.args.rows.now in let i = c.keeping.row-index in let row = row_at rows i in
    let kept = c.keeping.kept.items in let reached = c.keeping.reached in let next = c.if-row-reached in
    elim c.if-row-reached.branch [
      | then-row-reached+in_ok-push w ↦
          let further : reached < row.end = search rules in
          let put : next.kept.items ≡ kept ++ row ∷ [] = search rules in
          let ends : next.reached ≡ row.end = search rules in
          subst (λ (l : List Handler). AreKept (take (i + 1) rows) l next.reached) (sym put)
          (subst (AreKept (take (i + 1) rows) (kept ++ row ∷ [])) (sym ends)
          (kept_more rows kept i reached row c.requires c.keeping-test.true refl c.keeping.invariant further))
      | else-row-reached w ↦
          let near : row.end ≤ reached = search rules in
          let put : next.kept.items ≡ kept = search rules in
          let ends : next.reached ≡ reached = search rules in
          subst (λ (l : List Handler). AreKept (take (i + 1) rows) l next.reached) (sym put)
          (subst (AreKept (take (i + 1) rows) kept) (sym ends)
          (kept_same rows kept i reached row c.requires c.keeping-test.true refl c.keeping.invariant near))
    ]

pub returns : goal.returns
returns c = all_kept c.args.rows.now c.keeping.kept.items c.keeping.row-index c.keeping.reached c.keeping-test.false c.keeping.invariant
