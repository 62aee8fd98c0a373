use Rattle.std.proofs.Common.{rules, ◌<◌, ◌≤◌, length, List, refl, subst}
use Rattle.jc_methods.specs.declared.kind.Kind.{Kind}
use Rattle.jc_kinds.specs.Runs.{IsFirstUnfit}
use Rattle.jc_kinds.proofs.GuardLaws.{row_at}
use Rattle.jc_kinds.proofs.GroupLaws.{rows_over, rows_found, rows_next}
use Rattle.jc_kinds.proofs.guarded.first_in_rows.Goals as goal

pub returns-then-unfit-row : goal.returns-then-unfit-row
returns-then-unfit-row c =
    let rows = c.args.rows.now in let at = c.looking.at in let unfit = c.first_unfit-unfit.result in
    let guarded : unfit < (row_at rows at).end = search rules in
    rows_found c.args.column.now.kinds.items rows c.args.want c.args.bound at (row_at rows at) c.looking-test.true refl c.requires.rows c.looking.invariant.fit
    unfit (subst (λ (kinds : List Kind). IsFirstUnfit kinds c.args.want (row_at rows at).start c.args.bound unfit) c.deref.ensures.value c.first_unfit-unfit.ensures)
    guarded

pub looking-preserved : goal.looking-preserved
looking-preserved c =
    let rows = c.args.rows.now in let at = c.looking.at in let unfit = c.first_unfit-unfit.result in let next = c.first_ending_behind-at in
    let ended : (row_at rows at).end ≤ unfit = search rules in
    record {
      within = next.ensures.within;
      fit = rows_next c.args.column.now.kinds.items rows c.args.want c.args.bound at (row_at rows at) c.looking-test.true refl c.requires.rows
          c.looking.invariant.fit unfit (subst (λ (kinds : List Kind). IsFirstUnfit kinds c.args.want (row_at rows at).start c.args.bound unfit) c.deref.ensures.value c.first_unfit-unfit.ensures)
          next.result ended
          next.ensures.within next.ensures.ended;
    }

pub returns : goal.returns
returns c =
    let past : length c.args.rows.now ≤ c.looking.at = search rules in
    rows_over c.args.column.now.kinds.items c.args.rows.now c.args.want c.args.bound c.looking.at past c.looking.invariant.fit
