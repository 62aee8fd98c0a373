use Rattle.std.proofs.Common.{◌≡◌, ℕ, ◌+◌, get_or, take, nat_eq}
use Rattle.std.specs.List.{count_by}
use Rattle.jc_plan.proofs.entries.count_rows.Given as goal

-- the entries of the rows so far are counted
abbrev pub invariant-counting : goal.invariant-counting
invariant-counting l = (i : ℕ) → get_or l.counts i 0
    ≡ get_or l.initial.counts i 0 + count_by (λ row. nat_eq row.start i) (take l.row-index l.rows) + count_by (λ row. nat_eq row.target i) (take l.row-index l.rows)
