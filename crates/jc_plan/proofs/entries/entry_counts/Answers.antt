use Rattle.std.proofs.Common.{◌≡◌, ℕ, ◌++◌, length, take, drop, ap, ◌∙◌, arith}
use Rattle.std.proofs.Math.Seq.{take-append_seam}
use Rattle.jc_plan.proofs.entries.entry_counts.Goals as goal

pub returns : goal.returns
returns c =
    let new = c.count_entries.new.counts in
    let old = c.in_ok-counts.counts in
    let size : old.len ≡ length new = omega arith in
    ap (λ (n : ℕ). take n (new ++ drop (length new) old.items)) size ∙ take-append_seam new (drop (length new) old.items) ∙ c.in_ok-count_entries.ensures
