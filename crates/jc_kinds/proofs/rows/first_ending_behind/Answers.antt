use Rattle.std.proofs.Common.{rules, ◌≡◌, ◌+◌, ◌-◌, ◌<◌, ◌≤◌, ℕ, leb, leb-true, length, drop, get_or, subst, ap, ◌∙◌, arith}
use Rattle.std.specs.List.{slice_range}
use Rattle.std.proofs.lemmas.List.{get_or-take, get_or-drop, length-take-le, length-drop}
use Rattle.std.proofs.lemmas.List.Sorted.{IsPartitionPoint-from_clause, IsPartitionedBy-leb, IsNonDecreasingBy-take, IsNonDecreasingBy-drop}
use Rattle.jc_methods.specs.declared.body.Handler.{Handler}
use Rattle.jc_kinds.proofs.rows.first_ending_behind.Goals as goal

pub returns-clause-ended : goal.returns-clause-ended
returns-clause-ended c =
    let rows = c.args.rows.now in let from = c.args.from in let n = length rows - from in
    let up = IsNonDecreasingBy-take (λ (h : Handler). h.end) n (drop from rows) (IsNonDecreasingBy-drop (λ (h : Handler). h.end) from rows c.requires.rising.ends) in
    let parted = IsPartitionedBy-leb (λ (h : Handler). h.end) (slice_range rows from (length rows)) c.args.at up in
    let point = IsPartitionPoint-from_clause (λ (h : Handler). leb h.end c.args.at) _ _ c.partition_point.ensures.partitioned parted (λ a r q k. search rules) in
    let left : length (drop from rows) ≡ n = length-drop from rows in
    let short : length (slice_range rows from (length rows)) ≡ n = length-take-le n (drop from rows) (omega (arith, left)) in
    let bound : c.partition_point.result ≤ length (slice_range rows from (length rows)) = c.partition_point.ensures.bound in
    λ k d low lt.
    let back : from + (k - from) ≡ k = omega (arith, low) in
    let inside : k - from < n = omega (arith, low, lt, bound, short) in
    subst (λ (h : Handler). h.end ≤ c.args.at) (get_or-take n (drop from rows) (k - from) d inside ∙ get_or-drop from rows (k - from) d ∙ ap (λ (j : ℕ). get_or rows j d) back)
    (leb-true _ _ (point.0 (k - from) d (omega arith) (omega (arith, low, lt))))
