use Rattle.std.proofs.Common.{rules}
use Rattle.std.proofs.lemmas.List.Sorted.{IsNonDecreasingBy-from_sort_by_key}
use Rattle.jc_kinds.proofs.rows.by_start.Goals as goal

pub returns-clause-starts : goal.returns-clause-starts
returns-clause-starts c = IsNonDecreasingBy-from_sort_by_key (λ h. h.start) _ c.sort_unstable_by_key.ensures.sorted (λ a r q k. search rules)
