use Rattle.std.proofs.Common.{◌≡◌, drop}
use Rattle.std.specs.List.{list_any}
use Rattle.jc_cover.specs.Planned.{is_hit_branch}
use Rattle.jc_cover.proofs.marking.has_hit.Given as goal

-- those that are left decide
abbrev pub invariant-looking : goal.invariant-looking
invariant-looking l = list_any (is_hit_branch l.hits) (drop l.branch-index l.branches) ≡ list_any (is_hit_branch l.hits) l.branches
