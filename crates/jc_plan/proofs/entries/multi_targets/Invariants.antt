use Rattle.std.proofs.Common.{◌≡◌, map}
use Rattle.jc_bytes.specs.PlainLists.{numbers_from}
use Rattle.jc_methods.specs.Flow.{is_fallen_into}
use Rattle.jc_plan.specs.Entries.{is_multi_target}
use Rattle.jc_plan.proofs.entries.multi_targets.Given as goal

-- the instructions so far are marked, and whether the next one is fallen into is known
abbrev pub invariant-marking : goal.invariant-marking
invariant-marking l = record {
  marked : l.marks.items ≡ map (is_multi_target l.body) (numbers_from 0 l.at);
  fallen : l.fallen_into ≡ is_fallen_into l.body.code l.at;
}
