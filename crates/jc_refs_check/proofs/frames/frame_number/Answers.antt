use Rattle.std.proofs.Common.{rules, List, ltb, sym, subst}
use Rattle.std.specs.List.Sorted.{IsNonDecreasingBy}
use Rattle.std.proofs.lemmas.List.Sorted.{IsPartitionPoint-from_clause, IsPartitionedBy-ltb}
use Rattle.jc_methods.specs.declared.body.FrameAt.{FrameAt}
use Rattle.jc_refs_check.specs.FrameNumbers.{StandsBehind}
use Rattle.jc_refs_check.proofs.FrameNumberLaws.{frames_rise, found_behind}
use Rattle.jc_refs_check.proofs.frames.frame_number.Goals as goal

pub returns : goal.returns
returns c =
    let b = c.args.body.now in let items = c.deref.result.now in
    let rise : IsNonDecreasingBy (λ (f : FrameAt). f.at) items =
    subst (IsNonDecreasingBy (λ (f : FrameAt). f.at)) (sym c.deref.ensures) (frames_rise 0 b.code b.max_locals b.max_stack b.frames c.requires.of_any_size.frames) in
    let parted = IsPartitionedBy-ltb (λ (f : FrameAt). f.at) items c.args.at rise in
    let point = IsPartitionPoint-from_clause (λ (f : FrameAt). ltb f.at c.args.at) _ _ c.partition_point.ensures.partitioned parted (λ a r q k. search rules) in
    subst (λ (frames : List FrameAt). StandsBehind frames c.args.at c.partition_point.result) c.deref.ensures
    (found_behind items c.args.at c.partition_point.result c.partition_point.ensures.bound point)
