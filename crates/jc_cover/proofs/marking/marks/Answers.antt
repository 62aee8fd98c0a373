use Rattle.std.proofs.Common.{◌<◌, Bool, List, length, replicate, false, ap, ◌∙◌, arith}
use Rattle.std.specs.List.{list_any}
use Rattle.jc_cover.specs.Marking.{mark_if, mark_back}
use Rattle.jc_cover.specs.Planned.{is_hit_branch, mark_insns}
use Rattle.jc_cover.specs.declared.planned.PlannedBranch.{PlannedBranch}
use Rattle.jc_cover.proofs.TableLaws.{insn_marked}
use Rattle.jc_cover.proofs.marking.marks.Goals as goal

pub marking-preserved : goal.marking-preserved
marking-preserved c =
    let hits = c.args.hits.now in
    let from = c.args.sources.now in
    let count = length from in
    let at = c.marking.at in
    let branches = c.index-branches-at.result in
    let marks = c.marking.marks.items in
    let lt : at < length c.args.branches.now = omega arith in
    let hit = c.has_hit.ensures ∙ ap (λ (l : List PlannedBranch). list_any (is_hit_branch hits) l) c.deref.ensures in
    insn_marked hits from count c.args.branches.now at branches (mark_insns hits from count 0 c.args.branches.now (replicate count false)) marks c.mark_from.new.marks.items count
    lt c.index-branches-at.is (c.mark_from.ensures ∙ ap (λ (t : Bool). mark_if t (mark_back from count at) marks) hit) c.marking.invariant
