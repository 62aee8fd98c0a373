use Rattle.std.proofs.Common.{◌<◌, ℕ, List, Option, None, length, replicate, ap, ◌∙◌, arith}
use Rattle.jc_cover.specs.Planned.{with_branches, with_insns}
use Rattle.jc_cover.specs.declared.planned.PlannedBranch.{PlannedBranch}
use Rattle.jc_cover.proofs.TableLaws.{insn_put}
use Rattle.jc_cover.proofs.marking.sources.Goals as goal

pub putting-preserved : goal.putting-preserved
putting-preserved c =
    let insns = c.args.branches.now in
    let at = c.putting.at in
    let table = c.putting.sources.items in
    let lt : at < length insns = omega arith in
    insn_put insns at c.index-branches-at.result (with_insns 0 insns (replicate {A = Option ℕ} (length insns) None)) table c.put_sources.new.sources.items (length insns)
    lt c.index-branches-at.is (c.put_sources.ensures ∙ ap (λ (l : List PlannedBranch). with_branches at l table) c.deref.ensures) c.putting.invariant
