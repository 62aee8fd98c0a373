use Rattle.std.proofs.Common.{◌≡◌, ◌<◌, ◌≤◌, ℕ, List, Option, [], ◌∷◌, ◌++◌, length, ap, ap₂, ◌∙◌, arith}
use Rattle.std.proofs.lemmas.List.{take_all}
use Rattle.jc_bytes.specs.PlainLists.{map_from}
use Rattle.jc_plan.specs.declared.branch.Branch.{Branch}
use Rattle.jc_plan.specs.Edges.{branches_of}
use Rattle.jc_plan.proofs.PlacesLaws.{puts_mapped}
use Rattle.jc_cover.specs.Planned.{read_branch}
use Rattle.jc_cover.specs.declared.planned.PlannedBranch.{PlannedBranch}
use Rattle.jc_cover.proofs.planned.read_branches.Goals as goal

pub reading-preserved : goal.reading-preserved
reading-preserved c =
    let items = c.deref-branch-items.result.now in
    let k = c.reading.k in
    let lt : k < length items = omega arith in
    puts_mapped (read_branch c.args.plan.now) items k _ [] c.reading.list c.push.new.self lt c.reading.invariant
    (c.in_ok-push.ensures.ok ∙ ap₂ (λ (t p : Option ℕ). c.reading.list ++ (let x : PlannedBranch = record { to = t; probe = p } in x) ∷ []) c.place.ensures c.probe.ensures)

pub returns : goal.returns
returns c =
    let items = c.deref-branch-items.result.now in
    let at = c.args.at in
    let insn = c.args.insn.now in
    let le : length items ≤ c.reading.k = omega arith in
    let listed : items ≡ branches_of at insn =
    c.deref-branch-items.ensures.value ∙ c.in_ok-put_branches.ensures ∙ ap (λ (l : List Branch). l ++ branches_of at insn) c.new-branches.ensures.items in
    c.reading.invariant ∙ ap (map_from (read_branch c.args.plan.now) 0) (take_all c.reading.k items le ∙ listed)
