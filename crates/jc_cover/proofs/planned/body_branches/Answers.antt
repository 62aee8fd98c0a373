use Rattle.std.proofs.Common.{◌<◌, ◌≤◌, List, [], ◌∷◌, ◌++◌, length, get_or, ap, ◌∙◌, arith}
use Rattle.std.proofs.lemmas.List.{take_all}
use Rattle.jc_bytes.specs.PlainLists.{map_from}
use Rattle.jc_methods.specs.declared.insn.Insn.{Insn}
use Rattle.jc_methods.specs.declared.plan.Plan.{Plan}
use Rattle.jc_methods.proofs.PlacedInsnLaws.{few_insns}
use Rattle.jc_plan.proofs.PlacesLaws.{maps_one}
use Rattle.jc_cover.specs.Planned.{read_branches}
use Rattle.jc_cover.specs.declared.planned.PlannedBranch.{PlannedBranch}
use Rattle.jc_cover.proofs.PlannedLaws.{body_read}
use Rattle.jc_cover.proofs.planned.body_branches.Goals as goal

pub overflow_cast-at : goal.overflow_cast-at
overflow_cast-at g c = let made = c.requires.0 in let few = made.few in omega (arith, few_insns c.args.body.now.code, few, ap length c.deref-insn-items.ensures)

pub read_branches-requires-clause-at : goal.read_branches-requires-clause-at
read_branches-requires-clause-at g c = let made = c.requires.0 in let few = made.few in omega (arith, few_insns c.args.body.now.code, few, ap length c.deref-insn-items.ensures)

pub reading-preserved : goal.reading-preserved
reading-preserved g c =
    let code = c.args.body.now.code in
    let at = c.reading.at in
    let insn = c.insn-item.result in
    let lt : at < length code = omega (arith, ap length c.deref-insn-items.ensures) in
    let is = c.insn-item.is ∙ ap (λ (l : List Insn). get_or l at insn) c.deref-insn-items.ensures in
    maps_one (read_branches c.args.plan.now) code at insn c.reading.list.items c.push.new.self.items lt is c.reading.invariant
    (c.in_ok-push.ensures.items ∙ ap (λ (x : List PlannedBranch). c.reading.list.items ++ x ∷ []) c.in_ok-read_branches.ensures)

pub returns : goal.returns
returns g c =
    let code = c.args.body.now.code in
    let le : length code ≤ c.reading.at = omega (arith, ap length c.deref-insn-items.ensures) in
    c.reading.invariant ∙ ap (map_from (read_branches c.args.plan.now) 0) (take_all c.reading.at code le)
    ∙ ap (λ (p : Plan). map_from (read_branches p) 0 code) c.requires.1 ∙ body_read c.args.body.now g.first c.requires.0
