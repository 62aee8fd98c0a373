use Rattle.std.proofs.Common.{◌≡◌, ◌+◌, ◌<◌, List, length, take, get_or, refl, sym, ap, ◌∙◌, subst, arith}
use Rattle.std.specs.Prelude.{All}
use Rattle.std.specs.List.{count_by}
use Rattle.std.proofs.lemmas.List.{take_all}
use Rattle.jc_bytes.specs.PlainLists.{join_from}
use Rattle.jc_methods.specs.declared.insn.Insn.{Insn}
use Rattle.jc_methods.proofs.PlacedInsnLaws.{few_insns}
use Rattle.jc_plan.specs.Edges.{branches_of}
use Rattle.jc_plan.specs.InsnFacts.{enters, EntersWithin}
use Rattle.jc_plan.proofs.CountingLaws.{entered_next, entered_few, enters_within}
use Rattle.jc_plan.proofs.FlowLaws.{few_targets, few_at}
use Rattle.jc_plan.proofs.entries.count_code.Goals as goal

pub counting-init : goal.counting-init
counting-init c = λ i. let none : count_by (enters i) (join_from branches_of 0 (take 0 c.args.code.now)) ≡ 0 = refl in omega (arith, none)

pub overflow_cast-at : goal.overflow_cast-at
overflow_cast-at c = omega (arith, few_insns c.args.code.now, c.requires.few)

pub count_insn-requires : goal.count_insn-requires
count_insn-requires c =
    let lt : c.counting.at < length c.args.code.now = omega arith in
    let insn = c.index-code-at.result in
    let size = c.counting.auto.counts in
    record {
      at = omega (arith, lt, few_insns c.args.code.now, c.requires.few);
      targets = omega (arith, few_targets insn, few_at c.args.code.now c.counting.at insn lt c.index-code-at.is, c.requires.few);
      within = subst (λ n. All (EntersWithin n) (branches_of c.counting.at insn)) (sym size)
          (enters_within c.args.code.now c.counting.at insn lt c.index-code-at.is (length c.args.counts.now) c.requires.within);
      room = λ i. omega (arith, c.counting.invariant i, entered_few c.args.code.now c.counting.at insn lt c.index-code-at.is i, c.requires.room i);
    }

pub counting-preserved : goal.counting-preserved
counting-preserved c = λ i.
    let lt : c.counting.at < length c.args.code.now = omega arith in
    omega (arith, c.counting.invariant i, c.in_ok-count_insn.ensures i, entered_next c.args.code.now c.counting.at c.index-code-at.result lt c.index-code-at.is i)

pub returns : goal.returns
returns c = λ i.
    c.counting.invariant i
    ∙ ap (λ (l : List Insn). get_or c.args.counts.now i 0 + count_by (enters i) (join_from branches_of 0 l)) (take_all c.counting.at c.args.code.now (omega arith))
