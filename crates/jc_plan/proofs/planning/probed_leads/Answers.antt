use Rattle.std.proofs.Common.{◌≡◌, ◌<◌, ℕ, Bool, List, ◌∷◌, [], ◌++◌, length, get_or, map, sym, ap, ap₂, ◌∙◌, arith}
use Rattle.jc_bytes.specs.PlainLists.{numbers_from, places}
use Rattle.jc_methods.specs.declared.insn.Insn.{Insn}
use Rattle.jc_methods.specs.declared.body.LineAt.{LineAt}
use Rattle.jc_plan.specs.declared.branch.Way.TheVariants.{Falls}
use Rattle.jc_plan.specs.Entries.{is_multi_target, is_invocation_line, is_line_that_calls}
use Rattle.jc_plan.specs.Probed.{is_probed_way}
use Rattle.jc_plan.proofs.PlacesLaws.{puts_place, mapped_at, length_mapped}
use Rattle.jc_plan.proofs.NumberingLaws.{fallen_next}
use Rattle.jc_plan.proofs.PlanningLaws.{lead_marked}
use Rattle.jc_plan.proofs.planning.probed_leads.Goals as goal

pub bounds-multi_targets-at : goal.bounds-multi_targets-at
bounds-multi_targets-at c =
    omega (arith, ap length c.requires.marks, length_mapped (is_multi_target c.args.body.now) 0 (length c.args.body.now.code), ap length c.deref-insn-items.ensures)

pub index-requires : goal.index-requires
index-requires c =
    omega (
      arith,
      c.in_ok-calling.calling.ok.0,
      ap length c.in_ok-calling.ensures,
      ap length c.deref.ensures,
      ap length c.deref-insn-items.ensures,
      length_mapped (is_line_that_calls c.deref-2.result.now c.deref.result.now) 0 (length c.deref.result.now),
    )

pub marking-preserved : goal.marking-preserved
marking-preserved c =
    let b = c.args.body.now in
    let at = c.marking.at in
    let lt : at < length b.code = omega (arith, ap length c.deref-insn-items.ensures) in
    let is = c.insn-item.is ∙ ap (λ (l : List Insn). get_or l at c.insn-item.result) c.deref-insn-items.ensures in
    let all : c.in_ok-calling.calling.items ≡ map (is_invocation_line b) (places b.code) =
    c.in_ok-calling.ensures ∙ ap₂ (λ (code : List Insn) (lines : List LineAt). map (is_line_that_calls lines code) (places code)) c.deref.ensures c.deref-2.ensures in
    let calls = c.index.ensures ∙ ap (λ (l : List Bool). get_or l at c.index.result.now) all ∙ mapped_at (is_invocation_line b) (length b.code) at c.index.result.now lt in
    let test = lead_marked b c.args.multi_targets.now at _ c.marking.fallen_into c.index.result.now c.is_probed_lead.result lt c.requires.marks c.marking.invariant.fallen calls
    c.is_probed_lead.ensures in
    record {
      marked = puts_place (λ i. is_probed_way b (Falls i)) at c.marking.marks.items c.push.new.self.items c.marking.invariant.marked
          (c.in_ok-push.ensures.items ∙ ap (λ (t : Bool). c.marking.marks.items ++ t ∷ []) test);
      fallen = c.falls-fallen_into.ensures ∙ sym (fallen_next b.code at c.insn-item.result lt is);
    }

pub returns : goal.returns
returns c =
    let e : c.marking.at ≡ length c.args.body.now.code = omega (arith, ap length c.deref-insn-items.ensures) in
    c.marking.invariant.marked ∙ ap (λ (n : ℕ). map (λ i. is_probed_way c.args.body.now (Falls i)) (numbers_from 0 n)) e
