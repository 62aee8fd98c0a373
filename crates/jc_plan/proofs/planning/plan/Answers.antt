use Rattle.std.proofs.Common.{◌≡◌, ◌<◌, ℕ, ◌+◌, Bool, Option, List, ◌∷◌, [], ◌++◌, length, get_or, map, ap, ap₂, ◌∙◌, arith}
use Rattle.std.specs.List.{count_by}
use Rattle.jc_bytes.specs.PlainLists.{places}
use Rattle.jc_methods.specs.declared.insn.Insn.{Insn}
use Rattle.jc_methods.proofs.PlacedInsnLaws.{few_insns}
use Rattle.jc_plan.specs.declared.branch.Way.TheVariants.{Falls}
use Rattle.jc_plan.specs.Edges.{branches_of}
use Rattle.jc_plan.specs.Entries.{one_if, is_multi_target}
use Rattle.jc_plan.specs.Probed.{is_probed_way, id_if}
use Rattle.jc_plan.specs.Plan.{lead_probe, out_probes}
use Rattle.jc_plan.specs.InsnFacts.{has_probe, ids_from}
use Rattle.jc_plan.proofs.PlacesLaws.{puts_place, maps_one, mapped_at, length_mapped}
use Rattle.jc_plan.proofs.CountingLaws.{one_most}
use Rattle.jc_plan.proofs.FlowLaws.{few_targets, few_at, few_of}
use Rattle.jc_plan.proofs.PlanningLaws.{few_probes, outs_here, next_here, planned, none_first}
use Rattle.jc_plan.proofs.planning.plan.Goals as goal

pub planning-init : goal.planning-init
planning-init c = record {
  taken = none_first c.args.body.now c.args.first;
  leads = c.from_vec-lead.ensures ∙ c.in_ok-with_capacity.ensures.items;
  outs = c.from_vec-out.ensures ∙ c.in_ok-with_capacity-2.ensures.items;
}

pub index-requires : goal.index-requires
index-requires c =
    omega (
      arith,
      c.in_ok-probed.probed.ok.0,
      ap length c.in_ok-probed.ensures,
      length_mapped (λ i. is_probed_way c.args.body.now (Falls i)) 0
          (length c.args.body.now.code),
      ap length c.deref-insn-items.ensures,
    )

pub take_id-requires : goal.take_id-requires
take_id-requires c =
    omega (arith, c.planning.invariant.taken, few_probes c.args.body.now c.requires.made.code (record { at = c.planning.at; number = 0 }), c.requires.first)

pub overflow_cast-at : goal.overflow_cast-at
overflow_cast-at c = omega (arith, few_insns c.args.body.now.code, c.requires.made.code.few, ap length c.deref-insn-items.ensures)

pub insn_probes-requires : goal.insn_probes-requires
insn_probes-requires c =
    let code = c.args.body.now.code in
    let at = c.planning.at in
    let insn = c.insn-item.result in
    let lt : at < length code = omega (arith, ap length c.deref-insn-items.ensures) in
    let is = c.insn-item.is ∙ ap (λ (l : List Insn). get_or l at insn) c.deref-insn-items.ensures in
    record {
      at = omega (arith, lt, few_insns code, c.requires.made.code.few);
      targets = omega (arith, few_targets insn, few_at code at insn lt is, c.requires.made.code.few);
      room = omega (
        arith,
        c.planning.invariant.taken,
        few_probes c.args.body.now c.requires.made.code (record { at = at; number = 0 }),
        one_most c.index.result.now,
        c.take_id.ensures.next,
        few_of at insn,
        few_at code at insn lt is,
        c.requires.made.code.few,
        c.requires.first,
      );
    }

pub planning-preserved : goal.planning-preserved
planning-preserved c =
    let b = c.args.body.now in
    let first = c.args.first in
    let at = c.planning.at in
    let insn = c.insn-item.result in
    let code = c.requires.made.code in
    let so_far = c.planning.invariant in
    let marks = c.deref-in-planning.result.now in
    let lt : at < length b.code = omega (arith, ap length c.deref-insn-items.ensures) in
    let is = c.insn-item.is ∙ ap (λ (l : List Insn). get_or l at insn) c.deref-insn-items.ensures in
    let multi : marks ≡ map (is_multi_target b) (places b.code) = c.deref-in-planning.ensures.value ∙ c.in_ok-multi_targets.ensures in
    let probed : c.index.result.now ≡ is_probed_way b (Falls at) =
    c.index.ensures ∙ ap (λ (l : List Bool). get_or l at c.index.result.now) c.in_ok-probed.ensures
    ∙ mapped_at (λ i. is_probed_way b (Falls i)) (length b.code) at c.index.result.now lt in
    let put : c.take_id.new.next ≡ c.planning.next + one_if (is_probed_way b (Falls at)) = c.take_id.ensures.next ∙ ap (λ (t : Bool). c.planning.next + one_if t) probed in
    let id : c.take_id.result ≡ lead_probe b first at = c.take_id.ensures.id ∙ ap₂ (λ (t : Bool) (n : ℕ). id_if t n) probed so_far.taken in
    let ids : c.in_ok-insn_probes.field-0 ≡ ids_from (has_probe marks) c.take_id.new.next (branches_of at insn) = c.in_ok-insn_probes.ensures.probes in
    let more : c.insn_probes.new.next ≡ c.take_id.new.next + count_by (λ x. has_probe marks x.way) (branches_of at insn) = c.in_ok-insn_probes.ensures.next in
    record {
      taken = next_here b code first at insn lt is marks multi c.planning.next c.take_id.new.next c.insn_probes.new.next so_far.taken put more;
      leads = puts_place (lead_probe b first) at c.planning.lead c.push.new.self so_far.leads (c.in_ok-push.ensures.ok ∙ ap (λ (o : Option ℕ). c.planning.lead ++ o ∷ []) id);
      outs = maps_one (out_probes b first) b.code at insn c.planning.out c.push-in-planning.new.self lt is so_far.outs
          (c.in_ok-push-2.ensures.ok ∙ ap (λ (o : List (Option ℕ)). c.planning.out ++ o ∷ [])
          (outs_here b code first at insn lt is marks multi c.planning.next c.take_id.new.next c.in_ok-insn_probes.field-0 so_far.taken put ids));
    }

pub returns : goal.returns
returns c =
    planned c.args.body.now c.args.first c.planning.at c.planning.next c.planning.lead c.planning.out c.requires.made.code (omega (arith, ap length c.deref-insn-items.ensures))
    (omega (arith, ap length c.deref-insn-items.ensures)) c.planning.invariant.taken c.planning.invariant.leads c.planning.invariant.outs
