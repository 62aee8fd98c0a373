use Rattle.std.proofs.Common.{rules, ◌≡◌, ◌<◌, ◌≤◌, ℕ, Option, None, List, length, get_or, ap, ap₂, ◌∙◌, arith}
use Rattle.jc_methods.specs.Flow.{flow_of}
use Rattle.jc_methods.specs.declared.insn.Flow.{Flow}
use Rattle.jc_methods.proofs.PlacedInsnLaws.{few_insns}
use Rattle.jc_plan.specs.Plan.{lead_probe}
use Rattle.jc_emit.specs.Branching.{early_in, behind_in}
use Rattle.jc_emit.specs.Sizes.{narrow, insn_at, probe_size, early_probe, behind_size}
use Rattle.jc_emit.proofs.PlanReadsLaws.{length_leads, length_outs, lead_here, outs_seen}
use Rattle.jc_emit.proofs.PlacingLaws.{insn_seen, early_read, behind_read, few_outs, lead_small, placed_more, placed_all, small_places}
use Rattle.jc_emit.proofs.places.Places.of.Goals as goal

pub overflow_add-len : goal.overflow_add-len
overflow_add-len c =
    let few : length c.args.body.now.code ≤ 1000000 = omega (arith, few_insns c.args.body.now.code, c.requires.made.code.few) in
    search rules

pub bounds-deref-at : goal.bounds-deref-at
bounds-deref-at c =
    let plan = c.requires.plan in
    omega (arith, ap length c.deref-insn-items.ensures, ap length c.deref.ensures, length_outs c.args.body.now plan.0 c.args.plan.now plan.1)

pub bounds-deref-at-in-placing : goal.bounds-deref-at-in-placing
bounds-deref-at-in-placing c =
    let plan = c.requires.plan in
    omega (arith, ap length c.deref-insn-items.ensures, ap length c.deref-in-placing.ensures, length_leads c.args.body.now plan.0 c.args.plan.now plan.1)

pub overflow_add-land : goal.overflow_add-land
overflow_add-land c =
    let plan = c.requires.plan in
    let so_far = c.placing.invariant plan.0 plan.1 in
    let le : c.placing.at ≤ length c.args.body.now.code = omega (arith, ap length c.deref-insn-items.ensures) in
    omega (arith, so_far.here_is, lead_small c.args.body.now plan.0 c.args.fetch c.requires.made.code c.placing.at le, c.probe_size.ensures.small)

pub overflow_add-image : goal.overflow_add-image
overflow_add-image c =
    let plan = c.requires.plan in
    let so_far = c.placing.invariant plan.0 plan.1 in
    let le : c.placing.at ≤ length c.args.body.now.code = omega (arith, ap length c.deref-insn-items.ensures) in
    omega (
      arith,
      so_far.here_is,
      lead_small c.args.body.now plan.0 c.args.fetch c.requires.made.code c.placing.at le,
      c.probe_size.ensures.small,
      c.probe_size-in-placing.ensures.small,
    )

pub overflow_add-here : goal.overflow_add-here
overflow_add-here c =
    let plan = c.requires.plan in
    let so_far = c.placing.invariant plan.0 plan.1 in
    let le : c.placing.at ≤ length c.args.body.now.code = omega (arith, ap length c.deref-insn-items.ensures) in
    omega (
      arith,
      so_far.here_is,
      lead_small c.args.body.now plan.0 c.args.fetch c.requires.made.code c.placing.at le,
      c.probe_size.ensures.small,
      c.probe_size-in-placing.ensures.small,
    )

pub behind_size-requires : goal.behind_size-requires
behind_size-requires c =
    let b = c.args.body.now in
    let plan = c.requires.plan in
    let at = c.placing.at in
    let lt : at < length b.code = omega (arith, ap length c.deref-insn-items.ensures) in
    let ids = outs_seen b plan.0 c.args.plan.now plan.1 _ at c.index-deref-at.result c.as_slice-ids.result.now lt c.deref.ensures c.index-deref-at.is c.as_slice-ids.ensures in
    omega (arith, ap length ids, few_outs b plan.0 c.requires.made.code at lt)

pub overflow_add-here-in-placing : goal.overflow_add-here-in-placing
overflow_add-here-in-placing c =
    let b = c.args.body.now in
    let plan = c.requires.plan in
    let at = c.placing.at in
    let so_far = c.placing.invariant plan.0 plan.1 in
    let lt : at < length b.code = omega (arith, ap length c.deref-insn-items.ensures) in
    let ids = outs_seen b plan.0 c.args.plan.now plan.1 _ at c.index-deref-at.result c.as_slice-ids.result.now lt c.deref.ensures c.index-deref-at.is c.as_slice-ids.ensures in
    omega (
      arith,
      so_far.here_is,
      lead_small b plan.0 c.args.fetch c.requires.made.code at (omega (arith, lt)),
      c.probe_size.ensures.small,
      c.probe_size-in-placing.ensures.small,
      c.behind_size.ensures.small,
      ap length ids,
      few_outs b plan.0 c.requires.made.code at lt,
    )

pub placing-preserved : goal.placing-preserved
placing-preserved c = λ first plan.
    let b = c.args.body.now in
    let at = c.placing.at in
    let lt : at < length b.code = omega (arith, ap length c.deref-insn-items.ensures) in
    let ids = outs_seen b first c.args.plan.now plan _ at c.index-deref-at.result c.as_slice-ids.result.now lt c.deref.ensures c.index-deref-at.is c.as_slice-ids.ensures in
    let insn = insn_seen b.code _ at c.insn-item.result lt c.deref-insn-items.ensures c.insn-item.is in
    let flow : c.flow-flow.result ≡ flow_of (insn_at b.code at) = c.flow-flow.ensures ∙ ap flow_of insn in
    let lead : get_or c.deref-in-placing.result.now at None ≡ lead_probe b first at =
    ap (λ (l : List (Option ℕ)). get_or l at None) c.deref-in-placing.ensures ∙ lead_here b first c.args.plan.now plan at None lt in
    let early : c.early_id.result ≡ early_probe b first at =
    c.early_id.ensures ∙ ap₂ (λ (f : Flow) (o : List (Option ℕ)). early_in f o) flow ids ∙ early_read b first at in
    let behind : c.behind_size.result ≡ behind_size b first (narrow c.args.fetch) at =
    c.behind_size.ensures.value ∙ ap₂ (λ (f : Flow) (o : List (Option ℕ)). behind_in f o) flow ids ∙ behind_read b first at c.args.fetch in
    placed_more b first c.args.fetch at c.placing.here c.probe_size.result c.probe_size-in-placing.result c.behind_size.result
    c.placing.places.leads.items c.placing.places.lands.items c.placing.places.images.items c.put.new.self.leads.items c.put.new.self.lands.items c.put.new.self.images.items
    (c.placing.invariant first plan) (c.probe_size.ensures.value ∙ ap probe_size lead) (c.probe_size-in-placing.ensures.value ∙ ap probe_size early) behind
    c.in_ok-put.ensures.leads c.in_ok-put.ensures.lands c.in_ok-put.ensures.images

pub returns-clause-places : goal.returns-clause-places
returns-clause-places c = λ first plan.
    let all : c.placing.at ≡ length c.args.body.now.code = omega (arith, ap length c.deref-insn-items.ensures) in
    placed_all c.args.body.now first c.args.fetch c.requires.made.code c.put-2.new.self c.placing.at c.placing.here
    c.placing.places.leads.items c.placing.places.lands.items c.placing.places.images.items all (c.placing.invariant first plan)
    c.in_ok-put-2.ensures.leads c.in_ok-put-2.ensures.lands c.in_ok-put-2.ensures.images

pub returns-clause-small : goal.returns-clause-small
returns-clause-small c =
    let plan = c.requires.plan in
    let all : c.placing.at ≡ length c.args.body.now.code = omega (arith, ap length c.deref-insn-items.ensures) in
    small_places c.args.body.now plan.0 c.args.fetch c.requires.made.code c.put-2.new.self
    (placed_all c.args.body.now plan.0 c.args.fetch c.requires.made.code c.put-2.new.self c.placing.at c.placing.here
    c.placing.places.leads.items c.placing.places.lands.items c.placing.places.images.items all (c.placing.invariant plan.0 plan.1)
    c.in_ok-put-2.ensures.leads c.in_ok-put-2.ensures.lands c.in_ok-put-2.ensures.images)
