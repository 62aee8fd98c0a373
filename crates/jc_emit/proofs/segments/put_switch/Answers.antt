use Rattle.std.proofs.Common.{◌≡◌, ◌<◌, ℕ, ◌+◌, [], ◌∷◌, Option, None, List, length, get_or, sym, ap, ◌∙◌, subst, arith}
use Rattle.std.specs.Prelude.{All, Contains, slice_index}
use Rattle.jc_bytes.specs.PlainLists.{pieces}
use Rattle.jc_bytes.specs.FirstSeen.{first_seen}
use Rattle.jc_methods.specs.Flow.{targets_of}
use Rattle.jc_methods.specs.Insn.{with_places}
use Rattle.jc_methods.specs.InsnUse.{LeadsWithin}
use Rattle.jc_methods.specs.declared.insn.Insn.{Insn}
use Rattle.jc_methods.proofs.PlacedInsnLaws.{few_insns}
use Rattle.jc_plan.specs.Probed.{probe_of}
use Rattle.jc_emit.specs.Branching.{IsPushed, IsTableOf, arm_place_in, arm_part_in}
use Rattle.jc_emit.specs.Items.{image, arm_parts, land_of, image_of}
use Rattle.jc_emit.specs.Sizes.{narrow, insn_at, arms_at}
use Rattle.jc_emit.specs.TwinCode.{arm_place}
use Rattle.jc_emit.specs.Writing.{Grows}
use Rattle.jc_emit.specs.Written.{integer_in}
use Rattle.jc_emit.proofs.PlanReadsLaws.{length_outs, outs_seen}
use Rattle.jc_emit.proofs.PlacingLaws.{insn_seen, place_seen, few_outs, image_small}
use Rattle.jc_emit.proofs.SegmentLaws.{table_is, leads_at, targets_at, outs_pushed, switch_ids, switch_image, switch_parts}
use Rattle.jc_emit.proofs.WritingLaws.{grows_append, grows_alike}
use Rattle.jc_emit.proofs.segments.put_switch.Goals as goal

pub bounds-deref-at-2 : goal.bounds-deref-at-2
bounds-deref-at-2 c =
    let plan = c.requires.given.planned in
    omega (arith, c.requires.at, ap length c.deref-2.ensures, length_outs c.args.source.body.now plan.0 c.args.source.plan.now plan.1)

pub overflow_add-index : goal.overflow_add-index
overflow_add-index c =
    let plan = c.requires.given.planned in
    let b = c.args.source.body.now in
    let at = c.args.at in
    let images = (c.requires.given.placed plan.0 plan.1).images in
    let here = place_seen (image_of b plan.0 (narrow c.args.source.fetch)) (length b.code) _ at c.index.result.now images c.requires.at c.index.ensures in
    omega (arith, here, image_small b plan.0 c.args.source.fetch c.requires.given.made.code at (omega (arith, c.requires.at)))

pub set_arms-requires-clause-within : goal.set_arms-requires-clause-within
set_arms-requires-clause-within c =
    let plan = c.requires.given.planned in
    let b = c.args.source.body.now in
    let at = c.args.at in
    let insn = insn_seen b.code _ at c.index-deref-at.result c.requires.at c.deref.ensures c.index-deref-at.is in
    let targets = c.deref-4.ensures ∙ c.in_ok-targets.ensures ∙ ap (λ (i : Insn). first_seen (targets_of i)) insn in
    let lands = (c.requires.given.placed plan.0 plan.1).lands in
    let size : length c.deref-3.result.now ≡ length b.code + 1 = ap length c.deref-3.ensures.value ∙ lands.size in
    subst (All (λ to. to < length c.deref-3.result.now)) (sym targets) (targets_at b at c.requires.at c.requires.given.made (length c.deref-3.result.now) size)

pub set_arms-requires-clause-ids : goal.set_arms-requires-clause-ids
set_arms-requires-clause-ids c =
    let plan = c.requires.given.planned in
    let b = c.args.source.body.now in
    let at = c.args.at in
    let insn = insn_seen b.code _ at c.index-deref-at.result c.requires.at c.deref.ensures c.index-deref-at.is in
    let targets = c.deref-4.ensures ∙ c.in_ok-targets.ensures ∙ ap (λ (i : Insn). first_seen (targets_of i)) insn in
    let ids = outs_seen b plan.0 c.args.source.plan.now plan.1 _ at c.index-deref-at-2.result c.as_slice-ids.result.now c.requires.at c.deref-2.ensures c.index-deref-at-2.is c.as_slice-ids.ensures in
    ap length ids ∙ switch_ids b plan.0 c.args.source.fetch at c.requires.switch ∙ ap length (sym targets)

pub set_arms-requires-clause-few : goal.set_arms-requires-clause-few
set_arms-requires-clause-few c =
    let plan = c.requires.given.planned in
    let b = c.args.source.body.now in
    let at = c.args.at in
    let ids = outs_seen b plan.0 c.args.source.plan.now plan.1 _ at c.index-deref-at-2.result c.as_slice-ids.result.now c.requires.at c.deref-2.ensures c.index-deref-at-2.is c.as_slice-ids.ensures in
    omega (arith, ap length ids, few_outs b plan.0 c.requires.given.made.code at c.requires.at)

pub set_arms-requires-clause-small : goal.set_arms-requires-clause-small
set_arms-requires-clause-small c =
    let plan = c.requires.given.planned in
    let b = c.args.source.body.now in
    let at = c.args.at in
    let images = (c.requires.given.placed plan.0 plan.1).images in
    let here = place_seen (image_of b plan.0 (narrow c.args.source.fetch)) (length b.code) _ at c.index.result.now images c.requires.at c.index.ensures in
    omega (arith, here, image_small b plan.0 c.args.source.fetch c.requires.given.made.code at (omega (arith, c.requires.at)))

pub led-requires : goal.led-requires
led-requires c =
    let b = c.args.source.body.now in
    let at = c.args.at in
    let insn = insn_seen b.code _ at c.index-deref-at.result c.requires.at c.deref.ensures c.index-deref-at.is in
    let size = c.set_arms.ensures.size ∙ c.requires.table in
    subst (LeadsWithin (length c.set_arms.new.table)) (sym insn) (leads_at b at c.requires.at c.requires.given.made (length c.set_arms.new.table) size)

pub overflow_cast-at : goal.overflow_cast-at
overflow_cast-at c = omega (arith, c.requires.at, few_insns c.args.source.body.now.code, c.requires.given.made.code.few)

pub put_arms-requires-clause-within : goal.put_arms-requires-clause-within
put_arms-requires-clause-within c =
    let plan = c.requires.given.planned in
    let b = c.args.source.body.now in
    let at = c.args.at in
    let insn = insn_seen b.code _ at c.index-deref-at.result c.requires.at c.deref.ensures c.index-deref-at.is in
    let targets = c.deref-6.ensures ∙ c.in_ok-targets.ensures ∙ ap (λ (i : Insn). first_seen (targets_of i)) insn in
    let lands = (c.requires.given.placed plan.0 plan.1).lands in
    let size : length c.deref-5.result.now ≡ length b.code + 1 = ap length c.deref-5.ensures.value ∙ lands.size in
    subst (All (λ to. to < length c.deref-5.result.now)) (sym targets) (targets_at b at c.requires.at c.requires.given.made (length c.deref-5.result.now) size)

pub put_arms-requires-clause-ids : goal.put_arms-requires-clause-ids
put_arms-requires-clause-ids c =
    let plan = c.requires.given.planned in
    let b = c.args.source.body.now in
    let at = c.args.at in
    let insn = insn_seen b.code _ at c.index-deref-at.result c.requires.at c.deref.ensures c.index-deref-at.is in
    let targets = c.deref-6.ensures ∙ c.in_ok-targets.ensures ∙ ap (λ (i : Insn). first_seen (targets_of i)) insn in
    let ids = outs_seen b plan.0 c.args.source.plan.now plan.1 _ at c.index-deref-at-2.result c.as_slice-ids.result.now c.requires.at c.deref-2.ensures c.index-deref-at-2.is c.as_slice-ids.ensures in
    ap length ids ∙ switch_ids b plan.0 c.args.source.fetch at c.requires.switch ∙ ap length (sym targets)

pub put_arms-requires-clause-pushed : goal.put_arms-requires-clause-pushed
put_arms-requires-clause-pushed c =
    let plan = c.requires.given.planned in
    let b = c.args.source.body.now in
    let at = c.args.at in
    let ids = outs_seen b plan.0 c.args.source.plan.now plan.1 _ at c.index-deref-at-2.result c.as_slice-ids.result.now c.requires.at c.deref-2.ensures c.index-deref-at-2.is c.as_slice-ids.ensures in
    λ number.
    subst (λ (l : List ℕ). IsPushed (length l) (get_or c.as_slice-ids.result.now number None)) (sym c.probes.ensures.constants)
    (subst (λ (l : List (Option ℕ)). IsPushed (length c.args.source.constants.now) (get_or l number None)) (sym ids)
    (outs_pushed b plan.0 c.args.source.plan.now plan.1 c.requires.given.made.code (length c.args.source.constants.now) c.requires.given.enough at number c.requires.at))

pub returns-clause-code : goal.returns-clause-code
returns-clause-code c = λ first plan.
    let b = c.args.source.body.now in
    let at = c.args.at in
    let fetch = c.args.source.fetch in
    let integer = integer_in c.args.source.constants.now in
    let v = b.arg_slots in
    let old = c.args.written.now in
    let mid = c.put_image.new.self in
    let new = c.put_arms.new.written in
    let table = c.set_arms.new.table in
    let lands = c.deref-3.result.now in
    let here = c.index.result.now + 1 in
    let land = land_of b first (narrow fetch) in
    let are = c.requires.given.placed first plan in
    let insn = insn_seen b.code _ at c.index-deref-at.result c.requires.at c.deref.ensures c.index-deref-at.is in
    let targets = c.deref-4.ensures ∙ c.in_ok-targets.ensures ∙ ap (λ (i : Insn). first_seen (targets_of i)) insn in
    let targets_again = c.deref-6.ensures ∙ c.in_ok-targets.ensures ∙ ap (λ (i : Insn). first_seen (targets_of i)) insn in
    let ids = outs_seen b first c.args.source.plan.now plan _ at c.index-deref-at-2.result c.as_slice-ids.result.now c.requires.at c.deref-2.ensures c.index-deref-at-2.is c.as_slice-ids.ensures in
    let tells : IsTableOf land lands =
    subst (IsTableOf land) (sym c.deref-3.ensures.value) (table_is land (length b.code) c.args.source.places.now.lands.items are.lands) in
    let tells_again : IsTableOf land c.deref-5.result.now =
    subst (IsTableOf land) (sym c.deref-5.ensures.value) (table_is land (length b.code) c.args.source.places.now.lands.items are.lands) in
    let within = leads_at b at c.requires.at c.requires.given.made (length lands) (ap length c.deref-3.ensures.value ∙ are.lands.size) in
    let place : here ≡ image_of b first (narrow fetch) at + 1 =
    ap (λ k. k + 1) (place_seen (image_of b first (narrow fetch)) (length b.code) _ at c.index.result.now are.images c.requires.at c.index.ensures) in
    let each : (to : ℕ) → Contains (first_seen (targets_of (insn_at b.code at))) to
    → get_or table to 0 ≡ arm_place_in (slice_index lands) here (first_seen (targets_of (insn_at b.code at))) c.as_slice-ids.result.now to =
    subst (λ (ts : List ℕ). (to : ℕ) → Contains ts to → get_or table to 0 ≡ arm_place_in (slice_index lands) here ts c.as_slice-ids.result.now to) targets
    c.set_arms.ensures.each in
    let led =
    c.in_ok-led.ensures
    ∙ ap (with_places (slice_index table)) insn
    ∙ switch_image b first fetch at c.requires.switch lands table c.as_slice-ids.result.now here tells within ids place each in
    let moved = with_places (arm_place (probe_of b first) land (image_of b first (narrow fetch) at + 1) (arms_at b.code at)) (insn_at b.code at) in
    let front : Grows integer v old mid (image moved at None ∷ []) =
    subst (λ (i : Insn). Grows integer v old mid (image i at None ∷ [])) led (c.in_ok-put_image.ensures integer v None) in
    let behind : Grows integer v mid new (arm_parts land (probe_of b first) (arms_at b.code at)) =
    grows_alike c.args.source.constants.now c.probes.result.constants.now v c.probes.result.slot mid new (arm_parts land (probe_of b first) (arms_at b.code at))
    c.probes.ensures.constants c.probes.ensures.slot
    (subst (Grows (integer_in c.probes.result.constants.now) c.probes.result.slot mid new)
    (ap (λ (ts : List ℕ). pieces (arm_part_in land ts c.as_slice-ids.result.now) (length ts)) targets_again
    ∙ switch_parts b first fetch at c.requires.switch c.as_slice-ids.result.now ids)
    (c.in_ok-put_arms.ensures land tells_again)) in
    grows_append integer v old mid new (image moved at None ∷ []) (arm_parts land (probe_of b first) (arms_at b.code at)) front behind
