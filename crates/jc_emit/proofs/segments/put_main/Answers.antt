use Rattle.std.proofs.Common.{◌≡◌, ⊎_elim, ℕ, [], ◌∷◌, Option, None, List, length, get_or, sym, ap, ap₂, ◌∙◌, subst, arith}
use Rattle.std.specs.Prelude.{slice_index}
use Rattle.jc_methods.specs.Flow.{flow_of}
use Rattle.jc_methods.specs.Insn.{with_places}
use Rattle.jc_methods.specs.declared.insn.Insn.{Insn}
use Rattle.jc_methods.specs.declared.insn.Flow.TheVariants as flows
use Rattle.jc_methods.proofs.PlacedInsnLaws.{few_insns}
use Rattle.jc_plan.specs.Plan.{out_probes}
use Rattle.jc_kinds_after.specs.Shift.{with_slot}
use Rattle.jc_emit.specs.Branching.{IsPushed, IsTableOf, late_in}
use Rattle.jc_emit.specs.Items.{image, land_of, tests_part}
use Rattle.jc_emit.specs.Sizes.{narrow, insn_at, early_probe, late_probe}
use Rattle.jc_emit.specs.Writing.{Grows}
use Rattle.jc_emit.specs.Written.{integer_in}
use Rattle.jc_emit.proofs.PlanReadsLaws.{length_outs, outs_seen}
use Rattle.jc_emit.proofs.PlacingLaws.{insn_seen, late_read}
use Rattle.jc_emit.proofs.SegmentLaws.{table_is, led_agrees, leads_at, outs_pushed, main_by}
use Rattle.jc_emit.proofs.WritingLaws.{grows_alike}
use Rattle.jc_emit.proofs.segments.put_main.Goals as goal

pub overflow_cast-at : goal.overflow_cast-at
overflow_cast-at c = omega (arith, c.requires.at, few_insns c.args.source.body.now.code, c.requires.given.made.code.few)

pub bounds-deref-at-in-Branches : goal.bounds-deref-at-in-Branches
bounds-deref-at-in-Branches c =
    let plan = c.requires.given.planned in
    omega (arith, c.requires.at, ap length c.deref-in-Branches.ensures, length_outs c.args.source.body.now plan.0 c.args.source.plan.now plan.1)

pub overflow_cast-at-in-Branches : goal.overflow_cast-at-in-Branches
overflow_cast-at-in-Branches c = omega (arith, c.requires.at, few_insns c.args.source.body.now.code, c.requires.given.made.code.few)

pub put_test-requires-clause-pushed : goal.put_test-requires-clause-pushed
put_test-requires-clause-pushed c =
    let plan = c.requires.given.planned in
    let b = c.args.source.body.now in
    let at = c.args.at in
    let ids = outs_seen b plan.0 c.args.source.plan.now plan.1 _ at c.index-deref-at-in-Branches.result c.as_slice.result.now c.requires.at
    c.deref-in-Branches.ensures c.index-deref-at-in-Branches.is c.as_slice.ensures in
    subst (λ (l : List ℕ). IsPushed (length l) c.late_id-late.result) (sym c.probes.ensures.constants)
    (subst (IsPushed (length c.args.source.constants.now)) (sym (c.late_id-late.ensures ∙ ap (λ (l : List (Option ℕ)). get_or l 1 None) ids))
    (outs_pushed b plan.0 c.args.source.plan.now plan.1 c.requires.given.made.code (length c.args.source.constants.now) c.requires.given.enough at 1 c.requires.at))

pub overflow_cast-at-in-Jumps : goal.overflow_cast-at-in-Jumps
overflow_cast-at-in-Jumps c = omega (arith, c.requires.at, few_insns c.args.source.body.now.code, c.requires.given.made.code.few)

pub overflow_cast-at-in-Returns : goal.overflow_cast-at-in-Returns
overflow_cast-at-in-Returns c = omega (arith, c.requires.at, few_insns c.args.source.body.now.code, c.requires.given.made.code.few)

pub returns-in_ok-put_image-in-GoesOn-clause-code : goal.returns-in_ok-put_image-in-GoesOn-clause-code
returns-in_ok-put_image-in-GoesOn-clause-code c = λ first plan.
    let b = c.args.source.body.now in
    let at = c.args.at in
    let fetch = c.args.source.fetch in
    let integer = integer_in c.args.source.constants.now in
    let v = b.arg_slots in
    let old = c.args.written.now in
    let new = c.put_image.new.self in
    let insn = insn_seen b.code _ at c.index-deref-at.result c.requires.at c.deref.ensures c.index-deref-at.is in
    let flow : flow_of (insn_at b.code at) ≡ flows.GoesOn = ap flow_of (sym insn) ∙ sym c.flow.ensures ∙ c.in-GoesOn.is in
    let moved = c.in_ok-moved-in-GoesOn.ensures ∙ ap (with_slot v) insn in
    main_by integer v b first fetch at old new flows.GoesOn flow
    (subst (λ (i : Insn). Grows integer v old new (image i at None ∷ [])) moved (c.in_ok-put_image-in-GoesOn.ensures integer v None))

pub returns-in_ok-put_test-in-Branches-clause-code : goal.returns-in_ok-put_test-in-Branches-clause-code
returns-in_ok-put_test-in-Branches-clause-code c = λ first plan.
    let b = c.args.source.body.now in
    let at = c.args.at in
    let fetch = c.args.source.fetch in
    let integer = integer_in c.args.source.constants.now in
    let v = b.arg_slots in
    let old = c.args.written.now in
    let new = c.put_test.new.written in
    let insn = insn_seen b.code _ at c.index-deref-at.result c.requires.at c.deref.ensures c.index-deref-at.is in
    let flow : flow_of (insn_at b.code at) ≡ flows.Branches = ap flow_of (sym insn) ∙ sym c.flow.ensures ∙ c.in-Branches.is in
    let outs = out_probes b first at (insn_at b.code at) in
    let ids = outs_seen b first c.args.source.plan.now plan _ at c.index-deref-at-in-Branches.result c.as_slice.result.now c.requires.at
    c.deref-in-Branches.ensures c.index-deref-at-in-Branches.is c.as_slice.ensures in
    let late : c.late_id-late.result ≡ late_probe b first at =
    c.late_id-late.ensures ∙ ap (λ (l : List (Option ℕ)). get_or l 1 None) ids ∙ ap (λ f. late_in f outs) (sym flow) ∙ late_read b first at in
    main_by integer v b first fetch at old new flows.Branches flow
    (subst (Grows integer v old new) (ap₂ (λ (i : Insn) (o : Option ℕ). tests_part b first (narrow fetch) at i o) insn late)
    (grows_alike c.args.source.constants.now c.probes.result.constants.now v c.probes.result.slot old new _ c.probes.ensures.constants c.probes.ensures.slot
    (c.in_ok-put_test-in-Branches.ensures b first fetch (c.requires.given.placed first plan))))

pub returns-in_ok-put_image-in-Jumps-clause-code : goal.returns-in_ok-put_image-in-Jumps-clause-code
returns-in_ok-put_image-in-Jumps-clause-code c = λ first plan.
    let b = c.args.source.body.now in
    let at = c.args.at in
    let fetch = c.args.source.fetch in
    let integer = integer_in c.args.source.constants.now in
    let v = b.arg_slots in
    let old = c.args.written.now in
    let new = c.put_image-in-Jumps.new.self in
    let lands = c.deref-in-Jumps.result.now in
    let land = land_of b first (narrow fetch) in
    let are = c.requires.given.placed first plan in
    let insn = insn_seen b.code _ at c.index-deref-at.result c.requires.at c.deref.ensures c.index-deref-at.is in
    let flow : flow_of (insn_at b.code at) ≡ flows.Jumps = ap flow_of (sym insn) ∙ sym c.flow.ensures ∙ c.in-Jumps.is in
    let tells : IsTableOf land lands =
    subst (IsTableOf land) (sym c.deref-in-Jumps.ensures.value) (table_is land (length b.code) c.args.source.places.now.lands.items are.lands) in
    let within = leads_at b at c.requires.at c.requires.given.made (length lands) (ap length c.deref-in-Jumps.ensures.value ∙ are.lands.size) in
    let led =
    c.in_ok-led-in-Jumps.ensures ∙ ap (with_places (slice_index lands)) insn ∙ led_agrees land lands (insn_at b.code at) tells within in
    main_by integer v b first fetch at old new flows.Jumps flow
    (subst (λ (i : Insn). Grows integer v old new (image i at (early_probe b first at) ∷ [])) led
    (c.in_ok-put_image-in-Jumps.ensures integer v (early_probe b first at)))

pub returns-in_ok-put_image-in-Returns-clause-code : goal.returns-in_ok-put_image-in-Returns-clause-code
returns-in_ok-put_image-in-Returns-clause-code c = λ first plan.
    let b = c.args.source.body.now in
    let at = c.args.at in
    let fetch = c.args.source.fetch in
    let integer = integer_in c.args.source.constants.now in
    let v = b.arg_slots in
    let old = c.args.written.now in
    let new = c.put_image-in-Returns.new.self in
    let insn = insn_seen b.code _ at c.index-deref-at.result c.requires.at c.deref.ensures c.index-deref-at.is in
    let grows : Grows integer v old new (image (insn_at b.code at) at (early_probe b first at) ∷ []) =
    subst (λ (i : Insn). Grows integer v old new (image i at (early_probe b first at) ∷ [])) (c.in_ok-try_clone-in-Returns.ensures ∙ insn)
    (c.in_ok-put_image-in-Returns.ensures integer v (early_probe b first at)) in
    ⊎_elim
    (λ (is : c.flow.result ≡ flows.Returns). main_by integer v b first fetch at old new flows.Returns (ap flow_of (sym insn) ∙ sym c.flow.ensures ∙ is) grows)
    (λ (is : c.flow.result ≡ flows.Throws). main_by integer v b first fetch at old new flows.Throws (ap flow_of (sym insn) ∙ sym c.flow.ensures ∙ is) grows)
    c.in-Returns.is
