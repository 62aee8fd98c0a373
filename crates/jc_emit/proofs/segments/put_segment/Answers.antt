use Rattle.std.proofs.Common.{◌≡◌, ℕ, ◌++◌, Option, None, List, length, get_or, sym, ap, ap₂, ◌∙◌, subst, arith}
use Rattle.jc_methods.specs.Flow.{flow_of}
use Rattle.jc_methods.specs.declared.insn.Flow.{Flow}
use Rattle.jc_methods.proofs.PlacedInsnLaws.{few_insns}
use Rattle.jc_plan.specs.Plan.{lead_probe}
use Rattle.jc_emit.specs.Branching.{IsPushed, early_in}
use Rattle.jc_emit.specs.Items.{lead_part, early_part, image_part}
use Rattle.jc_emit.specs.Sizes.{narrow, insn_at, early_probe}
use Rattle.jc_emit.specs.Writing.{Grows}
use Rattle.jc_emit.specs.Written.{integer_in}
use Rattle.jc_emit.proofs.PlanReadsLaws.{length_leads, length_outs, lead_here, outs_seen}
use Rattle.jc_emit.proofs.PlacingLaws.{insn_seen, early_read}
use Rattle.jc_emit.proofs.SegmentLaws.{lead_pushed, outs_pushed, early_pushed}
use Rattle.jc_emit.proofs.WritingLaws.{grows_append, grows_alike}
use Rattle.jc_emit.proofs.segments.put_segment.Goals as goal

pub bounds-deref-at : goal.bounds-deref-at
bounds-deref-at c =
    let plan = c.requires.given.planned in
    omega (arith, c.requires.at, ap length c.deref.ensures, length_leads c.args.source.body.now plan.0 c.args.source.plan.now plan.1)

pub overflow_cast-at : goal.overflow_cast-at
overflow_cast-at c = omega (arith, c.requires.at, few_insns c.args.source.body.now.code, c.requires.given.made.code.few)

pub put_front-requires : goal.put_front-requires
put_front-requires c =
    let plan = c.requires.given.planned in
    let b = c.args.source.body.now in
    let at = c.args.at in
    let pushed = lead_pushed b plan.0 c.args.source.plan.now plan.1 c.requires.given.made.code (length c.args.source.constants.now) c.requires.given.enough at c.requires.at in
    let read = ap (λ (l : List (Option ℕ)). get_or l at None) c.deref.ensures ∙ lead_here b plan.0 c.args.source.plan.now plan.1 at None c.requires.at in
    record {
      pushed =
          subst (λ (l : List ℕ). IsPushed (length l) (get_or c.deref.result.now at None)) (sym c.probes.ensures.constants)
          (subst (IsPushed (length c.args.source.constants.now)) (sym read) pushed);
    }

pub bounds-deref-at-3 : goal.bounds-deref-at-3
bounds-deref-at-3 c =
    let plan = c.requires.given.planned in
    omega (arith, c.requires.at, ap length c.deref-3.ensures, length_outs c.args.source.body.now plan.0 c.args.source.plan.now plan.1)

pub overflow_cast-at-2 : goal.overflow_cast-at-2
overflow_cast-at-2 c = omega (arith, c.requires.at, few_insns c.args.source.body.now.code, c.requires.given.made.code.few)

pub put_front-requires-2 : goal.put_front-requires-2
put_front-requires-2 c =
    let plan = c.requires.given.planned in
    let b = c.args.source.body.now in
    let at = c.args.at in
    let ids = outs_seen b plan.0 c.args.source.plan.now plan.1 _ at c.index-deref-at-2.result c.as_slice.result.now c.requires.at c.deref-3.ensures c.index-deref-at-2.is c.as_slice.ensures in
    let n = length c.args.source.constants.now in
    let pushed = early_pushed n c.flow.result c.as_slice.result.now
    (λ k.
    subst (λ (l : List (Option ℕ)). IsPushed n (get_or l k None)) (sym ids)
    (outs_pushed b plan.0 c.args.source.plan.now plan.1 c.requires.given.made.code n c.requires.given.enough at k c.requires.at)) in
    record {
      pushed =
          subst (λ (l : List ℕ). IsPushed (length l) c.early_id-early.result) (sym c.probes-2.ensures.constants)
          (subst (IsPushed n) (sym c.early_id-early.ensures) pushed);
    }

pub returns-clause-code : goal.returns-clause-code
returns-clause-code c = λ first plan.
    let b = c.args.source.body.now in
    let at = c.args.at in
    let fetch = c.args.source.fetch in
    let integer = integer_in c.args.source.constants.now in
    let v = b.arg_slots in
    let old = c.args.written.now in
    let led = c.put_front.new.self in
    let front = c.put_front-2.new.self in
    let new = c.put_main.new.written in
    let ids = outs_seen b first c.args.source.plan.now plan _ at c.index-deref-at-2.result c.as_slice.result.now c.requires.at c.deref-3.ensures c.index-deref-at-2.is c.as_slice.ensures in
    let insn = insn_seen b.code _ at c.index-deref-at.result c.requires.at c.deref-2.ensures c.index-deref-at.is in
    let lead : get_or c.deref.result.now at None ≡ lead_probe b first at =
    ap (λ (l : List (Option ℕ)). get_or l at None) c.deref.ensures ∙ lead_here b first c.args.source.plan.now plan at None c.requires.at in
    let early : c.early_id-early.result ≡ early_probe b first at =
    c.early_id-early.ensures
    ∙ ap₂ (λ (f : Flow) (o : List (Option ℕ)). early_in f o) (c.flow.ensures ∙ ap flow_of insn) ids
    ∙ early_read b first at in
    let leads = lead_part (lead_probe b first at) at in
    let earlies = early_part (early_probe b first at) at in
    let rest = image_part b first (narrow fetch) at (insn_at b.code at) (flow_of (insn_at b.code at)) in
    grows_append integer v old led new leads (earlies ++ rest)
    (subst (λ (o : Option ℕ). Grows integer v old led (lead_part o at)) lead
    (grows_alike c.args.source.constants.now c.probes.result.constants.now v c.probes.result.slot old led _ c.probes.ensures.constants c.probes.ensures.slot
    c.in_ok-put_front.ensures.lead))
    (grows_append integer v led front new earlies rest
    (subst (λ (o : Option ℕ). Grows integer v led front (early_part o at)) early
    (grows_alike c.args.source.constants.now c.probes-2.result.constants.now v c.probes-2.result.slot led front _ c.probes-2.ensures.constants c.probes-2.ensures.slot
    c.in_ok-put_front-2.ensures.early))
    (c.in_ok-put_main.ensures.code first plan))
