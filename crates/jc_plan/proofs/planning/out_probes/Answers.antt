use Rattle.std.proofs.Common.{Bool, Option, ℕ, ◌∷◌, [], ◌++◌, ◌+◌, ap, ◌∙◌}
use Rattle.jc_plan.specs.Entries.{one_if}
use Rattle.jc_plan.specs.Probed.{id_if}
use Rattle.jc_plan.specs.InsnFacts.{has_probe}
use Rattle.jc_plan.proofs.PlanningLaws.{ids_more, taken_more}
use Rattle.jc_plan.proofs.planning.out_probes.Goals as goal

pub numbering-preserved : goal.numbering-preserved
numbering-preserved c =
    record {
      listed = ids_more (has_probe c.args.multi_targets.now) c.args.next.now c.args.branches.now c.numbering.branch-index _ c.numbering.probes c.push.new.self c.numbering.next
          c.numbering-test.true c.numbering.invariant.listed c.numbering.invariant.taken
          (c.in_ok-push.ensures.ok ∙ ap (λ (o : Option ℕ). c.numbering.probes ++ o ∷ []) (c.take_id.ensures.id ∙ ap (λ (t : Bool). id_if t c.numbering.next) c.has_probe.ensures));
      taken = taken_more (has_probe c.args.multi_targets.now) c.args.next.now c.args.branches.now c.numbering.branch-index _ c.numbering.next c.take_id.new.next
          c.numbering-test.true c.numbering.invariant.taken (c.take_id.ensures.next ∙ ap (λ (t : Bool). c.numbering.next + one_if t) c.has_probe.ensures);
    }
