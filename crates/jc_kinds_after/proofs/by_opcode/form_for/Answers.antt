use Rattle.std.proofs.Common.{◌+◌, sym, ◌∙◌, ap, map, drop}
use Rattle.std.specs.List.{flat_map}
use Rattle.jc_kinds_after.specs.declared.table.Shape.TheVariants as shapes
use Rattle.jc_methods.specs.VerificationTypes.{verification_type}
use Rattle.jc_kinds_after.specs.Step.{moved_by}
use Rattle.jc_kinds_after.specs.Shapes.{forms_of}
use Rattle.jc_kinds_after.proofs.MovesLaws.{forms_on, forms_end}
use Rattle.jc_kinds_after.proofs.by_opcode.form_for.Goals as goal

pub trying-init : goal.trying-init
trying-init c = λ names most. ap (λ fs. moved_by most fs (map (verification_type names) c.args.stack.now)) (sym c.shapes-shape-items.ensures)

pub returns-in-Some : goal.returns-in-Some
returns-in-Some c names most = c.trying.invariant names most
    ∙ ap (λ fs. moved_by most fs (map (verification_type names) c.args.stack.now)) (forms_on _ c.trying.shape-index shapes.No c.trying-test.true)
    ∙ c.in-Some.ensures names most (flat_map forms_of (drop (c.trying.shape-index + 1) c.shapes-shape-items.result.now))

pub trying-preserved : goal.trying-preserved
trying-preserved c names most = c.trying.invariant names most
    ∙ ap (λ fs. moved_by most fs (map (verification_type names) c.args.stack.now)) (forms_on _ c.trying.shape-index shapes.No c.trying-test.true)
    ∙ c.in-None.ensures names most (flat_map forms_of (drop (c.trying.shape-index + 1) c.shapes-shape-items.result.now))

pub returns : goal.returns
returns c names most = c.trying.invariant names most
    ∙ ap (λ fs. moved_by most fs (map (verification_type names) c.args.stack.now)) (forms_end _ c.trying.shape-index c.trying-test.false)
