use Rattle.std.proofs.Common.{◌≡◌, Option, Some, sym, ap, ◌∙◌, subst}
use Rattle.jc_methods.specs.declared.body.What.{What}
use Rattle.jc_methods.specs.declared.body.What.TheVariants as whats
use Rattle.jc_programs.specs.declared.program.ProbeInit.{ProbeInit}
use Rattle.jc_machine_model.specs.Profile.{given_by, computed_operation, constant_operation}
use Rattle.jc_machine_code.specs.Shown.{Shows}
use Rattle.jc_machine_code.proofs.constants.constant_operation.Goals as goal

pub returns-in-Computed : goal.returns-in-Computed
returns-in-Computed c = λ at class place init given.
    let e : whats.Computed c.as_slice.result.now c.as_slice-in-Computed.result.now c.in-Computed.bootstrap ≡ c.args.what.now = cc in
    let gives = c.given_by.ensures
    ∙ ap (λ (g : Option ProbeInit). given_by g c.as_slice.result.now c.as_slice-in-Computed.result.now c.in-Computed.bootstrap) (sym given) in
    subst (λ (w : What). Shows c.computed_operation.result (constant_operation at (Some w))) e
    (subst (λ (o : Option ProbeInit). Shows c.computed_operation.result (computed_operation at o)) gives (c.computed_operation.ensures at class place))
