use Rattle.std.proofs.Common.{◌≡◌, Option, Some, sym, ap, ◌∙◌}
use Rattle.jc_methods.specs.declared.body.What.{What}
use Rattle.jc_methods.specs.declared.body.What.TheVariants as whats
use Rattle.jc_programs.specs.declared.program.ProbeInit.{ProbeInit}
use Rattle.jc_machine_model.specs.Profile.{given_by, given_in}
use Rattle.jc_machine_code.proofs.given.given_in.Goals as goal

pub returns-in-Computed : goal.returns-in-Computed
returns-in-Computed c = λ at given.
    let e : whats.Computed c.as_slice.result.now c.as_slice-in-Computed.result.now c.in-Computed.bootstrap ≡ c.args.what.now = cc in
    c.given_by.ensures
    ∙ ap (λ (g : Option ProbeInit). given_by g c.as_slice.result.now c.as_slice-in-Computed.result.now c.in-Computed.bootstrap) (sym given)
    ∙ ap (λ (w : What). given_in at (Some w)) e
