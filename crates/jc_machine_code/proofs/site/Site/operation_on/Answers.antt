use Rattle.std.proofs.Common.{◌≡◌, Some, subst}
use Rattle.jc_methods.specs.declared.body.What.{What}
use Rattle.jc_methods.specs.declared.body.What.TheVariants as whats
use Rattle.jc_machine_model.specs.Profile.{member_operation}
use Rattle.jc_machine_code.specs.Shown.{Shows}
use Rattle.jc_machine_code.proofs.site.Site.operation_on.Goals as goal

pub returns-in-Method : goal.returns-in-Method
returns-in-Method c = λ program at site place.
    let e : whats.Method c.as_slice-in-Method.result.now c.as_slice-in-Method-2.result.now c.as_slice-in-Method-3.result.now ≡ c.args.what.now = cc in
    subst (λ (w : What). Shows c.call_named.result (member_operation c.args.op at program (Some w))) e (c.call_named.ensures program at site place)
