use Rattle.std.proofs.Common.{◌≡◌, Some, subst}
use Rattle.jc_methods.specs.declared.body.What.{What}
use Rattle.jc_methods.specs.declared.body.What.TheVariants as whats
use Rattle.jc_machine_model.specs.Profile.{class_operation}
use Rattle.jc_machine_code.specs.Shown.{Shows}
use Rattle.jc_machine_code.proofs.site.Site.class_on.Goals as goal

pub returns-in-Class : goal.returns-in-Class
returns-in-Class c = λ program at site place.
    let e : whats.Class c.as_slice.result.now ≡ c.args.what.now = cc in
    subst (λ (w : What). Shows c.class_named.result (class_operation c.args.op at (Some w))) e (c.class_named.ensures program at site place)
