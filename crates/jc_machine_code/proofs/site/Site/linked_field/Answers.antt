use Rattle.std.proofs.Common.{ℕ, Option, sym, subst}
use Rattle.jc_machine_model.specs.Profile.{declared_field, linked_field}
use Rattle.jc_machine_code.specs.Shown.{Shows}
use Rattle.jc_machine_code.proofs.site.Site.linked_field.Goals as goal

pub returns-in-Some : goal.returns-in-Some
returns-in-Some c = λ program at site.
    let name = c.args.named.name.now in
    let desc = c.args.named.desc.now in
    subst (λ (o : Option ℕ). Shows c.declared_field.result (linked_field c.args.op at program name desc o)) (sym c.in-Some.is)
    (subst (λ (o : Option ℕ). Shows c.declared_field.result (declared_field c.args.op at c.in-Some.class name desc o)) (c.static_in-field.ensures program at site)
    (c.declared_field.ensures program at site))
