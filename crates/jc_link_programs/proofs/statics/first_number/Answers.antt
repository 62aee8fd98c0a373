use Rattle.std.proofs.Common.{◌≡◌, Some, w64, to_z, of_z, rules, ◌∙◌, subst, sym}
use Rattle.jc_methods.specs.DescriptorTypes.{field_type_in}
use Rattle.jc_machine_model.specs.Programs.{IsFirstOf}
use Rattle.jc_methods.proofs.DescriptorTypesLaws.{field_again}
use Rattle.jc_link_programs.proofs.FirstNumberLaws.{first_is}
use Rattle.jc_link_programs.proofs.statics.first_number.Goals as goal

pub returns-in-Some-clause-number : goal.returns-in-Some-clause-number
returns-in-Some-clause-number c =
    let type = c.requires.0 in
    let is : field_type_in c.args.desc.now ≡ Some type = field_again c.args.desc.now type c.requires.1 in
    let r = c.number_at.result in
    let back : to_z w64 (of_z w64 r) ≡ r = search rules in
    back ∙ first_is c.args.pool.now c.args.desc.now c.args.attributes.now type c.in-Some.place r is (sym c.in-Some.ensures)
    (c.number_at.ensures.number type (c.field_type.ensures type c.requires.1))

pub returns-in-Some-clause-fits : goal.returns-in-Some-clause-fits
returns-in-Some-clause-fits c =
    let type = c.requires.0 in
    let is : field_type_in c.args.desc.now ≡ Some type = field_again c.args.desc.now type c.requires.1 in
    let r = c.number_at.result in
    let back : to_z w64 (of_z w64 r) ≡ r = search rules in
    subst (λ o. IsFirstOf o (to_z w64 (of_z w64 r))) (sym is)
    (subst (IsFirstOf (Some type)) (sym back) (c.number_at.ensures.fits type (c.field_type.ensures type c.requires.1)))
