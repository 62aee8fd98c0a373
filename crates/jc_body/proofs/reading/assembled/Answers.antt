use Rattle.std.proofs.Common.{◌∙◌, ℕ, ◌<◌, List, Some, rules, refl, sym, ap, subst, arith}
use Rattle.jc_methods.specs.WellMade.{TakeSlots}
use Rattle.jc_body.proofs.ArgumentLaws.{arguments_fit}
use Rattle.jc_body.proofs.PartsLaws.{handlers_by, lines_by, vars_by, frames_by}
use Rattle.jc_body.proofs.reading.assembled.Goals as goal

pub overflow_cast-result : goal.overflow_cast-result
overflow_cast-result c =
    let method = c.args.method.now in
    let few = arguments_fit method.class.now.pool method.member.now c.args.coded c.text_at-desc.result.now c.slots_of_arguments.result
    c.text_at-desc.ensures.text c.slots_of_arguments.ensures.slots c.requires.arguments in
    let small : c.args.coded.items.max_locals < 65536 = search rules in
    omega (arith, few, small)

pub returns-clause-parts : goal.returns-clause-parts
returns-clause-parts c = λ names frames has.
    let method = c.args.method.now in
    let coded = c.args.coded in
    let offsets = c.args.offsets.now in
    let numbers = c.requires.offsets in
    let max_locals = coded.items.max_locals in
    let owner_is = sym c.in_ok-copy_of.ensures in
    record {
      number_is = refl;
      owner = method.named ∙ ap Some owner_is;
      name = c.text_at.ensures.text ∙ ap Some (sym c.in_ok-copy_of-2.ensures);
      desc = c.text_at-desc.ensures.text ∙ ap Some (sym c.in_ok-copy_of-3.ensures);
      flags = refl;
      arg_slots = subst (λ (d : List ℕ). TakeSlots method.member.now.flags d c.slots_of_arguments.result) (sym c.in_ok-copy_of-3.ensures) c.slots_of_arguments.ensures.slots;
      max_stack = refl;
      max_locals = refl;
      code = refl;
      handlers = handlers_by coded offsets numbers c.in_ok-handlers_of.field-0 c.deref.result.now coded.items.rows (search rules) c.in_ok-handlers_of.ensures;
      lines = lines_by coded offsets numbers c.in_ok-lines_of.field-0 c.deref-2.result.now c.args.tables.now.lines (search rules) c.in_ok-lines_of.ensures;
      vars = vars_by coded offsets numbers max_locals c.in_ok-vars_of.field-0 c.deref-3.result.now c.args.tables.now.vars (search rules) c.in_ok-vars_of.ensures;
      kind_vars = vars_by coded offsets numbers max_locals c.in_ok-vars_of-2.field-0 c.deref-4.result.now c.args.tables.now.kind_vars (search rules) c.in_ok-vars_of-2.ensures;
      frames = frames_by names method.class.now.pool method.member.now coded method.owner.now c.in_ok-copy_of.field-0 frames owner_is has.0;
      numbers = has.1;
      uses = search rules;
    }
