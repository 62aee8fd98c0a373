use Rattle.std.proofs.Common.{◌∙◌, ℕ, ◌<◌, rules, ap, subst, arith}
use Rattle.jc_methods.specs.EntryState.{entry_seen}
use Rattle.jc_methods.specs.WellMade.{IsState}
use Rattle.jc_body.proofs.stack_map.entry_of.Goals as goal

pub returns-in-Ok-clause-entry : goal.returns-in-Ok-clause-entry
returns-in-Ok-clause-entry c =
    let method = c.args.method.now in
    let code = c.args.coded.now.insns in
    let max_stack = c.args.coded.now.items.max_stack in
    let same = c.max_locals-max_locals.ensures in
    let few : c.max_locals-max_locals.result < 65536 = search rules in
    let made = subst (λ (n : ℕ). IsState code n max_stack c.in-Ok.entry) same (c.in-Ok.ensures.well_made code max_stack) in
    record {
      begins = record {
        name = c.text_at-name.result.now;
        desc = c.text_at-desc.result.now;
        name_is = c.text_at-name.ensures.text;
        desc_is = c.text_at-desc.ensures.text;
        entry_is = c.in-Ok.ensures.state ∙ ap (λ (n : ℕ). entry_seen method.owner.now c.text_at-name.result.now c.text_at-desc.result.now method.member.now.flags n) same;
      };
      numbers = c.in-Ok.ensures.numbered;
      few = omega (arith, made.locals, same, few);
      well_made = made;
    }
