use Rattle.std.proofs.Common.{List, ℕ, ap, subst, ◌∙◌}
use Rattle.jc_methods.specs.DescriptorTypes.{method_type_in}
use Rattle.jc_methods.specs.VerificationTypes.{object}
use Rattle.jc_kinds_after.specs.After.{return_op}
use Rattle.jc_kinds_after.specs.Does.{AllSay}
use Rattle.jc_kinds_after.proofs.UsesLaws.{all_say_later}
use Rattle.jc_kinds_after.proofs.effects.Effects.of.Goals as goal

pub returns-clause-effects : goal.returns-clause-effects
returns-clause-effects c = record {
  body = c.requires;
  uses = all_say_later _ _ _ _ c.object_of.ensures.names
      (subst (λ us. AllSay c.all_effects.new.names us c.in_ok-uses.uses) c.deref.ensures c.in_ok-uses.ensures.effects);
  elements = c.new.ensures c.object_of.new.names;
  owner = λ more. c.in_ok-owner.ensures.kind more ∙ ap object c.deref-2.ensures;
  returns = c.in_ok-returns.ensures ∙ ap (λ (desc : List ℕ). return_op (method_type_in desc).returns) c.deref-3.ensures;
}
