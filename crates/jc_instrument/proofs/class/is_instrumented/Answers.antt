use Rattle.std.proofs.Common.{List, inl, inr, subst}
use Rattle.jc_class.specs.declared.class_file.Member.{Member}
use Rattle.jc_instrument.specs.Reasons.{SomeAdded}
use Rattle.jc_instrument.proofs.class.is_instrumented.Goals as goal

pub returns-then-some_added-2 : goal.returns-then-some_added-2
returns-then-some_added-2 c = (
  λ t. inr (inl (subst (λ (members : List Member). SomeAdded c.args.class.now.pool members) c.deref-else-some_added.ensures (c.some_added-else-some_added.ensures.0 t))),
  λ h. c.if-some_added-2.true,
)
