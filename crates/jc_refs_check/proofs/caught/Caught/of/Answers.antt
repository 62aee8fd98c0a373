use Rattle.std.proofs.Common.{List, sym, subst}
use Rattle.std.specs.Prelude.{codes}
use Rattle.jc_methods.specs.declared.body.Use.{Use}
use Rattle.jc_methods.specs.VerificationTypes.{Names, Grows}
use Rattle.jc_refs_check.specs.Unguarded.{IsNumberOf, AreUsedClasses}
use Rattle.jc_methods.proofs.MetNamesLaws.{grows_both}
use Rattle.jc_refs_check.proofs.CaughtLaws.{named_grows, used_later}
use Rattle.jc_refs_check.proofs.caught.Caught.of.Goals as goal

pub learn-requires : goal.learn-requires
learn-requires c =
    let old = c.args.classes.now.names in let mid = c.classes_used.new.names in let new = c.number.new.self in
    let grown : Grows old new = grows_both old mid new c.classes_used.ensures.names (named_grows mid new (codes "java/lang/Throwable") c.in_ok-all.ensures.names) in
    record { read = old; more = grown.0; parts = grown.1; known = c.requires.known }

pub returns-clause-caught : goal.returns-clause-caught
returns-clause-caught c =
    let b = c.args.body.now in let mid = c.classes_used.new.names in let new = c.number.new.self in let used = c.in_ok-used.used in
    record {
      used = subst (λ (names : Names). AreUsedClasses names b.uses used) (sym c.in_ok-learn.ensures.names)
          (used_later mid new b.uses used (named_grows mid new (codes "java/lang/Throwable") c.in_ok-all.ensures.names)
          (subst (λ (uses : List Use). AreUsedClasses mid uses used) c.deref.ensures c.in_ok-used.ensures.used));
      all = subst (λ (names : Names). IsNumberOf names (codes "java/lang/Throwable") c.in_ok-all.all) (sym c.in_ok-learn.ensures.names)
          (record { is = c.in_ok-all.ensures.place });
    }

pub returns-clause-known : goal.returns-clause-known
returns-clause-known c = c.in_ok-learn.ensures.known

pub returns-clause-names : goal.returns-clause-names
returns-clause-names c =
    let old = c.args.classes.now.names in let mid = c.classes_used.new.names in let new = c.number.new.self in
    subst (Grows old) (sym c.in_ok-learn.ensures.names) (grows_both old mid new c.classes_used.ensures.names (named_grows mid new (codes "java/lang/Throwable") c.in_ok-all.ensures.names))
