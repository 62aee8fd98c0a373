use Rattle.std.proofs.Common.{◌+◌, List, sym, ap, ◌∙◌, subst}
use Rattle.jc_methods.specs.declared.body.Body.{Body}
use Rattle.jc_programs.specs.declared.program.Linked.{Linked}
use Rattle.jc_machine_code.specs.Prepared.{Correspond, IsPreparedMethod}
use Rattle.jc_machine_code.proofs.CorrespondLaws.{BuiltTo, built_more, built_all}
use Rattle.jc_machine_code.proofs.prepare.prepared_methods.Goals as goal

pub preparing-preserved : goal.preparing-preserved
preparing-preserved c = λ program linked index members.
    subst (BuiltTo (IsPreparedMethod program c.args.class linked) c.as_slice-bodies.result.now (c.preparing.body-index + 1)) (sym c.in_ok-push.ensures.ok)
    (built_more (IsPreparedMethod program c.args.class linked) c.as_slice-bodies.result.now c.preparing.body-index c.preparing.methods c.body-item.result c.in_ok-prepared_method.field-0
    c.preparing-test.true c.body-item.is (c.in_ok-prepared_method.ensures program linked c.preparing.body-index index members) (c.preparing.invariant program linked index members))

pub returns : goal.returns
returns c = λ program linked index members.
    subst (λ (bodies : List Body). Correspond (IsPreparedMethod program c.args.class linked) bodies c.preparing.methods) (c.as_slice-bodies.ensures ∙ ap (λ (l : Linked). l.bodies) members.linked)
    (built_all (IsPreparedMethod program c.args.class linked) c.as_slice-bodies.result.now c.preparing.body-index c.preparing.methods c.preparing-test.false c.preparing.auto.body-index-end
    (c.preparing.invariant program linked index members))
