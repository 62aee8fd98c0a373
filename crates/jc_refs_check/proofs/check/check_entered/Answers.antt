use Rattle.std.proofs.Common.{◌≡◌, true, sym, ◌∙◌}
use Rattle.std.proofs.lemmas.Bool.{true≢false}
use Rattle.std.proofs.lemmas.Result.{IfOk-weaker, IfErr-weaker}
use Rattle.jc_bytes.specs.Failing.{Said}
use Rattle.jc_machine_model.specs.Methods.{is_enterable}
use Rattle.jc_refs_check.specs.MethodAnswers.{IsMethodOk, IsMethodRefusal, IsEnteredRefusal}
use Rattle.jc_refs_check.proofs.CheckingLaws.{said_more}
use Rattle.jc_refs_check.proofs.check.check_entered.Goals as goal

pub returns-then-not-is_enterable-clause-passes : goal.returns-then-not-is_enterable-clause-passes
returns-then-not-is_enterable-clause-passes c = λ enterable.
    absurd (true≢false (sym enterable ∙ sym (c.is_enterable.ensures c.requires.most) ∙ c.if-not-is_enterable.true))

pub check_method-requires-clause-method : goal.check_method-requires-clause-method
check_method-requires-clause-method c = record {
  program = c.requires.checking.program;
  operations = c.requires.checking.operations;
  types = c.requires.checking.types;
  linked = c.args.linked.now;
  class_is = c.requires.class;
  body_is = c.requires.body;
  grown = c.requires.checking.grown;
}

pub returns-clause-passes : goal.returns-clause-passes
returns-clause-passes c =
    let program = c.args.checking.program.now in let b = c.args.body.now in
    IfOk-weaker c.check_method.result (λ _. IsMethodOk program c.args.method b) (λ _. is_enterable c.args.linked.now b ≡ true → IsMethodOk program c.args.method b)
    (λ _ ok enterable. ok) c.check_method.ensures.passes

pub returns-clause-refused : goal.returns-clause-refused
returns-clause-refused c =
    let program = c.args.checking.program.now in let b = c.args.body.now in let linked = c.args.linked.now in let method = c.args.method in
    let enterable = sym (c.is_enterable.ensures c.requires.most) ∙ c.if-not-is_enterable.false in
    IfErr-weaker c.check_method.result (λ e. Said e (IsMethodRefusal program method b)) (λ e. Said e (IsEnteredRefusal program method linked b))
    (λ e said. said_more (IsMethodRefusal program method b) (IsEnteredRefusal program method linked b) e (λ r refused. record { enterable = enterable; refused = refused }) said)
    c.check_method.ensures.refused
