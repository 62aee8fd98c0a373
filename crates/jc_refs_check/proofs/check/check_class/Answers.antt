use Rattle.std.proofs.Common.{◌<◌, ◌≤◌, List, length, get_or, refl, ◌∙◌, ap, arith, rules}
use Rattle.std.proofs.lemmas.Option.{slice_get_read}
use Rattle.std.proofs.lemmas.Result.{err_from_is_err_and}
use Rattle.jc_methods.specs.declared.body.Body.{Body}
use Rattle.jc_methods.proofs.MetNamesLaws.{grows_none, grows_both}
use Rattle.jc_refs_check.specs.MethodAnswers.{IsEnteredRefusal, method_entry, IsClassRefusal}
use Rattle.jc_refs_check.proofs.CheckingLaws.{said_more, checking_grown, few_methods, methods_on, class_refused, methods_done}
use Rattle.jc_refs_check.proofs.check.check_class.Goals as goal

pub checking-init : goal.checking-init
checking-init c = record {
  ok = λ method b lt. absurd (omega (arith, lt));
  met = c.requires.met;
  grown = grows_none c.args.met.now.classes.names;
}

pub overflow_cast-method : goal.overflow_cast-method
overflow_cast-method c =
    let linked = c.args.linked.now in
    let few = few_methods c.args.checking.program.now c.requires.checking.program c.args.class linked c.requires.class in
    let lt : c.checking.number < length linked.bodies = omega (arith, ap length c.deref-body-items.ensures) in
    search rules

pub check_entered-requires-clause-checking : goal.check_entered-requires-clause-checking
check_entered-requires-clause-checking c =
    checking_grown c.args.met.now.classes.names c.checking.met.classes.names c.args.checking c.checking.invariant.grown c.requires.checking

pub check_entered-requires-clause-body : goal.check_entered-requires-clause-body
check_entered-requires-clause-body c =
    let linked = c.args.linked.now in let n = c.checking.number in let b = c.body-item.result in
    let lt : n < length linked.bodies = omega (arith, ap length c.deref-body-items.ensures) in
    slice_get_read linked.bodies (length linked.bodies) n b refl lt (c.body-item.is ∙ ap (λ (l : List Body). get_or l n b) c.deref-body-items.ensures)

pub checking-preserved : goal.checking-preserved
checking-preserved c =
    let program = c.args.checking.program.now in let linked = c.args.linked.now in let n = c.checking.number in let b = c.body-item.result in
    let lt : n < length linked.bodies = omega (arith, ap length c.deref-body-items.ensures) in
    let there = slice_get_read linked.bodies (length linked.bodies) n b refl lt (c.body-item.is ∙ ap (λ (l : List Body). get_or l n b) c.deref-body-items.ensures) in
    record {
      ok = methods_on program c.args.class linked n b c.checking.invariant.ok there c.in_ok-check_entered.ensures.passes;
      met = c.in_ok-check_entered.ensures.met;
      grown = grows_both c.args.met.now.classes.names c.checking.met.classes.names c.check_entered.new.met.classes.names c.checking.invariant.grown c.in_ok-check_entered.ensures.names;
    }

pub returns-in_err-check_entered-clause-refused : goal.returns-in_err-check_entered-clause-refused
returns-in_err-check_entered-clause-refused c =
    let program = c.args.checking.program.now in let linked = c.args.linked.now in let n = c.checking.number in let b = c.body-item.result in
    let lt : n < length linked.bodies = omega (arith, ap length c.deref-body-items.ensures) in
    let there = slice_get_read linked.bodies (length linked.bodies) n b refl lt (c.body-item.is ∙ ap (λ (l : List Body). get_or l n b) c.deref-body-items.ensures) in
    let p = err_from_is_err_and c.from_residual.result c.from_residual.ensures.1 in
    rw (p.1, p.2) (said_more (IsEnteredRefusal program (method_entry c.args.class n) linked b) (IsClassRefusal program c.args.class linked) c.in_err-check_entered.field-0.0
    (class_refused program c.args.class linked n b c.checking.invariant.ok there) c.in_err-check_entered.ensures.refused)

pub returns-clause-passes : goal.returns-clause-passes
returns-clause-passes c =
    let linked = c.args.linked.now in
    let le : length linked.bodies ≤ c.checking.number = omega (arith, ap length c.deref-body-items.ensures) in
    methods_done c.args.checking.program.now c.args.class linked c.checking.number le c.checking.invariant.ok
