use Rattle.std.proofs.Common.{◌≡◌, ◌<◌, ◌≤◌, List, Err, length, get_or, refl, ◌∙◌, ap, arith}
use Rattle.std.specs.Prelude.{IfOk}
use Rattle.std.proofs.lemmas.Option.{slice_get_read}
use Rattle.std.proofs.lemmas.Result.{err_from_is_err_and}
use Rattle.jc_programs.specs.declared.program.Linked.{Linked}
use Rattle.jc_refs_check.specs.RefsOk.{RefsOk}
use Rattle.jc_refs_check.proofs.CheckingLaws.{checking_grown, bodies_made, classes_on, classes_done}
use Rattle.jc_refs_check.proofs.RefusalLaws.{all_ok, class_answered, never_refused, refused_there}
use Rattle.jc_refs_check.proofs.check.check_refs.Goals as goal

pub of-requires-3 : goal.of-requires-3
of-requires-3 c = bodies_made c.args.program.now c.requires.program

pub checking-preserved : goal.checking-preserved
checking-preserved c =
    let program = c.args.program.now in let n = c.checking.class in let linked = c.linked-item.result in
    let lt : n < length program.classes = omega (arith, ap length c.deref-linked-items.ensures) in
    let there = slice_get_read program.classes (length program.classes) n linked refl lt (c.linked-item.is ∙ ap (λ (l : List Linked). get_or l n linked) c.deref-linked-items.ensures) in
    record {
      ok = classes_on program n linked c.checking.invariant.ok there c.in_ok-check_class.ensures.passes;
      met = c.in_ok-check_class.ensures.met;
      checking = checking_grown c.checking.met.classes.names c.check_class.new.met.classes.names _ c.in_ok-check_class.ensures.names c.checking.invariant.checking;
    }

pub returns-in_err-check_class : goal.returns-in_err-check_class
returns-in_err-check_class c =
    let program = c.args.program.now in let n = c.checking.class in let linked = c.linked-item.result in let e = c.in_err-check_class.field-0.0 in
    let r = c.from_residual-in_err-check_class.result in
    let lt : n < length program.classes = omega (arith, ap length c.deref-linked-items.ensures) in
    let there = slice_get_read program.classes (length program.classes) n linked refl lt (c.linked-item.is ∙ ap (λ (l : List Linked). get_or l n linked) c.deref-linked-items.ensures) in
    let p = err_from_is_err_and r c.from_residual-in_err-check_class.ensures.1 in
    let is : r ≡ Err e = rw (p.1, p.2) refl in
    let passes : IfOk r (λ _. RefsOk program) = rw is tt in
    let said = class_answered program n linked r e is c.checking.invariant.ok there c.in_err-check_class.ensures.refused in
    record { passes = passes; refused = said; checked = never_refused program r said; first = refused_there program r passes said }

pub returns-clause-passes : goal.returns-clause-passes
returns-clause-passes c =
    let program = c.args.program.now in
    let le : length program.classes ≤ c.checking.class = omega (arith, ap length c.deref-linked-items.ensures) in
    all_ok program (classes_done program c.checking.class le c.checking.invariant.ok)

pub returns-clause-first : goal.returns-clause-first
returns-clause-first c = λ method b i first.
    let program = c.args.program.now in
    let le : length program.classes ≤ c.checking.class = omega (arith, ap length c.deref-linked-items.ensures) in
    first.fails (all_ok program (classes_done program c.checking.class le c.checking.invariant.ok) method b i first.entered)
