use Rattle.std.proofs.Common.{Bool, List, length, not, sym, subst}
use Rattle.std.specs.List.{All}
use Rattle.jc_methods.specs.declared.kind.State.{State}
use Rattle.jc_methods.specs.VerificationTypes.{IsNumberedState}
use Rattle.jc_methods.proofs.MetNamesLaws.{grows_both}
use Rattle.jc_refs_check.specs.RefsOk.{HandlersSuit}
use Rattle.jc_refs_check.specs.SuitedWalk.{IsFirstFailing, IsSuitedWalk}
use Rattle.jc_refs_check.specs.Unguarded.{AreKeptStates}
use Rattle.jc_refs_check.proofs.FirstLaws.{states_numbered, no_rows, few_kept, first_both, first_alone}
use Rattle.jc_refs_check.proofs.MethodLaws.{method_made, method_checked, method_frames, frames_now, method_grown}
use Rattle.jc_refs_check.proofs.check.first_unsuited.Goals as goal

pub returns-then-not-is_guarded-clause-first : goal.returns-then-not-is_guarded-clause-first
returns-then-not-is_guarded-clause-first c =
    let m = c.args.checked.now in let walked = c.in_ok-walked.walked in
    first_alone m.program.now m.method m.body.now c.walk_method.new.classes.names _ walked.count walked.states.items
    (no_rows m.body.now.handlers c.deref.result.now c.is_empty-is_guarded.result c.deref.ensures c.is_empty-is_guarded.ensures c.if-not-is_guarded.true) c.in_ok-walked.ensures.walk

pub first_unguarded-requires : goal.first_unguarded-requires
first_unguarded-requires c =
    let m = c.args.checked.now in let walked = c.in_ok-walked.walked in let old = c.args.met.now.classes.names in let names = c.walk_method.new.classes.names in
    let walk = subst (λ (none : Bool). IsSuitedWalk m.program.now m.method m.body.now names (not none) walked.count walked.states.items) c.if-not-is_guarded.false c.in_ok-walked.ensures.walk in
    record {
      known = c.in_ok-walked.ensures.known;
      made = method_made old m c.requires.method;
      small = few_kept m.program.now m.method m.body.now names walked.count walked.states.items c.deref-2.result.now walk c.deref-2.ensures.value;
      frames = frames_now names m (method_grown old names m c.in_ok-walked.ensures.names c.requires.method);
      states = subst (All (IsNumberedState (length names))) (sym c.deref-2.ensures.value)
          (states_numbered m.program.now.names names m.body.now walked.states.items walk.each);
      reached = c.requires.met.reached;
    }

pub returns-clause-first : goal.returns-clause-first
returns-clause-first c =
    let m = c.args.checked.now in let walked = c.in_ok-walked.walked in let old = c.args.met.now.classes.names in let names = c.walk_method.new.classes.names in
    let walk = subst (λ (none : Bool). IsSuitedWalk m.program.now m.method m.body.now names (not none) walked.count walked.states.items) c.if-not-is_guarded.false c.in_ok-walked.ensures.walk in
    let handlers = c.in_ok-first.ensures.first m.program.now.names (grows_both m.program.now.names old names c.requires.method.grown c.in_ok-walked.ensures.names)
    (method_frames old m c.requires.method) (method_checked old m c.requires.method)
    (subst (AreKeptStates m.program.now.names names m.body.now) (sym c.deref-2.ensures.value) walk.each) in
    first_both m.program.now m.method m.body.now names walked.count c.in_ok-first.first walked.states.items walk
    (subst (λ (l : List State). IsFirstFailing (HandlersSuit m.program.now.names m.body.now) (length l) c.in_ok-first.first) c.deref-2.ensures.value handlers)
