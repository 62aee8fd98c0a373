use Rattle.std.proofs.Common.{rules, ◌≤◌, ◌++◌, List, length, subst, ap, sym, ◌∙◌}
use Rattle.jc_methods.specs.declared.kind.State.{State}
use Rattle.jc_methods.specs.VerificationTypes.{type_state}
use Rattle.jc_methods.proofs.MetNamesLaws.{grows_none, grows_both}
use Rattle.jc_kinds.proofs.MissingLaws.{few_insns}
use Rattle.jc_refs_check.specs.SuitedWalk.{SuitedSteps}
use Rattle.jc_refs_check.proofs.NeedLaws.{operands_to, operands_not}
use Rattle.jc_refs_check.proofs.SuitedWalkLaws.{whole_at, walk_begins, walk_fails, walk_on, walk_stops, walk_ends, operands_fail, branches_fail}
use Rattle.jc_refs_check.proofs.MethodLaws.{method_made, method_checked, method_frames, frames_now, method_grown}
use Rattle.jc_refs_check.proofs.walk.walk.Goals as goal

pub suits_frame-requires-clause-frames : goal.suits_frame-requires-clause-frames
suits_frame-requires-clause-frames c = frames_now c.args.classes.now.names c.args.checked.now c.requires.method

pub state_at-requires : goal.state_at-requires
state_at-requires c = method_made c.args.classes.now.names c.args.checked.now c.requires.method

pub overflow_cast-at : goal.overflow_cast-at
overflow_cast-at c =
    let m = c.args.checked.now in
    let few : length m.body.now.code ≤ 65535 = few_insns m.body.now (method_made c.args.classes.now.names m c.requires.method) in search rules

pub overflow_cast-at-in-walking : goal.overflow_cast-at-in-walking
overflow_cast-at-in-walking c =
    let m = c.args.checked.now in
    let few : length m.body.now.code ≤ 65535 = few_insns m.body.now (method_made c.args.classes.now.names m c.requires.method) in search rules

pub step-requires-clause-made : goal.step-requires-clause-made
step-requires-clause-made c = method_made c.args.classes.now.names c.args.checked.now c.requires.method

pub step-requires-clause-frames : goal.step-requires-clause-frames
step-requires-clause-frames c = frames_now c.walking.classes.names c.args.checked.now c.walking.invariant.method

pub returns-then-not-suits_frame-clause-walk : goal.returns-then-not-suits_frame-clause-walk
returns-then-not-suits_frame-clause-walk c =
    let m = c.args.checked.now in let names = c.args.classes.now.names in let ok = c.requires.method in
    walk_fails m.program.now m.method m.body.now (method_made names m ok) (method_checked names m ok) (method_frames names m ok)
    names c.args.keeps _ c.args.entry (search rules) ok.grown c.requires.entry.is (sym c.suits_frame.ensures ∙ c.if-not-suits_frame.true)

pub walking-init : goal.walking-init
walking-init c =
    let m = c.args.checked.now in let names = c.args.classes.now.names in let ok = c.requires.method in
    record {
      walking = walk_begins m.program.now m.method m.body.now (method_made names m ok) (method_checked names m ok) (method_frames names m ok)
          names c.args.keeps c.new-states.result.items c.args.entry c.in_ok-state.state (search rules) ok.grown c.requires.entry.is (sym c.suits_frame.ensures ∙ c.if-not-suits_frame.false)
          c.in_ok-state.ensures
          (whole_at (length names) m.body.now 0 c.args.entry c.in_ok-state.state (method_made names m ok) (frames_now names m ok)
          (record { numbered = c.requires.entry.numbered; well_made = c.requires.entry.well_made }) c.in_ok-state.ensures);
      method = ok;
      known = c.requires.known;
      grown = grows_none names;
      effects = c.requires.effects;
      body = c.requires.body;
    }

pub returns-then-not-operands_suit-clause-walk : goal.returns-then-not-operands_suit-clause-walk
returns-then-not-operands_suit-clause-walk c =
    let m = c.args.checked.now in let names = c.walking.classes.names in let ok = c.walking.invariant.method in
    walk_stops m.program.now m.method m.body.now (method_made names m ok) (method_checked names m ok) (method_frames names m ok)
    names names c.args.keeps c.walking.states.items c.walking.at c.walking.state (search rules) c.walking.invariant.walking (grows_none names)
    (operands_fail m.program.now m.method m.body.now (method_made names m ok) (method_checked names m ok) (method_frames names m ok)
    names c.args.keeps c.walking.states.items c.walking.at c.walking.state (search rules) c.walking.invariant.walking
    (operands_not m.program.now m.method m.body.now c.walking.at (type_state names c.walking.state) (sym c.operands_suit.ensures ∙ c.if-not-operands_suit.true)))

pub returns-in-None-clause-walk : goal.returns-in-None-clause-walk
returns-in-None-clause-walk c =
    let m = c.args.checked.now in let names = c.walking.classes.names in let after = c.step.new.classes.names in let ok = c.walking.invariant.method in
    walk_stops m.program.now m.method m.body.now (method_made names m ok) (method_checked names m ok) (method_frames names m ok)
    names after c.args.keeps c.walking.states.items c.walking.at c.walking.state (search rules) c.walking.invariant.walking c.in_ok-next.ensures.names
    (branches_fail m.program.now m.method m.body.now (method_made names m ok) (method_checked names m ok) (method_frames names m ok)
    names after c.args.keeps c.walking.states.items c.walking.at c.walking.state (search rules) c.walking.invariant.walking c.in_ok-next.ensures.names
    (subst (SuitedSteps names after m.body.now c.walking.at c.walking.state) c.in-None.is c.in_ok-next.ensures.steps))

pub walking-preserved : goal.walking-preserved
walking-preserved c =
    let m = c.args.checked.now in let names = c.walking.classes.names in let after = c.step.new.classes.names in let ok = c.walking.invariant.method in
    record {
      walking = walk_on m.program.now m.method m.body.now (method_made names m ok) (method_checked names m ok) (method_frames names m ok)
          names after c.args.keeps c.walking.states.items c.put.new.states.items c.walking.at c.walking.state c.in-Some.next (search rules) c.walking.invariant.walking c.in_ok-next.ensures.names
          (operands_to m.program.now m.method m.body.now c.walking.at (type_state names c.walking.state) (sym c.operands_suit.ensures ∙ c.if-not-operands_suit.false))
          (subst (SuitedSteps names after m.body.now c.walking.at c.walking.state) c.in-Some.is c.in_ok-next.ensures.steps)
          (c.in_ok-put.ensures ∙ ap (λ (l : List State). c.walking.states.items ++ l) c.in_ok-copy.ensures);
      method = method_grown names after m c.in_ok-next.ensures.names ok;
      known = c.in_ok-next.ensures.known;
      grown = grows_both c.args.classes.now.names names after c.walking.invariant.grown c.in_ok-next.ensures.names;
      effects = c.in_ok-next.ensures.effects;
      body = c.in_ok-next.ensures.body;
    }

pub returns-clause-walk : goal.returns-clause-walk
returns-clause-walk c =
    let m = c.args.checked.now in let names = c.walking.classes.names in let ok = c.walking.invariant.method in
    walk_ends m.program.now m.method m.body.now (method_made names m ok) (method_checked names m ok) (method_frames names m ok)
    names c.args.keeps c.walking.states.items c.walking.at c.len-count.result c.walking.state (search rules) (search rules) c.walking.invariant.walking
