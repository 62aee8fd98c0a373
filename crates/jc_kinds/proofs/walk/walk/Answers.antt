use Rattle.std.proofs.Common.{rules, ◌≤◌, ◌++◌, length, subst, ◌∙◌, ap, List}
use Rattle.jc_methods.specs.declared.kind.State.{State}
use Rattle.jc_methods.proofs.NumberedLaws.{grown_count, frames_numbered}
use Rattle.jc_kinds.specs.StateSequence.{Steps}
use Rattle.jc_kinds.proofs.MissingLaws.{few_insns}
use Rattle.jc_kinds.proofs.BranchLaws.{first_made, first_not}
use Rattle.jc_kinds.proofs.WalkLaws.{walk_ends, walk_on, walk_stops}
use Rattle.jc_kinds.proofs.walk.walk.Goals as goal

pub returns-in-None-clause-walk : goal.returns-in-None-clause-walk
returns-in-None-clause-walk c =
    first_not c.args.names.now c.args.framed.now.body.now c.args.keeps c.args.entry c.in_ok-first.field-0 c.in_ok-states.states.items
    c.requires.entry c.in_ok-first.ensures c.in-None.is c.in_ok-states.ensures

pub walking-init : goal.walking-init
walking-init c = record {
  walking = first_made c.args.names.now c.args.framed.now.body.now c.args.keeps c.args.entry c.in-Some.first c.in_ok-first.field-0
      c.in_ok-states.states.items c.requires.made c.requires.frames c.requires.entry
      c.in_ok-first.ensures c.in-Some.is c.in_ok-states.ensures;
  effects = c.requires.effects;
  body = c.requires.body;
}

pub overflow_cast-at : goal.overflow_cast-at
overflow_cast-at c = let few : length c.args.framed.now.body.now.code ≤ 65535 = few_insns c.args.framed.now.body.now c.requires.made in search rules

pub step-requires-clause-frames : goal.step-requires-clause-frames
step-requires-clause-frames c = frames_numbered (length c.args.names.now) (length c.walking.names) c.args.framed.now.body.now.frames
    (grown_count c.args.names.now c.walking.names c.walking.invariant.walking.grown) c.requires.frames

pub returns-in-None-2-clause-walk : goal.returns-in-None-2-clause-walk
returns-in-None-2-clause-walk c =
    walk_stops c.args.names.now c.walking.names c.step.new.names c.args.framed.now.body.now c.args.keeps c.walking.states.items c.walking.at c.walking.state
    c.requires.made c.requires.missing c.requires.frames (search rules)
    c.walking.invariant.walking c.in_ok-next.ensures.names
    (subst (Steps c.walking.names c.step.new.names c.args.framed.now.body.now c.walking.at c.walking.state) c.in-None-2.is c.in_ok-next.ensures.steps)

pub walking-preserved : goal.walking-preserved
walking-preserved c = record {
  walking = walk_on c.args.names.now c.walking.names c.step.new.names c.args.framed.now.body.now c.args.keeps c.walking.states.items c.put.new.states.items
      c.walking.at c.walking.state c.in-Some-2.next c.requires.made
      c.requires.missing c.requires.frames (search rules) c.walking.invariant.walking c.in_ok-next.ensures.names
      (subst (Steps c.walking.names c.step.new.names c.args.framed.now.body.now c.walking.at c.walking.state) c.in-Some-2.is c.in_ok-next.ensures.steps)
      (c.in_ok-put.ensures ∙ ap (λ (l : List State). c.walking.states.items ++ l) c.in_ok-copy.ensures);
  effects = c.in_ok-next.ensures.effects;
  body = c.in_ok-next.ensures.body;
}

pub returns-clause-walk : goal.returns-clause-walk
returns-clause-walk c =
    walk_ends c.args.names.now c.walking.names c.args.framed.now.body.now c.args.keeps c.walking.states.items c.walking.at c.len-count.result c.walking.state
    (search rules) (search rules) c.walking.invariant.walking
