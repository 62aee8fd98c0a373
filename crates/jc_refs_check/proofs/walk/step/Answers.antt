use Rattle.std.proofs.Common.{rules, arith, ◌≤◌, length}
use Rattle.jc_methods.proofs.NumberedLaws.{grown_count, frames_numbered}
use Rattle.jc_kinds.proofs.MissingLaws.{few_insns}
use Rattle.jc_refs_check.proofs.SuitedWalkLaws.{stop_left, step_left}
use Rattle.jc_refs_check.proofs.walk.step.Goals as goal

pub suits_branches-requires-clause-place : goal.suits_branches-requires-clause-place
suits_branches-requires-clause-place c = let few = few_insns c.args.body.now c.requires.made in let lt = c.requires.place in omega (arith, few, lt)

pub suits_branches-requires-clause-frames : goal.suits_branches-requires-clause-frames
suits_branches-requires-clause-frames c = frames_numbered (length c.args.classes.now.names) (length c.leave.new.classes.names) c.args.body.now.frames
    (grown_count c.args.classes.now.names c.leave.new.classes.names c.in_ok-left.ensures.names) c.requires.frames

pub returns-then-not-branch-clause-steps : goal.returns-then-not-branch-clause-steps
returns-then-not-branch-clause-steps c =
    stop_left c.args.classes.now.names c.leave.new.classes.names c.args.body.now _ c.args.at c.args.state c.in_ok-left.field-0 c.requires.body c.in_ok-left.ensures.left
    c.deref.result.now c.in-Some.left c.index-deref-at.result c.in_ok-suits_branches.field-0 c.deref.ensures c.requires.place c.index-deref-at.is c.in-Some.is
    c.in_ok-suits_branches.ensures c.if-not-branch.true

pub overflow_add-at : goal.overflow_add-at
overflow_add-at c = let few : length c.args.body.now.code ≤ 65535 = few_insns c.args.body.now c.requires.made in search rules

pub returns-clause-steps : goal.returns-clause-steps
returns-clause-steps c =
    step_left c.args.classes.now.names c.leave.new.classes.names c.args.body.now _ c.args.at c.args.state c.in_ok-left.field-0 c.requires.body c.in_ok-left.ensures.left
    c.deref.result.now c.in-Some.left c.index-deref-at.result c.in_ok-suits_branches.field-0 c.deref.ensures c.requires.place c.index-deref-at.is c.in-Some.is
    c.in_ok-suits_branches.ensures c.in_ok-state_at.field-0 c.requires.made
    (frames_numbered (length c.args.classes.now.names) (length c.leave.new.classes.names) c.args.body.now.frames
    (grown_count c.args.classes.now.names c.leave.new.classes.names c.in_ok-left.ensures.names) c.requires.frames)
    c.if-not-branch.false c.in_ok-state_at.ensures
