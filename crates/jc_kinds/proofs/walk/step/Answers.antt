use Rattle.std.proofs.Common.{arith, rules, ◌≤◌, length}
use Rattle.jc_kinds.proofs.MissingLaws.{few_insns}
use Rattle.jc_kinds.proofs.BranchLaws.{stop_made, step_made}
use Rattle.jc_kinds.proofs.walk.step.Goals as goal

pub fits_branches-requires-clause-place : goal.fits_branches-requires-clause-place
fits_branches-requires-clause-place c = let few = few_insns c.args.framed.now.body.now c.requires.made in let lt = c.requires.place in omega (arith, few, lt)

pub overflow_add-at : goal.overflow_add-at
overflow_add-at c = let few : length c.args.framed.now.body.now.code ≤ 65535 = few_insns c.args.framed.now.body.now c.requires.made in search rules

pub returns-then-not-branch-clause-steps : goal.returns-then-not-branch-clause-steps
returns-then-not-branch-clause-steps c =
    stop_made c.args.names.now c.advance.new.names c.args.framed.now.body.now _ c.deref.result.now c.args.at c.args.state c.in-Some.left
    c.in_ok-left.field-0 c.index-deref-at.result c.in_ok-fits_branches.field-0
    c.requires.body c.deref.ensures c.requires.place c.index-deref-at.is c.in_ok-left.ensures.after c.in-Some.is c.in_ok-fits_branches.ensures c.if-not-branch.true

pub returns-clause-steps : goal.returns-clause-steps
returns-clause-steps c =
    step_made c.args.names.now c.advance.new.names c.args.framed.now.body.now _ c.deref.result.now c.args.at
    c.args.state c.in-Some.left c.in_ok-next_state.field-0 c.in_ok-left.field-0
    c.index-deref-at.result c.in_ok-fits_branches.field-0
    c.requires.made c.requires.frames c.in_ok-left.ensures.names c.requires.body c.deref.ensures c.requires.place
    c.index-deref-at.is c.in_ok-left.ensures.after c.in-Some.is
    c.in_ok-fits_branches.ensures c.if-not-branch.false c.in_ok-next_state.ensures c.in_ok-left.ensures.next c.in_ok-left.ensures.whole c.requires.state
