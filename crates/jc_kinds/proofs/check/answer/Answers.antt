use Rattle.std.proofs.Common.{arith, rules, ◌≤◌, length, sym, subst}
use Rattle.jc_bytes.specs.declared.fail.Fail.{Fail}
use Rattle.jc_bytes.specs.declared.refusal.Refusal.{Refusal}
use Rattle.jc_bytes.specs.Least.{IsNowhere}
use Rattle.jc_kinds.specs.Checked.{IsMissing}
use Rattle.jc_bytes.specs.Failing.{Said}
use Rattle.jc_kinds.specs.Answers.{IsKindRefusal}
use Rattle.jc_kinds.proofs.MissingLaws.{few_insns}
use Rattle.jc_kinds.proofs.AnswerLaws.{few_walked, kept_by_rows, same_guard, clash_answered_at, states_answered_all, frames_inside}
use Rattle.jc_kinds.proofs.RefusalLaws.{clash_refused}
use Rattle.jc_kinds.proofs.check.answer.Goals as goal

pub frame_numbers-requires-clause-within : goal.frame_numbers-requires-clause-within
frame_numbers-requires-clause-within c = frames_inside c.args.body.now c.deref.result.now c.len.result c.requires.body c.deref.ensures c.len.ensures

pub first_unguarded-requires-clause-small : goal.first_unguarded-requires-clause-small
first_unguarded-requires-clause-small c =
    let few = few_walked c.args.names.now c.walk_body.new.names c.args.body.now c.keeps_states.result c.in_ok-walked.walked.count
    c.in_ok-walked.walked.states.items c.requires.body c.in_ok-walked.ensures.walk in
    omega (arith, few)

pub first_unguarded-requires-clause-states : goal.first_unguarded-requires-clause-states
first_unguarded-requires-clause-states c =
    kept_by_rows c.args.names.now c.walk_body.new.names c.args.body.now c.keeps_states.result c.in_ok-walked.walked.count c.in_ok-walked.walked.states.items c.deref-3.result.now
    c.keeps_states.ensures.rows c.deref-3.ensures.value c.in_ok-walked.ensures.walk

pub overflow_cast-place : goal.overflow_cast-place
overflow_cast-place c = let few : length c.args.body.now.code ≤ 65535 = few_insns c.args.body.now c.requires.body in search rules

pub returns-then-place-len-clause-answer : goal.returns-then-place-len-clause-answer
returns-then-place-len-clause-answer c =
    let missing : IsNowhere (IsMissing c.args.body.now) = search rules in
    let first = same_guard c.args.body.now c.in_ok-walked.walked.states.items c.deref-3.result.now c.in_ok-walked.walked.count c.in_ok-place-2.place
    c.deref-3.ensures.value c.in_ok-place-2.ensures in
    subst (λ (e : Fail Refusal). Said e (IsKindRefusal c.walk_body.new.names c.args.body.now)) (sym c.refused-then-place-len.ensures)
    (clash_refused c.walk_body.new.names c.args.body.now c.in_ok-place-2.place
    (clash_answered_at c.args.names.now c.walk_body.new.names c.args.body.now c.keeps_states.result c.in_ok-walked.walked.count
    c.in_ok-walked.walked.states.items c.in_ok-place-2.place c.requires.body missing c.requires.frames
    c.in_ok-walked.ensures.walk c.keeps_states.ensures.rows first (search rules)))

pub returns-clause-answer : goal.returns-clause-answer
returns-clause-answer c =
    let missing : IsNowhere (IsMissing c.args.body.now) = search rules in
    let first = same_guard c.args.body.now c.in_ok-walked.walked.states.items c.deref-3.result.now c.in_ok-walked.walked.count c.in_ok-place-2.place
    c.deref-3.ensures.value c.in_ok-place-2.ensures in
    let passed = states_answered_all c.args.names.now c.walk_body.new.names c.args.body.now c.keeps_states.result c.in_ok-walked.walked.count
    c.in_ok-walked.walked.states.items c.in_ok-place-2.place c.requires.body missing
    c.requires.frames c.in_ok-walked.ensures.walk c.keeps_states.ensures.rows first (search rules) in
    (passed.0, λ wanted. passed.1 (c.keeps_states.ensures.wanted wanted))
