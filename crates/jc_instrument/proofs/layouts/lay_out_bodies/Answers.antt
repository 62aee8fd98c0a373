use Rattle.std.proofs.Common.{◌≡◌, length, sym, ◌∙◌, rules, arith}
use Rattle.std.proofs.lemmas.Iterator.Adapters.{YieldsList-from_vec}
use Rattle.std.proofs.lemmas.Iterator.Consumers.{YieldsList-turn, YieldsList-end}
use Rattle.std.proofs.lemmas.List.{length_push}
use Rattle.std.proofs.lemmas.Result.{err_from_is_err_and}
use Rattle.jc_plan.specs.Probed.{first_id}
use Rattle.jc_bytes.specs.Failing.{Said}
use Rattle.jc_instrument.specs.Probing.{IsFirstTooLong, IsTooLong}
use Rattle.jc_instrument.proofs.AnswerLaws.{said_more}
use Rattle.jc_instrument.proofs.LayoutsLaws.{all_laid, laying_begun, laying_on, next_enough, next_standing, next_too_long}
use Rattle.jc_instrument.proofs.layouts.lay_out_bodies.Goals as goal

pub laying-init : goal.laying-init
laying-init c = laying_begun c.args.names.now c.args.class.now c.args.constants.now c.args.bodies c.new-planned.result c.new-planned.ensures

pub lay_out-requires-clause-body : goal.lay_out-requires-clause-body
lay_out-requires-clause-body c =
    let all = c.requires.bodies.0 in
    let turn = YieldsList-turn (YieldsList-from_vec {s = c.into_iter-looked-iterator.result} c.args.bodies (cc) (search rules)) c.laying.yielded c.laying.looked-iterator
    c.laying.yielded_by c.next.result c.next.new.self c.in-Some.looked c.in-Some.is c.next.ensures.steps in
    let s = next_standing c.args.names.now c.args.class.now c.args.constants.now c.args.bodies (length c.laying.yielded) c.laying.names c.laying.planned c.in-Some.looked
    turn.0 turn.1 c.laying.invariant all c.requires.bodies.1 c.requires.bodies.2 in (
      s.body,
      first_id all (length c.laying.yielded),
      s.of,
      s.as_looked,
      next_enough c.args.names.now c.args.class.now c.args.constants.now c.args.bodies (length c.laying.yielded) c.laying.names c.laying.planned c.in-Some.looked
          turn.0 turn.1 c.laying.invariant all c.requires.bodies.1 c.requires.bodies.2 c.requires.bodies.3,
    )

pub laying-preserved : goal.laying-preserved
laying-preserved c =
    let turn = YieldsList-turn (YieldsList-from_vec {s = c.into_iter-looked-iterator.result} c.args.bodies (cc) (search rules)) c.laying.yielded c.laying.looked-iterator
    c.laying.yielded_by c.next.result c.next.new.self c.in-Some.looked c.in-Some.is c.next.ensures.steps in
    rw (length_push c.laying.yielded c.in-Some.looked)
    (laying_on c.args.names.now c.args.class.now c.args.constants.now c.args.bodies (length c.laying.yielded) c.laying.names c.laying.planned c.in-Some.looked
    turn.0 turn.1 c.laying.invariant c.lay_out.new.names c.in_ok-next.ensures.grows c.in_ok-next.next c.push.new.self c.in_ok-push.ensures.ok
    c.in_ok-next.ensures.planned c.in_ok-next.ensures.short)

pub returns-in_err-next-clause-refused : goal.returns-in_err-next-clause-refused
returns-in_err-next-clause-refused c = λ all are looked.
    let turn = YieldsList-turn (YieldsList-from_vec {s = c.into_iter-looked-iterator.result} c.args.bodies (cc) (search rules)) c.laying.yielded c.laying.looked-iterator
    c.laying.yielded_by c.next.result c.next.new.self c.in-Some.looked c.in-Some.is c.next.ensures.steps in
    let n = length c.laying.yielded in
    let s = next_standing c.args.names.now c.args.class.now c.args.constants.now c.args.bodies n c.laying.names c.laying.planned c.in-Some.looked
    turn.0 turn.1 c.laying.invariant all are looked in
    let p = err_from_is_err_and c.from_residual.result c.from_residual.ensures.1 in
    rw (p.1, p.2)
    (said_more (IsTooLong c.args.constants.now s.body (first_id all n)) (IsFirstTooLong c.args.constants.now all) c.in_err-next.field-0.0
    (next_too_long c.args.names.now c.args.class.now c.args.constants.now c.args.bodies n c.laying.names c.laying.planned c.in-Some.looked
    turn.0 turn.1 c.laying.invariant all are looked) (c.in_err-next.ensures.refused s.body (first_id all n) s.of s.as_looked))

pub returns-clause-planned : goal.returns-clause-planned
returns-clause-planned c = λ all are looked.
    let ended = YieldsList-end (YieldsList-from_vec {s = c.into_iter-looked-iterator.result} c.args.bodies (cc) (search rules)) c.laying.yielded c.laying.looked-iterator
    c.laying.yielded_by c.next.result c.next.new.self c.in-None.is c.next.ensures.steps in
    all_laid c.args.names.now c.args.class.now c.args.constants.now c.args.bodies (length c.laying.yielded) c.laying.names c.laying.planned (sym ended.1) c.laying.invariant all are looked
