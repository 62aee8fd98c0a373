use Rattle.std.proofs.Common.{◌≡◌, ℕ, ◌+◌, ◌<◌, length, arith, sym, ap, ap₂, ◌∙◌, subst, subst₂}
use Rattle.std.specs.Prelude.{Contains}
use Rattle.jc_programs.specs.declared.run_plan.RunPlan.{RunPlan}
use Rattle.jc_programs.specs.declared.run_end.CaseEnd.{CaseEnd}
use Rattle.jc_board.specs.Seen.{SeatSeen}
use Rattle.jc_workers.specs.Cases.{case_at, end_under, ends_under, HitBy, AreHits}
use Rattle.jc_workers.specs.Drawing.{AllDrew, IsSeatOf, RanFrom}
use Rattle.jc_workers.proofs.CaseLaws.{then_ok, ends_in_order, hits_of_all}
use Rattle.jc_workers.proofs.NumberLaws.{contained, once_is}
use Rattle.jc_workers.proofs.RanLaws.{none_ran, same_hits}
use Rattle.jc_workers.proofs.running.run_cases.Goals as goal

pub deal-requires-clause-seat : goal.deal-requires-clause-seat
deal-requires-clause-seat g c =
    let runner = c.in_ok-runner.runner in
    (c.requires.seat.0, none_ran (length runner.plan.now.cases) (HitBy runner.program.now runner.plan.now) c.args.seat.hits c.requires.seat.2)

pub collect-requires-clause-gave : goal.collect-requires-clause-gave
collect-requires-clause-gave g c =
    let runner = c.in_ok-runner.runner in
    let gave = c.in_ok-gave.gave in
    let cases : c.len-cases.result ≡ length runner.plan.now.cases =
    c.len-cases.ensures ∙ sym (ap (λ (p : RunPlan). length p.cases) c.in_ok-runner.ensures.1) in (
      omega (arith, c.in_ok-gave.ensures.0, c.in_ok-turns.ensures.turns.1, c.requires.workers.0),
      subst (λ n. AllDrew {E = CaseEnd} {S = SeatSeen} (IsSeatOf c.args.board.now.table 2048) (RanFrom runner.program.now runner.plan.now)
          c.in_ok-claims.claims.table n (λ k. end_under runner.program.now (case_at runner.plan.now k)) (g.G.Gate.passed c.args.gate.now) gave.items)
          cases c.in_ok-gave.ensures.1,
    )

pub returns-clause-ends : goal.returns-clause-ends
returns-clause-ends g c =
    let runner = c.in_ok-runner.runner in
    then_ok c.collect.result _ _ c.collect.ensures.ends
    (λ r h. ends_in_order runner.program.now runner.plan.now r.0.items h ∙ ap₂ ends_under c.in_ok-runner.ensures.0 c.in_ok-runner.ensures.1)

pub returns-clause-hits : goal.returns-clause-hits
returns-clause-hits g c =
    let runner = c.in_ok-runner.runner in
    let program = runner.program.now in
    let plan = runner.plan.now in
    let cases = length plan.cases in
    then_ok c.collect.result _ _ c.collect.ensures.ran
    (λ r h. subst₂ (λ program plan. AreHits program plan r.1.hits) c.in_ok-runner.ensures.0 c.in_ok-runner.ensures.1
    (hits_of_all program plan r.1.hits (same_hits cases (Contains h.0) (λ _. Unit {0}) (λ k _ _. tt)
    (λ k lt _. contained h.0 k (omega (arith, h.1 k, once_is k cases lt))) (HitBy program plan) r.1.hits h.2)))

pub returns-clause-passed : goal.returns-clause-passed
returns-clause-passed g c =
    then_ok c.collect.result _ _ c.collect.ensures.passed
    (λ r h. subst (λ (p : RunPlan). (k : ℕ) → k < length p.cases → g.G.Gate.passed c.args.gate.now (k + 1)) c.in_ok-runner.ensures.1 (λ k lt. h k lt tt))
