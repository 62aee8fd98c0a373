use Rattle.std.proofs.Common.{◌≡◌, ◌/◌, ◌<◌, List, [], Bool, length, arith, sym, ap, ap₂, ◌∙◌, subst}
use Rattle.jc_programs.specs.declared.run_plan.RunPlan.{RunPlan}
use Rattle.jc_machine.specs.Hits.{probe_counts}
use Rattle.jc_workers.specs.Cases.{HitBy, ends_under}
use Rattle.jc_workers.specs.Claims.{once_below, AreThoseBelow}
use Rattle.jc_workers.proofs.CaseLaws.{ends_in_order}
use Rattle.jc_dump.specs.Dumps.{AreDumps, AreInOrder}
use Rattle.jc_dump.specs.HasRun.{HasRun}
use Rattle.jc_dump.proofs.DumpLaws.{same_run, once, are_dumps, are_in_order}
use Rattle.jc_dump.proofs.RunLaws.{none}
use Rattle.jc_dump.proofs.running.run_dumping.Given.{Over}
use Rattle.jc_dump.proofs.running.run_dumping.Goals as goal
use Rattle.jc_dump.proofs.running.run_dumping.Goals.{After-len}

pub run_on-requires-clause-seat : goal.run_on-requires-clause-seat
run_on-requires-clause-seat g c =
    let b = c.in_ok-board.ensures in
    let runner = c.in_ok-runner.runner in
    let hit_by = HitBy runner.program.now runner.plan.now in
    let same : c.in_ok-counts.counts.items ≡ c.in_ok-board.board.counts = cc (b.board.0, c.deref.ensures.value) in
    λ κs lives. (
      ((b.board.1, same, omega (arith, c.requires.every.0)), b.part.0),
      subst (HasRun c.args.every c.in_ok-board.board.counts hit_by [] c.in_ok-board.seat) (sym c.new-3.ensures.items)
          (none c.args.every c.in_ok-board.board.counts hit_by c.in_ok-board.seat b.seat.0 b.seat.1 b.seat.2),
    )

some : (g : Over) (c : After-len g) → 0 < c.args.every
some g c = omega (arith, c.requires.every.0)

counts : (g : Over) (c : After-len g) → c.in_ok-board.board.counts ≡ probe_counts c.args.program.now
counts g c = cc (c.in_ok-board.ensures.board.0, c.deref.ensures.value, c.in_ok-counts.ensures)

-- each case ran, once
those : (g : Over) (c : After-len g) → AreThoseBelow (length c.args.plan.now.cases) c.in_ok-ends.ensures.ran.0
those g c = subst (λ (q : RunPlan). AreThoseBelow (length q.cases) c.in_ok-ends.ensures.ran.0) c.in_ok-runner.ensures.1 c.in_ok-ends.ensures.ran.1

ran : (g : Over) (c : After-len g) → HasRun c.args.every (probe_counts c.args.program.now) (HitBy c.args.program.now c.args.plan.now) c.in_ok-ends.ensures.ran.0
    c.in_ok-ends.seat.seat c.in_ok-ends.seat.dumps.items
ran g c =
    let runner = c.in_ok-runner.runner in
    same_run c.args.every runner.program.now c.args.program.now runner.plan.now c.args.plan.now c.in_ok-board.board.counts c.in_ok-ends.ensures.ran.0
    c.in_ok-ends.seat.seat c.in_ok-ends.seat.dumps.items c.in_ok-runner.ensures.0 c.in_ok-runner.ensures.1 (counts g c) c.in_ok-ends.ensures.ran.2

pub in_order-requires : goal.in_order-requires
in_order-requires g c = record {
  once = λ d. once c.args.program.now c.args.plan.now c.args.every (some g c) c.in_ok-ends.ensures.ran.0 c.in_ok-ends.seat.seat c.in_ok-ends.seat.dumps.items
      (those g c) (ran g c) d ∙ ap (λ n. once_below d (n / c.args.every)) (sym c.len.ensures);
}

pub returns-clause-ends : goal.returns-clause-ends
returns-clause-ends g c =
    let runner = c.in_ok-runner.runner in
    c.from_vec.ensures ∙ (ends_in_order runner.program.now runner.plan.now c.in_ok-ends.ends.items c.in_ok-ends.ensures.ends
    ∙ ap₂ ends_under c.in_ok-runner.ensures.0 c.in_ok-runner.ensures.1)

pub returns-clause-dumps : goal.returns-clause-dumps
returns-clause-dumps g c =
    let at = (goal.at.returns-clause-dumps g c).After-len in
    let program = c.args.program.now in
    let plan = c.args.plan.now in
    let every = c.args.every in
    let left = c.close.ensures in
    let whole = c.in_ok-ends.ensures.seat.1 in
    subst (λ (l : List (List (List Bool))). AreDumps program plan every l c.close.new.into) (sym c.from_vec-2.ensures)
    (are_dumps program plan every (some g at) c.in_ok-ends.ensures.ran.0 c.in_ok-ends.seat.seat c.in_ok-ends.seat.dumps.items (those g at) (ran g at)
    c.in_ok-dumps.dumps.items (c.in_ok-dumps.ensures.len ∙ ap (λ n. n / every) c.len.ensures) c.in_ok-dumps.ensures.each c.close.new.into
    (left.counts ∙ counts g at) (left.settled whole) (left.whole whole))

pub returns-clause-one : goal.returns-clause-one
returns-clause-one g c = λ one.
    let at = (goal.at.returns-clause-one g c).After-len in
    let program = c.args.program.now in
    let plan = c.args.plan.now in
    let every = c.args.every in
    let turn = c.in_ok-ends.ensures.ran.3 one in
    subst (λ (l : List (List (List Bool))). AreInOrder program plan every l c.close.new.into) (sym c.from_vec-2.ensures)
    (are_in_order program plan every (some g at) c.in_ok-ends.ensures.ran.0 c.in_ok-ends.seat.seat c.in_ok-ends.seat.dumps.items (those g at) (ran g at)
    c.in_ok-dumps.dumps.items (c.in_ok-dumps.ensures.len ∙ ap (λ n. n / every) c.len.ensures) c.in_ok-dumps.ensures.each c.close.new.into
    turn.1 turn.0 (c.close.ensures.alone turn.1))

pub returns-clause-passed : goal.returns-clause-passed
returns-clause-passed g c = λ k lt. c.in_ok-ends.ensures.passed k
    (subst (λ (q : RunPlan). k < length q.cases) (sym c.in_ok-runner.ensures.1) lt) tt
