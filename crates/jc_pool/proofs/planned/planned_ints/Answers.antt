use Rattle.std.proofs.Common.{ℕ, ◌+◌, List, arith, sym, subst}
use Rattle.jc_pool.specs.Adding.{WouldHaveInts}
use Rattle.jc_pool.proofs.PlannedLaws.{IntsSoFar, none_planned, next_planned, all_planned}
use Rattle.jc_pool.proofs.planned.planned_ints.Goals as goal

pub planning-init : goal.planning-init
planning-init c = (
  omega arith,
  λ old same size.
      subst (λ (l : List ℕ). IntsSoFar old c.args.first 0 c.args.start l) (sym c.in_ok-places.ensures.items) (none_planned old c.args.first c.args.start size),
)

pub planning-preserved : goal.planning-preserved
planning-preserved c =
    let told = c.planned_int-planned.ensures in (
      omega (arith, c.planning.invariant.0, told.few),
      λ old same size.
          let n = c.planning.number in
          subst (λ (l : List ℕ). IntsSoFar old c.args.first (n + 1) c.planned_int-planned.result.count l) (sym c.in_ok-push.ensures.items)
          (next_planned c.args.slots.now old c.args.index.now c.requires.index same c.args.first n c.planning.count c.planning.places.items (c.planning.invariant.1 old same size)
          _ c.planned_int-planned.result.place c.planned_int-planned.result.count (omega arith) told.found told.new),
    )

pub returns : goal.returns
returns c = λ old same size.
    subst (λ (l : List ℕ). WouldHaveInts old c.args.first c.args.many l c.planning.count) (sym c.from_vec.ensures)
    (all_planned old c.args.first c.planning.number c.args.many c.planning.count c.planning.places.items (omega arith) (c.planning.invariant.1 old same size))
