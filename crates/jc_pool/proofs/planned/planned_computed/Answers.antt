use Rattle.std.proofs.Common.{inl, refl, sym, subst, arith}
use Rattle.jc_pool.specs.Adding.{IsFirst}
use Rattle.jc_pool.specs.Lookup.{computed_of}
use Rattle.jc_pool.specs.Index.{computed}
use Rattle.jc_pool.proofs.PlannedLaws.{computed_planned}
use Rattle.jc_pool.proofs.planned.planned_computed.Goals as goal

pub returns-in-Some-clause-place : goal.returns-in-Some-clause-place
returns-in-Some-clause-place c =
    (c.args.slots.now, inl (subst (IsFirst (computed_of c.args.slots.now) (computed c.args.c.now)) (sym c.from.ensures) c.in-Some.ensures.first, refl), refl)

pub returns-in-None-clause-place : goal.returns-in-None-clause-place
returns-in-None-clause-place c =
    computed_planned c.args.slots.now (computed c.args.c.now) c.missing_computed-missing.result _ _ c.in-None.ensures.none c.missing_computed-missing.ensures.lacks (omega arith) (omega arith)
