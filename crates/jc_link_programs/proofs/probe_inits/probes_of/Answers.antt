use Rattle.std.specs.Prelude.{IfNone}
use Rattle.std.proofs.Common.{Option, Some, None, ◌≡◌, refl, sym}
use Rattle.jc_link_programs.proofs.ProbeInitLaws.{none_asking}
use Rattle.jc_link_programs.proofs.probe_inits.probes_of.Goals as goal

when_none : {X : Type 0} (P : Type 0) (o : Option X) → ((x : X) → o ≡ Some x → ⊥) → IfNone o P → P
when_none P None none is = is
when_none P (Some x) none is = absurd (none x refl)

pub returns-in_default-2 : goal.returns-in_default-2
returns-in_default-2 c =
    none_asking c.args.class.now c.args.name.now c.args.bodies.now c.fetch_of-fetch.result c.fetch_of-fetch.ensures c.in-Some.body.now (sym c.in-Some.ensures)
    (when_none _ c.in_ok-known.field-0 c.in_default-2.not-Some c.in_ok-known.ensures.none)
