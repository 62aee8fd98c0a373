-- Probes of a program among the counts of its classes.
use Rattle.std.proofs.Common.{ℕ, zero, suc, ◌<◌, List, [], ◌∷◌, map, Option, Some, sym, subst, arith, slice_get}
use Rattle.jc_programs.specs.declared.program.Program.{Program}
use Rattle.jc_programs.specs.declared.program.Linked.{Linked}
use Rattle.jc_programs.specs.declared.program.ProbeInit.{ProbeInit}
use Rattle.jc_programs.specs.Probes.{InRange}
use Rattle.jc_machine_model.specs.World.{Hit}
use Rattle.jc_machine_model.specs.Fits.{HasProbe, IsProbe}
use Rattle.jc_machine.specs.Hits.{count_in, probe_counts}

-- how many probes a class has
abbrev pub probe_count : Linked → ℕ
probe_count c = count_in c.probes

within_class : (c : Linked) (id : ℕ) → HasProbe (Some c) id → id < probe_count c
within_class c id (init, is, less) = subst (λ (o : Option ProbeInit). id < count_in o) (sym is) less

in_classes : (classes : List Linked) (class id : ℕ) → HasProbe (slice_get classes class) id → InRange (map probe_count classes) class id
in_classes [] class id has = absurd has
in_classes (c ∷ classes) zero id has = (omega arith, within_class c id has)
in_classes (c ∷ classes) (suc class) id has = let more = in_classes classes class id has in (let less = more.0 in omega (arith, less), more.1)

-- a probe of the program is in the range of its counts
pub probe_within : (program : Program) (hit : Hit) → IsProbe program hit → InRange (probe_counts program) hit.class hit.id
probe_within program hit has = in_classes program.classes hit.class hit.id has
