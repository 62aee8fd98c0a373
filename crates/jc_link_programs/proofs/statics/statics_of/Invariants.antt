use Rattle.std.proofs.Common.{◌≡◌, ◌≤◌, length, map}
use Rattle.std.specs.Prelude.{All}
use Rattle.jc_machine_model.specs.Programs.{IsStatic}
use Rattle.jc_link_programs.specs.Statics.{statics_among}
use Rattle.jc_link_programs.proofs.statics.statics_of.Given as goal

-- the static fields so far
abbrev pub invariant-fields : goal.invariant-fields
invariant-fields l = (l.statics ≡ statics_among l.class.pool (map (λ f. f.now) l.yielded)) × All IsStatic l.statics × (length l.statics ≤ length l.yielded)
