use Rattle.std.proofs.Common.{option_map, ap}
use Rattle.jc_methods.specs.VerificationTypes.{verification_type}
use Rattle.jc_kinds_after.specs.Steps.{step_in, results}
use Rattle.jc_kinds_after.specs.Table.{form}
use Rattle.jc_kinds_after.proofs.ApplyLaws.{built_there}
use Rattle.jc_kinds_after.proofs.effects.Effects.apply.Goals as goal

pub returns-in-Build : goal.returns-in-Build
returns-in-Build c =
    built_there c.args.self.now c.args.state c.args.step
    (λ names. form c.in-Build.wants.now (results (option_map (verification_type names) c.in-Build.outcome))) c.args.place c.build_with.result
    (λ names. ap (step_in names) c.in-Build.is) c.build_with.ensures
