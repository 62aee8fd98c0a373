use Rattle.std.proofs.Common.{Option, option_map, ap, sym, ◌∙◌}
use Rattle.jc_methods.specs.declared.kind.Kind.{Kind}
use Rattle.jc_methods.specs.VerificationTypes.{verification_type, type_state}
use Rattle.jc_kinds_after.specs.After.{ground_of}
use Rattle.jc_kinds_after.specs.Effects.{body_of}
use Rattle.jc_kinds_after.specs.Step.{built}
use Rattle.jc_kinds_after.specs.Steps.{results}
use Rattle.jc_kinds_after.specs.Table.{form}
use Rattle.jc_kinds_after.proofs.effects.Effects.build_with.Goals as goal

pub returns-in_ok-build-in-Some : goal.returns-in_ok-build-in-Some
returns-in_ok-build-in-Some c =
    λ names place are. c.in_ok-build-in-Some.ensures names place are
    ∙ ap (λ (r : Option Kind). built (ground_of (body_of c.args.self.now) place)
    (form c.args.wants.now (results (option_map (verification_type names) r))) (type_state names c.args.state.now)) (sym c.in-Some.is)

pub returns-in_ok-build-in-None : goal.returns-in_ok-build-in-None
returns-in_ok-build-in-None c =
    λ names place are. c.in_ok-build-in-None.ensures names place are
    ∙ ap (λ (r : Option Kind). built (ground_of (body_of c.args.self.now) place)
    (form c.args.wants.now (results (option_map (verification_type names) r))) (type_state names c.args.state.now)) (sym c.in-None.is)
