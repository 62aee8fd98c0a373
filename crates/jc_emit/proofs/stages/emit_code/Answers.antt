use Rattle.std.proofs.Common.{◌∙◌, arith}
use Rattle.jc_methods.proofs.PlacedInsnLaws.{few_insns}
use Rattle.jc_emit.proofs.stages.emit_code.Goals as goal

pub refused-requires : goal.refused-requires
refused-requires c = omega (arith, few_insns c.args.body.now.code, c.requires.body.of_any_size.code.few)

pub returns-clause-code : goal.returns-clause-code
returns-clause-code c = λ first is. c.from_vec.ensures ∙ (c.in_ok-code.ensures first is).code
