use Rattle.std.proofs.Common.{arith}
use Rattle.jc_methods.proofs.PlacedInsnLaws.{few_insns}
use Rattle.tests_classes.proofs.methods.straddling.Goals as goal

pub straddles-requires : goal.straddles-requires
straddles-requires c = omega (arith, few_insns c.args.body.now.code, c.requires.of_any_size.code.few)
