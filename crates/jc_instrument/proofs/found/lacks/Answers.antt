use Rattle.std.proofs.Common.{arith}
use Rattle.jc_methods.proofs.PlacedInsnLaws.{few_insns}
use Rattle.jc_instrument.proofs.RoomLaws.{straddling_place}
use Rattle.jc_instrument.proofs.found.lacks.Goals as goal

pub straddles-straddling-requires : goal.straddles-straddling-requires
straddles-straddling-requires c = omega (arith, few_insns c.args.body.now.code, c.requires.of_any_size.code.few)

pub first_lack-requires : goal.first_lack-requires
first_lack-requires c = straddling_place c.args.body.now c.straddles-straddling.result c.straddles-straddling.ensures
