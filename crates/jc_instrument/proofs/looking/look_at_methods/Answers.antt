use Rattle.std.proofs.Common.{ap, arith}
use Rattle.jc_methods.proofs.MetNamesLaws.{grows_none}
use Rattle.jc_instrument.specs.KeptStates.{places_kept}
use Rattle.jc_instrument.proofs.LookedLaws.{nothing_looked}
use Rattle.jc_instrument.proofs.looking.look_at_methods.Goals as goal

pub looking-init : goal.looking-init
looking-init c = record {
  looked = nothing_looked c.args.names.now c.args.class.now c.args.left c.new.result c.new.ensures;
  grows = grows_none c.args.names.now;
  few = let none = ap places_kept c.new.ensures in omega (arith, none);
}
