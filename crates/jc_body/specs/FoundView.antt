-- What stands at a place, as the code has it.
use Rattle.jc_pool.specs.Lookup.{Computed, member}
use Rattle.jc_body.specs.declared.standing.ComputedText.{ComputedText}
use Rattle.jc_body.specs.declared.standing.Standing.{Standing}
use Rattle.jc_body.specs.declared.standing.Standing.TheVariants as standing
use Rattle.jc_body.specs.Standing.{Found, of_computed, of_member, of_class, of_constant}

abbrev pub computed : ComputedText → Computed
computed c = record { signed = record { name = c.name.now; desc = c.desc.now }; bootstrap = c.bootstrap }

abbrev pub found : Standing → Found
found (standing.Computed c) = of_computed (computed c)
found (standing.Member m) = of_member (member m)
found (standing.Class name) = of_class name.now
found (standing.Constant c) = of_constant c
