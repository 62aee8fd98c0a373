-- Programs without the frames of their bodies, at which no run looks.
use Rattle.std.specs.Prelude.{[], map}
use Rattle.jc_methods.specs.declared.body.Body.{Body}
use Rattle.jc_programs.specs.declared.program.Linked.{Linked}
use Rattle.jc_programs.specs.declared.program.Program.{Program}

abbrev pub frameless_body : Body → Body
frameless_body b = record b { frames = [] }

abbrev pub frameless_class : Linked → Linked
frameless_class c = record c { bodies = map frameless_body c.bodies }

-- nor at the names of the classes in them
abbrev pub frameless : Program → Program
frameless p = record { classes = map frameless_class p.classes; names = [] }
