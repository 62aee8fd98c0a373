-- Programs that are equal but for how the frames of their bodies number classes.
use Rattle.std.specs.Prelude.{◌≡◌, ⊤, List, [], ◌∷◌}
use Rattle.jc_methods.specs.VerificationTypes.{Names}
use Rattle.jc_programs.specs.declared.program.Program.{Program}
use Rattle.jc_programs.specs.declared.program.Linked.{Linked}
use Rattle.jc_emit.specs.TwinBodies.{AreSameBodies}

-- the two are equal, where classes are compared by their names
pub record IsSameLinked (names others : Names) (a b : Linked) : Type 0 where
  pub name : b.name ≡ a.name
  pub version : b.version ≡ a.version
  pub bodies : AreSameBodies names others a.bodies b.bodies
  pub statics : b.statics ≡ a.statics
  pub has_clinit : b.has_clinit ≡ a.has_clinit
  pub probes : b.probes ≡ a.probes

abbrev pub AreSameClasses : Names → Names → List Linked → List Linked → Type 0
AreSameClasses names others [] [] = ⊤
AreSameClasses names others (a ∷ classes) (b ∷ more) = IsSameLinked names others a b × AreSameClasses names others classes more
AreSameClasses names others _ _ = ⊥

abbrev pub IsSameProgram : Program → Program → Type 0
IsSameProgram p q = AreSameClasses p.names q.names p.classes q.classes
