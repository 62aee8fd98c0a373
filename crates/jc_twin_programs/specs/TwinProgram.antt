-- The twin of a program: the same classes, some of them with their probes.
use Rattle.std.specs.Prelude.{◌≡◌, ◌⊎◌, ⊤, ℕ, ◌+◌, List, [], ◌∷◌, ◌++◌, Some, None, Contains}
use Rattle.std.specs.Int.{w64, cast_signed}
use Rattle.std.specs.List.{sum_by}
use Rattle.jc_methods.specs.VerificationTypes.{Names}
use Rattle.jc_methods.specs.WellMade.{IsWellMade}
use Rattle.jc_methods.specs.declared.body.Body.{Body}
use Rattle.jc_programs.specs.declared.program.StaticField.{StaticField}
use Rattle.jc_programs.specs.declared.program.Linked.{Linked}
use Rattle.jc_programs.specs.declared.program.Program.{Program}
use Rattle.jc_kinds.specs.Checked.{Checked}
use Rattle.jc_plan.specs.Probed.{probe_count}
use Rattle.jc_methods.specs.ProbeMembers.{data_name, init_name, fetch_of}
use Rattle.jc_emit.specs.TwinBodies.{AreSameBodies, AreTwinBodies}
use Rattle.jc_emit.specs.Added.{IsAddedBody, giver_of, bootstrap_of, added_statics}
use Rattle.jc_emit.specs.Straddling.{NoneStraddles}

-- ---- a class that stays as it is

-- no body and no static field has the name of an added member
pub record HasNoAdded (class : Linked) : Type 0 where
  pub bodies : (b : Body) → Contains class.bodies b → b.name ≡ init_name → ⊥
  pub statics : (f : StaticField) → Contains class.statics f → f.name ≡ data_name → ⊥

-- the two are equal
pub record IsUnchangedPair (names new_names : Names) (class new : Linked) : Type 0 where
  pub name : new.name ≡ class.name
  pub version : new.version ≡ class.version
  pub bodies : AreSameBodies names new_names class.bodies new.bodies
  pub statics : new.statics ≡ class.statics
  pub has_clinit : new.has_clinit ≡ class.has_clinit
  pub probes : new.probes ≡ class.probes
  pub none_added : HasNoAdded class

-- ---- a class with its probes

-- no body and no static field has the name of either added member
abbrev pub IsAddedName : List ℕ → Type 0
IsAddedName name = (name ≡ init_name) ⊎ (name ≡ data_name)

pub record HasNeither (class : Linked) : Type 0 where
  pub bodies : (b : Body) → Contains class.bodies b → IsAddedName b.name → ⊥
  pub statics : (f : StaticField) → Contains class.statics f → IsAddedName f.name → ⊥

-- The second has a twin of each body of the first, all of which get the array as classes of this version do: by the added method of
-- their own class, or by the constant that the bootstrap method with one and the same number gives.
pub record IsChangedPair (names new_names : Names) (class new : Linked) : Type 0 where
  pub name : new.name ≡ class.name
  pub version : new.version ≡ class.version
  pub has_clinit : new.has_clinit ≡ class.has_clinit
  pub none_added : HasNeither class
  pub no_probes : class.probes ≡ None
  pub none_straddles : (b : Body) → Contains class.bodies b → NoneStraddles b
  pub id : ℕ
  pub bootstrap : ℕ
  pub added : Body
  pub bodies : AreTwinBodies names new_names (fetch_of class.version) (giver_of (fetch_of class.version) class.name bootstrap) 0 class.bodies new.bodies added
  pub added_is : IsAddedBody (fetch_of class.version) new_names class.name (cast_signed w64 id) (sum_by probe_count class.bodies) added
  pub statics : new.statics ≡ class.statics ++ added_statics (fetch_of class.version)
  pub probes : new.probes
      ≡ Some (record { id = id; count = sum_by probe_count class.bodies; bootstrap = bootstrap_of (fetch_of class.version) bootstrap })

abbrev pub IsPair : Names → Names → Linked → Linked → Type 0
IsPair names new_names class new = IsUnchangedPair names new_names class new ⊎ IsChangedPair names new_names class new

-- the classes are as many, and those at each place are a pair
abbrev pub ArePairs : Names → Names → List Linked → List Linked → Type 0
ArePairs names new_names [] [] = ⊤
ArePairs names new_names (c ∷ classes) (n ∷ others) = IsPair names new_names c n × ArePairs names new_names classes others
ArePairs names new_names _ _ = ⊥

-- ---- a program

-- no two classes have one name
abbrev pub DifferInName : List Linked → Type 0
DifferInName [] = ⊤
DifferInName (c ∷ classes) = ((other : Linked) → Contains classes other → other.name ≡ c.name → ⊥) × DifferInName classes

-- each body of a class is well made and passes the kind check
abbrev pub AreChecked : Names → List Linked → Type 0
AreChecked names classes = (c : Linked) → Contains classes c → (b : Body) → Contains c.bodies b → IsWellMade b × Checked names b

-- The owner of each body is its class. What gives a twin its array is told by the class's name, and so this plays no part there.
abbrev pub AreOwned : List Linked → Type 0
AreOwned classes = (c : Linked) → Contains classes c → (b : Body) → Contains c.bodies b → b.owner ≡ c.name

pub record TwinProgram (p p' : Program) : Type 0 where
  pub checked : AreChecked p.names p.classes
  pub differ : DifferInName p.classes
  pub pairs : ArePairs p.names p'.names p.classes p'.classes
