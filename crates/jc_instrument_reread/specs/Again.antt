-- Methods whose code is read again, and passes the kind check.
use Rattle.std.specs.Prelude.{◌≡◌, ◌⊎◌, ℕ, ℤ, List, Some, slice_get}
use Rattle.jc_methods.specs.VerificationTypes.{Names}
use Rattle.jc_methods.specs.declared.body.Body.{Body}
use Rattle.jc_methods.specs.declared.kind.State.{State}
use Rattle.jc_methods.specs.declared.probe_members.Fetch.{Fetch}
use Rattle.jc_class.specs.declared.class_file.ClassFile.{ClassFile}
use Rattle.jc_class.specs.declared.class_file.Member.{Member}
use Rattle.jc_body.specs.BodyOf.{IsBodyOfAnySize}
use Rattle.jc_body.specs.Coded.{HasNoCode}
use Rattle.jc_kinds.specs.Checked.{Checked}
use Rattle.jc_emit.specs.Added.{giver_of, IsAddedBody}
use Rattle.jc_emit.specs.Emission.{Emitting}
use Rattle.jc_emit.specs.Twin.{Twin}
use Rattle.jc_instrument_code.specs.declared.code.CodePlaces.{CodePlaces}
use Rattle.jc_instrument_code.specs.declared.init.AddedPlaces.{AddedPlaces}
use Rattle.jc_instrument_reread.specs.Written.{IsAddedMethod, IsWrittenMethod}

-- ---- a method

-- Its code is read, whatever the number of its instructions times its slots is, and what is read passes the kind check, under
-- each list of names.
pub record PassesAgain (twin : ClassFile) (number : ℕ) (method : Member) : Type 0 where
  pub names : Names
  pub body : Body
  pub is : IsBodyOfAnySize names twin number method body
  pub checked : (others : Names) (other : Body) → IsBodyOfAnySize others twin number method other → Checked others other

-- what is read is a twin of the body, which gets the array so, by the bootstrap method with this number where it loads a constant
pub record IsReadAsTwin (names : Names) (twin : ClassFile) (fetch : Fetch) (bootstrap : ℕ) (method : Member) (states : List State) (first : ℕ) (b : Body) : Type 0 where
  pub body : Body
  pub is : IsBodyOfAnySize names twin b.method method body
  pub twin_is : Twin names names states fetch (giver_of fetch b.owner bootstrap) first b body

-- what is read gives the probe array of the class with this name and this id, which has so many probes
pub record IsReadAsInit (fetch : Fetch) (twin : ClassFile) (number : ℕ) (method : Member) (owner : List ℕ) (id : ℤ) (count : ℕ) : Type 0 where
  pub names : Names
  pub body : Body
  pub is : IsBodyOfAnySize names twin number method body
  pub init_is : IsAddedBody fetch names owner id count body

-- ---- a class

-- the instrumented code of the method with this number is written
pub record IsWrittenAt (names : Names) (c twin : ClassFile) (bootstrap : ℕ) (places : CodePlaces) (given : Emitting) (number : ℕ) (new : Member) : Type 0 where
  pub method : Member
  pub body : Body
  pub number_is : body.method ≡ number
  pub states : List State
  pub first : ℕ
  pub written : IsWrittenMethod names c twin bootstrap places given method new body states first

-- where it is, it is read as a twin
abbrev pub IsReadBack : Names → (c twin : ClassFile) → (bootstrap : ℕ) → CodePlaces → Emitting → (number : ℕ) → Member → Type 0
IsReadBack names c twin bootstrap places given number new =
    (w : IsWrittenAt names c twin bootstrap places given number new) → IsReadAsTwin names twin given.fetch bootstrap new w.states w.first w.body

-- it is the added method
pub record IsAddedAt (twin : ClassFile) (new : Member) : Type 0 where
  pub fetch : Fetch
  pub owner : List ℕ
  pub id : ℤ
  pub count : ℕ
  pub places : AddedPlaces
  pub added : IsAddedMethod fetch twin owner id count places new

-- each method of the class has no code, or has its instrumented code, or is the added one
abbrev pub AreWrittenMethods : Names → (c twin : ClassFile) → (bootstrap : ℕ) → CodePlaces → Emitting → Type 0
AreWrittenMethods names c twin bootstrap places given =
    (number : ℕ) (new : Member) → slice_get twin.methods number ≡ Some new
    → HasNoCode twin.pool new ⊎ (IsWrittenAt names c twin bootstrap places given number new ⊎ IsAddedAt twin new)

-- so each has no code, or is read again and passes the kind check
abbrev pub EachPassesAgain : ClassFile → Type 0
EachPassesAgain twin = (number : ℕ) (new : Member) → slice_get twin.methods number ≡ Some new → HasNoCode twin.pool new ⊎ PassesAgain twin number new
