-- The twin of a class: the same class with its probes, and the members that are added.
use Rattle.std.specs.Prelude.{◌≡◌, ◌⊎◌, ℕ, ◌<◌, List, [], ◌∷◌, ◌++◌, length, map, Some, slice_get}
use Rattle.std.specs.List.{flat_map}
use Rattle.jc_methods.specs.VerificationTypes.{Names, TypeStateAt, type_state_at}
use Rattle.jc_methods.specs.declared.body.Body.{Body}
use Rattle.jc_class.specs.ClassId.{class_id}
use Rattle.jc_class.specs.ClassText.{ClassText}
use Rattle.jc_class.specs.declared.class_file.ClassFile.{ClassFile}
use Rattle.jc_body.specs.BodyOf.{BodyOfAnySize, Bodiless}
use Rattle.jc_methods.specs.declared.probe_members.Fetch.{Fetch}
use Rattle.jc_pool.specs.Adding.{Extends}
use Rattle.jc_pool.specs.Pool.{PoolValue}
use Rattle.jc_emit.specs.Added.{IsAddedBody, giver_of}
use Rattle.jc_emit.specs.TwinBodies.{AreTwinBodies}
use Rattle.jc_plan.specs.Analysed.{all_probes}
use Rattle.jc_instrument.specs.Bodies.{AreBodies, IsListed}
use Rattle.jc_instrument.specs.Contents.{Content, TakesEach}
use Rattle.jc_instrument.specs.Needed.{GetsBy, early_needs, name_of, needed, signed_id}
use Rattle.jc_instrument.specs.SameOutside.{IsSameOutside}

-- ---- bodies

-- The bodies of all methods of the class, in the order of their methods, whatever the number of their instructions times their slots
-- is. A method has its body among them, or is abstract or native and has no code.
pub record AreBodiesOfAnySize (names : Names) (c : ClassFile) (bodies : List Body) : Type 0 where
  pub each : (i : ℕ) (b : Body) → slice_get bodies i ≡ Some b → BodyOfAnySize names c b.method b
  pub rising : (i j : ℕ) (a b : Body) → i < j → slice_get bodies i ≡ Some a → slice_get bodies j ≡ Some b → a.method < b.method
  pub all : (number : ℕ) → number < length c.methods → Bodiless c number ⊎ IsListed bodies number

-- their frames, with classes by their names
abbrev pub frames_of : Names → List Body → List TypeStateAt
frames_of names bodies = flat_map (λ b. map (type_state_at names) b.frames) bodies

-- ---- the class

-- the first new entries of the pool stand for these, in this order, each but for those that were there
pub record BeginsWith (old new : PoolValue) (needs : List Content) : Type 0 where
  pub mid : PoolValue
  pub places : List ℕ
  pub takes : TakesEach old needs mid places
  pub extends : Extends mid new

-- The twin of a class with this id. Its bodies are read whatever their size is. They are the twins of the bodies of the class, in
-- order, whose first ids are told by the bodies in front, and then the one that gives the array of probes. What the pool takes are
-- the needs of the added members and the classes that the frames of the twins name; what the size of code depends on comes first.
-- Outside of code the class is as before.
pub record TwinClass (id : ℕ) (c twin : ClassFile) : Type 0 where
  pub names : Names
  pub bodies : List Body
  pub are : AreBodies names c bodies
  pub fetch : Fetch
  pub bootstrap : ℕ
  pub gets : GetsBy c fetch bootstrap
  pub new_names : Names
  pub twins : List Body
  pub added : Body
  pub read : AreBodiesOfAnySize new_names twin (twins ++ added ∷ [])
  pub each : AreTwinBodies names new_names fetch (giver_of fetch (name_of c) bootstrap) 0 bodies (twins ++ added ∷ []) added
  pub added_is : IsAddedBody fetch new_names (name_of c) (signed_id id) (all_probes bodies) added
  pub outside : IsSameOutside id bootstrap (needed fetch bootstrap (name_of c) (signed_id id) (all_probes bodies) (frames_of new_names twins)) (all_probes bodies)
      c twin
  pub first : BeginsWith c.pool twin.pool (early_needs fetch bootstrap (all_probes bodies))

-- ---- the file

-- the bytes are a class, and the text is that of a twin of it, with the id of the bytes
pub record IsTwinFile (bytes text : List ℕ) : Type 0 where
  pub file : ClassFile
  pub file_is : ClassText bytes file
  pub twin : ClassFile
  pub twin_is : ClassText text twin
  pub is : TwinClass (class_id bytes) file twin
