-- A method whose instrumented code is written into the class: what is given where its bytes are read again.
use Rattle.std.specs.Prelude.{◌≡◌, ⊤, ℕ, ℤ, pos, ◌+◌, ◌<◌, ◌≤◌, Bool, true, false, List, [], ◌∷◌, length, Some, nat_le}
use Rattle.jc_methods.specs.VerificationTypes.{Names}
use Rattle.jc_methods.specs.WellMade.{IsWellMadeOfAnySize}
use Rattle.jc_methods.specs.declared.body.Body.{Body}
use Rattle.jc_methods.specs.declared.emitted.Emitted.{Emitted}
use Rattle.jc_methods.specs.declared.kind.State.{State}
use Rattle.jc_methods.specs.declared.probe_members.Fetch.{Fetch}
use Rattle.jc_methods.specs.declared.probe_members.Fetch.TheVariants as fetches
use Rattle.jc_pool.specs.Adding.{Extends, bootstrap_constant}
use Rattle.jc_pool.specs.Lookup.{Member as MemberText, Computed, class_name_of, computed_of, integer_of, long_of, member_of, string_of, utf8_of}
use Rattle.jc_pool.specs.Pool.{PoolValue}
use Rattle.jc_class.specs.declared.class_file.ClassFile.{ClassFile}
use Rattle.jc_class.specs.declared.class_file.Member.{Member}
use Rattle.jc_body.specs.BodyOf.{IsBody}
use Rattle.jc_body.specs.Coded.{code_bodies}
use Rattle.jc_kinds.specs.Answers.{AreStates}
use Rattle.jc_kinds.specs.Checked.{Checked}
use Rattle.jc_methods.specs.ProbeMembers.{bootstrap_type, constant_type, data_name, data_type, fetch_name, fetch_type, init_flags, init_name, init_type, most_short, runtime_class}
use Rattle.jc_plan.specs.Probed.{probe_count}
use Rattle.jc_emit.specs.Emission.{Emitting, HasFrameStates, IsArrayNumber}
use Rattle.jc_emit.specs.Straddling.{NoneStraddles}
use Rattle.jc_instrument_code.specs.Given.{AreFrames, HaveClasses}
use Rattle.jc_instrument_code.specs.InitText.{added_text, named_places}
use Rattle.jc_instrument_code.specs.TwinCode.{chosen_frames, twin_code}
use Rattle.jc_instrument_code.specs.declared.code.CodePlaces.{CodePlaces}
use Rattle.jc_instrument_code.specs.declared.init.AddedPlaces.{AddedPlaces}
use Rattle.jc_instrument_reread.specs.InitRead.{IsWrittenInit}
use Rattle.jc_instrument_reread.specs.WrittenCode.{ready_emission, IsWrittenCode}

-- ---- the pool

-- the method that the prelude calls (JVM Specification 4.4.2: the tag of a method of a class is 10)
abbrev pub init_method : List ℕ → MemberText
init_method owner = record { tag = 10; class = owner; name = init_name; desc = init_type }

-- the constant that the prelude loads (JVM Specification 4.4.10)
abbrev pub array_constant : (bootstrap : ℕ) → Computed
array_constant bootstrap = bootstrap_constant bootstrap data_name constant_type

-- what the prelude names stands at these places
abbrev pub HasGiver : Fetch → PoolValue → (owner : List ℕ) → (bootstrap : ℕ) → CodePlaces → Type 0
HasGiver fetches.Member pool owner bootstrap places = member_of pool places.giver ≡ Some (init_method owner)
HasGiver fetches.Constant pool owner bootstrap places =
    (computed_of pool places.giver ≡ Some (array_constant bootstrap)) × (class_name_of pool places.array ≡ Some data_type)

-- for each of so many ids from the first one on that no shorter instruction pushes stands its Integer at this place
abbrev pub HasIntegers : PoolValue → (first count : ℕ) → (integer : ℕ → ℕ) → Type 0
HasIntegers pool first count integer =
    (id : ℕ) → most_short < id → first ≤ id → id < first + count → integer_of pool (integer id) ≡ Some (pos id)

-- the pool has grown, and what the twin of a body with so many probes names stands in it
pub record IsGrownPool (old new : PoolValue) (owner : List ℕ) (bootstrap first count : ℕ) (given : Emitting) (places : CodePlaces) : Type 0 where
  pub extends : Extends old new
  pub giver_is : HasGiver given.fetch new owner bootstrap places
  pub integers : HasIntegers new first count given.integer

-- ---- the body

-- the body of the method passes the kind check with these states, and the class of the probe array has this number
pub record IsSource (names : Names) (c : ClassFile) (method : Member) (b : Body) (states : List State) (array : ℕ) : Type 0 where
  pub body : IsBody names c b.method method b
  pub well_made : IsWellMadeOfAnySize b
  pub checked : Checked names b
  pub none_straddles : NoneStraddles b
  pub states_are : AreStates names b states
  pub frame_states : HasFrameStates b states
  pub array_is : IsArrayNumber names array

-- ---- what is written

-- the instrumented code can be written, and the pool has the classes that its frames name
pub record IsFitting (names : Names) (pool : PoolValue) (fetch : Fetch) (places : CodePlaces) (e : Emitted) : Type 0 where
  pub code : IsWrittenCode pool fetch places names e
  pub frames : AreFrames e (length names) (chosen_frames e)
  pub classes : HaveClasses pool names e

-- the method is as before, but for its one Code attribute, which holds these bytes
pub record HasOtherCode (pool : PoolValue) (method new : Member) (code : List ℕ) : Type 0 where
  pub flags : new.flags ≡ method.flags
  pub name : new.name ≡ method.name
  pub desc : new.desc ≡ method.desc
  pub code_is : code_bodies pool new ≡ code ∷ []

-- The method of the class `c` has this body, and the method `new` of the class `twin`, whose pool has grown, has its instrumented
-- code, which gets the array of probes as is given. Where it loads a constant, that is the one of the bootstrap method with this number.
pub record IsWrittenMethod (names : Names) (c twin : ClassFile) (bootstrap : ℕ) (places : CodePlaces) (given : Emitting) (method new : Member) (b : Body)
    (states : List State) (first : ℕ) : Type 0 where
  pub major : twin.major ≡ c.major
  pub this_class : twin.this_class ≡ c.this_class
  pub pool : IsGrownPool c.pool twin.pool b.owner bootstrap first (probe_count b) given places
  pub source : IsSource names c method b states given.array
  pub fits : IsFitting names twin.pool given.fetch places (ready_emission b first states given places.giver)
  pub written : HasOtherCode twin.pool method new
      (twin_code twin.pool given.fetch places.giver places.array places.frames names (ready_emission b first states given places.giver))

-- ---- the added method

-- the field that keeps the probe array, of the class with this name (JVM Specification 4.4.2: the tag of a field is 9)
abbrev pub data_field : List ℕ → MemberText
data_field owner = record { tag = 9; class = owner; name = data_name; desc = data_type }

-- the method of the runtime class that gives a probe array
abbrev pub fetch_method : MemberText
fetch_method = record { tag = 10; class = runtime_class; name = fetch_name; desc = fetch_type }

-- the Integer of the number of probes, where it is pushed from there
abbrev pub HasCountEntry : Bool → PoolValue → (count place : ℕ) → Type 0
HasCountEntry true pool count place = ⊤
HasCountEntry false pool count place = integer_of pool place ≡ Some (pos count)

-- the type of the added method
abbrev pub added_type : Fetch → List ℕ
added_type fetches.Member = init_type
added_type fetches.Constant = bootstrap_type

-- what the method names that keeps the array in a field
abbrev pub HasFieldEntries : Fetch → PoolValue → (owner : List ℕ) → AddedPlaces → Type 0
HasFieldEntries fetches.Member pool owner p = (member_of pool p.field ≡ Some (data_field owner)) × (class_name_of pool p.array ≡ Some data_type)
HasFieldEntries fetches.Constant pool owner p = ⊤

-- The class has this name, and its method gives the probe array of the class with this id, which has so many probes: what its
-- code names stands at these places of the pool.
pub record IsAddedMethod (fetch : Fetch) (twin : ClassFile) (owner : List ℕ) (id : ℤ) (count : ℕ) (p : AddedPlaces) (method : Member) : Type 0 where
  pub code : IsWrittenInit fetch twin.pool p
  pub owner_is : class_name_of twin.pool twin.this_class ≡ Some owner
  pub flags : method.flags ≡ init_flags
  pub name : utf8_of twin.pool method.name ≡ Some init_name
  pub desc : utf8_of twin.pool method.desc ≡ Some (added_type fetch)
  pub code_is : code_bodies twin.pool method ≡ added_text fetch (named_places p) p.frames p.array count ∷ []
  pub field_entries : HasFieldEntries fetch twin.pool owner p
  pub id_is : long_of twin.pool p.id ≡ Some id
  pub name_is : string_of twin.pool p.name ≡ Some owner
  pub count_is : HasCountEntry (nat_le count most_short) twin.pool count p.count
  pub fetch_is : member_of twin.pool p.fetch ≡ Some fetch_method
