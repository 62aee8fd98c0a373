-- The one twin class that is written for a class.
use Rattle.std.specs.Prelude.{◌≡◌, ℕ, ◌≤◌, List, [], ◌∷◌, ◌++◌, length, map, Option, Some, None, codes, nat_eq, if◌then◌else◌}
use Rattle.jc_methods.specs.VerificationTypes.{Names}
use Rattle.jc_bytes.specs.PlainLists.{map_from}
use Rattle.jc_pool.specs.Pool.{PoolValue}
use Rattle.jc_class.specs.declared.class_file.Attribute.{Attribute}
use Rattle.jc_class.specs.declared.class_file.ClassFile.{ClassFile}
use Rattle.jc_class.specs.declared.class_file.Member.{Member}
use Rattle.jc_bootstraps.specs.Bootstraps.{bootstrap_bodies, has_name as has_text, with_bootstrap}
use Rattle.jc_body.specs.Attributes.{has_name}
use Rattle.jc_methods.specs.declared.probe_members.Fetch.{Fetch}
use Rattle.jc_methods.specs.declared.probe_members.Fetch.TheVariants as fetches
use Rattle.jc_emit.specs.Added.{InitPlaces}
use Rattle.jc_methods.specs.ProbeMembers.{data_flags, init_flags, bootstraps_name}
use Rattle.jc_plan.specs.Analysed.{all_probes}
use Rattle.jc_instrument_code.specs.CodeText.{attribute}
use Rattle.jc_instrument_code.specs.InitText.{added_text}
use Rattle.jc_instrument_code.specs.TwinCode.{twin_code}
use Rattle.jc_instrument.specs.Needed.{EarlyPlaces, GetsBy, TakesNeeded, name_of, needed, signed_id}
use Rattle.jc_instrument.specs.Contents.{Content}
use Rattle.jc_instrument.specs.Constants.{constants_at}
use Rattle.jc_instrument.specs.BodiesWithStates.{BodyWithStates, bodies_of, AreBodiesWithStates, emitted_of, all_frames}
use Rattle.jc_instrument.specs.declared.constants.ProbeConstants.{ProbeConstants}
use Rattle.jc_instrument.specs.declared.needs.MemberPlaces.{MemberPlaces}

-- ---- a method

-- the work of the method with this number, if it has code
abbrev pub work_of : ℕ → List BodyWithStates → Option BodyWithStates
work_of number [] = None
work_of number (w ∷ works) = if nat_eq w.body.method number then Some w else work_of number works

-- a Code attribute gets other bytes, and each other attribute stays
abbrev pub with_code : PoolValue → List ℕ → Attribute → Attribute
with_code pool code a = if has_name pool (codes "Code") a then attribute a.name code else a

abbrev pub twin_method : (old : PoolValue) → (code : BodyWithStates → List ℕ) → Member → Option BodyWithStates → Member
twin_method old code method None = method
twin_method old code method (Some w) = record method { attributes = map (with_code old (code w)) method.attributes }

abbrev pub twin_methods : (old : PoolValue) → (code : BodyWithStates → List ℕ) → List BodyWithStates → List Member → List Member
twin_methods old code works methods = map_from (λ number method. twin_method old code method (work_of number works)) 0 methods

-- ---- the added members

abbrev pub data_member : MemberPlaces → Member
data_member p = record { flags = data_flags; name = p.data_name; desc = p.data_type; attributes = [] }

-- the field, where there is one
abbrev pub added_fields : Fetch → MemberPlaces → List Member
added_fields fetches.Member p = data_member p ∷ []
added_fields fetches.Constant p = []

abbrev pub init_places : MemberPlaces → InitPlaces
init_places p = record { field = p.field; id = p.id; name = p.name; count = p.count; fetch = p.fetch }

abbrev pub init_member : Fetch → MemberPlaces → (count : ℕ) → Member
init_member fetch p count = record {
  flags = init_flags;
  name = p.init_name;
  desc = p.init_type;
  attributes = attribute p.code (added_text fetch (init_places p) p.frames p.array count) ∷ [];
}

-- ---- the bootstrap method

-- the attribute BootstrapMethods gets one more, behind so many
abbrev pub with_bootstrap_at : PoolValue → (handle bootstrap : ℕ) → Attribute → Attribute
with_bootstrap_at pool handle bootstrap a =
    if has_text pool bootstraps_name a then attribute a.name (with_bootstrap handle bootstrap a.body) else a

-- where the class has none, its attribute comes last
abbrev pub new_attribute : (name handle : ℕ) → List (List ℕ) → List Attribute
new_attribute name handle [] = attribute name (with_bootstrap handle 0 []) ∷ []
new_attribute name handle (body ∷ bodies) = []

-- the attributes with one more bootstrap method
abbrev pub with_one_more : PoolValue → (bootstrap : ℕ) → MemberPlaces → List Attribute → List Attribute
with_one_more pool bootstrap p attributes =
    map (with_bootstrap_at pool p.handle bootstrap) attributes
    ++ new_attribute p.bootstraps p.handle (bootstrap_bodies pool attributes)

abbrev pub twin_attributes : Fetch → PoolValue → (bootstrap : ℕ) → MemberPlaces → List Attribute → List Attribute
twin_attributes fetches.Member pool bootstrap p attributes = attributes
twin_attributes fetches.Constant pool bootstrap p attributes = with_one_more pool bootstrap p attributes

-- ---- the class

-- the place of what the prelude names first: the method that it calls, or the constant that it loads
abbrev pub giver_by : Fetch → (constant method : ℕ) → ℕ
giver_by fetches.Member constant method = method
giver_by fetches.Constant constant method = constant

abbrev pub giver_in : ProbeConstants → MemberPlaces → ℕ
giver_in constants p = giver_by constants.fetch constants.giver p.method

-- what a class is written with
pub record Writing : Type 0 where
  pub fetch : Fetch
  pub bootstrap : ℕ
  pub early : EarlyPlaces
  pub places : MemberPlaces
  pub pool : PoolValue

-- the constants that its code loads
abbrev pub constants_of : Writing → ProbeConstants
constants_of w = constants_at w.fetch w.early

-- what the Code attribute of a body holds
abbrev pub code_with : Names → (array : ℕ) → Writing → BodyWithStates → List ℕ
code_with names array w work =
    twin_code w.pool w.fetch (giver_in (constants_of w) w.places) w.places.array w.places.frames names (emitted_of (constants_of w) array work)

-- The class with this pool, in which the members' entries stand at these places: each method with code has its twin's, and the
-- members that are added go last.
unfoldable pub twin_class : Names → (array : ℕ) → ClassFile → List BodyWithStates → Writing → ClassFile
twin_class names array c works w = record {
  minor = c.minor;
  major = c.major;
  pool = w.pool;
  flags = c.flags;
  this_class = c.this_class;
  super_class = c.super_class;
  interfaces = c.interfaces;
  fields = c.fields ++ added_fields w.fetch w.places;
  methods =
      twin_methods c.pool (code_with names array w) works c.methods
      ++ init_member w.fetch w.places (all_probes (bodies_of works)) ∷ [];
  attributes = twin_attributes w.fetch c.pool w.bootstrap w.places c.attributes;
}

-- what a class with this id needs
abbrev pub needs_of : (id : ℕ) → Names → (array : ℕ) → ClassFile → List BodyWithStates → Writing → List Content
needs_of id names array c works w =
    needed w.fetch w.bootstrap (name_of c) (signed_id id) (all_probes (bodies_of works)) (all_frames names (constants_of w) array works)

-- the pool of the class takes what the class needs
abbrev pub TakesNeeds : (id : ℕ) → Names → (array : ℕ) → ClassFile → List BodyWithStates → Writing → Type 0
TakesNeeds id names array c works w =
    TakesNeeded c.pool w.fetch w.bootstrap (name_of c) (signed_id id) (all_probes (bodies_of works)) (all_frames names (constants_of w) array works)
    w.pool w.early w.places

-- The bodies of the class with this id and their states are these, and it gets its array so; and so is what it is written with,
-- whether its pool has room for it or not.
pub record IsReadyFor (id : ℕ) (names : Names) (array : ℕ) (works : List BodyWithStates) (c : ClassFile) (w : Writing) : Type 0 where
  pub gets : GetsBy c w.fetch w.bootstrap
  pub are : AreBodiesWithStates names array c works
  pub takes : TakesNeeds id names array c works w

-- the twin class that is written for a class with this id, whose works are these
pub record IsWritten (id : ℕ) (names : Names) (array : ℕ) (works : List BodyWithStates) (c twin : ClassFile) : Type 0 where
  pub with : Writing
  pub ready : IsReadyFor id names array works c with
  pub few : length with.pool ≤ 65535
  pub is : twin ≡ twin_class names array c works with

-- the twin class that is written for a class with this id
pub record IsWrittenFor (id : ℕ) (c twin : ClassFile) : Type 0 where
  pub names : Names
  pub array : ℕ
  pub works : List BodyWithStates
  pub written : IsWritten id names array works c twin
