-- What the constant pool of an instrumented class has to have, in the order in which it is added.
use Rattle.std.specs.Prelude.{◌≡◌, ℕ, ℤ, pos, ◌-◌, ◌+◌, List, [], ◌∷◌, ◌++◌, length, map, unwrap_or, codes, nat_le, if◌then◌else◌}
use Rattle.std.specs.Int.{w64, cast_signed}
use Rattle.jc_bytes.specs.PlainLists.{numbers_from}
use Rattle.jc_methods.specs.VerificationTypes.{TypeStateAt}
use Rattle.jc_methods.specs.ProbeMembers.{data_name, data_type, init_name, init_type, bootstrap_type, bootstraps_name, most_short, fetch_of}
use Rattle.jc_methods.specs.declared.probe_members.Fetch.{Fetch}
use Rattle.jc_methods.specs.declared.probe_members.Fetch.TheVariants as fetches
use Rattle.jc_pool.specs.Adding.{static_handle}
use Rattle.jc_pool.specs.Lookup.{Handle, class_name_of}
use Rattle.jc_pool.specs.Pool.{PoolValue}
use Rattle.jc_class.specs.declared.class_file.ClassFile.{ClassFile}
use Rattle.jc_bootstraps.specs.Bootstraps.{HaveBootstraps, bootstrap_bodies}
use Rattle.jc_frames.specs.FullTable.{named_by_all}
use Rattle.jc_instrument_reread.specs.Written.{data_field, init_method, array_constant, fetch_method}
use Rattle.jc_instrument.specs.Contents.{Content, text_entry, class_entry, string_entry, integer_entry, long_entry, member_entry, handle_entry, computed_entry, TakesEach}
use Rattle.jc_instrument.specs.declared.needs.MemberPlaces.{MemberPlaces}

-- the name of the class
abbrev pub name_of : ClassFile → List ℕ
name_of c = unwrap_or (class_name_of c.pool c.this_class) []

-- the id of the class, which has 64 bits, as the value of a Long entry
abbrev pub signed_id : ℕ → ℤ
signed_id id = cast_signed w64 id

-- the handle of the bootstrap method of the class with this name (JVM Specification 4.4.8)
abbrev pub bootstrap_handle : (owner : List ℕ) → Handle
bootstrap_handle owner = static_handle owner init_name bootstrap_type

-- ---- what the size of the code depends on

-- the constant of the array
abbrev pub constant_needs : Fetch → (bootstrap : ℕ) → List Content
constant_needs fetches.Member bootstrap = []
constant_needs fetches.Constant bootstrap = computed_entry (array_constant bootstrap) ∷ []

-- the ids that no shorter instruction pushes, of so many ids
abbrev pub long_ids : (count : ℕ) → List ℕ
long_ids count = numbers_from (most_short + 1) (count - (most_short + 1))

-- the Integers of these, in rising order
abbrev pub integer_needs : (count : ℕ) → List Content
integer_needs count = map (λ id. integer_entry (pos id)) (long_ids count)

-- the constant, and then the Integers of ids: the first that are taken
abbrev pub early_needs : Fetch → (bootstrap count : ℕ) → List Content
early_needs fetch bootstrap count = constant_needs fetch bootstrap ++ integer_needs count

-- ---- where these stand

-- where the constant stands, and the Integers of ids in their order
pub record EarlyPlaces : Type 0 where
  pub giver : ℕ
  pub integers : List ℕ

abbrev pub early_list : Fetch → EarlyPlaces → List ℕ
early_list fetches.Member p = p.integers
early_list fetches.Constant p = p.giver ∷ p.integers

-- the pool takes the first needs of so many probes at these places
abbrev pub TakesEarly : PoolValue → Fetch → (bootstrap count : ℕ) → PoolValue → EarlyPlaces → Type 0
TakesEarly old fetch bootstrap count new p = TakesEach old (early_needs fetch bootstrap count) new (early_list fetch p)

-- ---- the added members and what their code names

-- the number of probes, where no shorter instruction pushes it
abbrev pub count_needs : (count : ℕ) → List Content
count_needs count = if nat_le count most_short then [] else integer_entry (pos count) ∷ []

-- the name of the attribute of frames, where a frame is written
abbrev pub frames_needs : List TypeStateAt → List Content
frames_needs [] = []
frames_needs (frame ∷ frames) = text_entry (codes "StackMapTable") ∷ []

-- The names and types of the added members; what code names; the names of attributes; the constants of the added method's code; and the
-- class of the probe array.
abbrev pub member_needs : Fetch → List ℕ → ℤ → (count : ℕ) → List TypeStateAt → List Content
member_needs fetches.Member owner id count frames =
    text_entry data_name ∷ text_entry data_type
    ∷ text_entry init_name ∷ text_entry init_type
    ∷ member_entry (data_field owner) ∷ member_entry (init_method owner) ∷ member_entry fetch_method
    ∷ text_entry (codes "Code") ∷ text_entry (codes "StackMapTable")
    ∷ long_entry id ∷ string_entry owner
    ∷ class_entry data_type
    ∷ count_needs count
member_needs fetches.Constant owner id count frames =
    text_entry init_name ∷ text_entry bootstrap_type
    ∷ handle_entry (bootstrap_handle owner) ∷ member_entry fetch_method
    ∷ text_entry (codes "Code") ∷ text_entry bootstraps_name
    ∷ long_entry id ∷ string_entry owner
    ∷ class_entry data_type
    ∷ (count_needs count ++ frames_needs frames)

-- where these stand
abbrev pub count_places : (count place : ℕ) → List ℕ
count_places count place = if nat_le count most_short then [] else place ∷ []

abbrev pub frames_list : List TypeStateAt → MemberPlaces → List ℕ
frames_list [] p = []
frames_list (frame ∷ frames) p = p.frames ∷ []

abbrev pub place_list : Fetch → (count : ℕ) → List TypeStateAt → MemberPlaces → List ℕ
place_list fetches.Member count frames p =
    p.data_name ∷ p.data_type
    ∷ p.init_name ∷ p.init_type
    ∷ p.field ∷ p.method ∷ p.fetch
    ∷ p.code ∷ p.frames
    ∷ p.id ∷ p.name
    ∷ p.array
    ∷ count_places count p.count
place_list fetches.Constant count frames p =
    p.init_name ∷ p.init_type
    ∷ p.handle ∷ p.fetch
    ∷ p.code ∷ p.bootstraps
    ∷ p.id ∷ p.name
    ∷ p.array
    ∷ (count_places count p.count ++ frames_list frames p)

-- ---- all that is needed

-- the classes that written frames name: of each frame those of the values in local variables, and then those of the stack
abbrev pub frame_needs : List TypeStateAt → List Content
frame_needs frames = map class_entry (named_by_all frames)

abbrev pub needed : Fetch → (bootstrap : ℕ) → List ℕ → ℤ → (count : ℕ) → List TypeStateAt → List Content
needed fetch bootstrap owner id count frames =
    early_needs fetch bootstrap count ++ (member_needs fetch owner id count frames ++ frame_needs frames)

-- The pool takes what a class of this name with this id and so many probes needs, of which these frames are written: the Integers of its
-- ids stand at the first of the places behind the constant, one for each.
pub record TakesNeeded (old : PoolValue) (fetch : Fetch) (bootstrap : ℕ) (owner : List ℕ) (id : ℤ) (count : ℕ) (frames : List TypeStateAt)
    (new : PoolValue) (early : EarlyPlaces) (places : MemberPlaces) : Type 0 where
  pub class_places : List ℕ
  pub integers : length early.integers ≡ length (long_ids count)
  pub takes : TakesEach old (needed fetch bootstrap owner id count frames) new
      (early_list fetch early ++ (place_list fetch count frames places ++ class_places))

-- ---- how a class gets its array

-- the number of the bootstrap method that is added: a class that gets its array by a constant has so many others
abbrev pub IsNextBootstrap : Fetch → List (List ℕ) → (bootstrap : ℕ) → Type 0
IsNextBootstrap fetches.Member bodies bootstrap = bootstrap ≡ 0
IsNextBootstrap fetches.Constant bodies bootstrap = HaveBootstraps bodies bootstrap

-- How the methods of the class get their array: they call one that is added, or load a constant that the bootstrap method with this
-- number gives, which is put behind all others.
pub record GetsBy (c : ClassFile) (fetch : Fetch) (bootstrap : ℕ) : Type 0 where
  pub fetch_is : fetch ≡ fetch_of c.major
  pub bootstrap_is : IsNextBootstrap fetch (bootstrap_bodies c.pool c.attributes) bootstrap
