-- The probes of a class: what its `$jacocoInit` asks for.
use Rattle.std.specs.Prelude.{◌≡◌, ⊤, ℕ, ◌-◌, ◌^◌, ◌<◌, ◌≤◌, ◌&&◌, Bool, pos, List, ◌∷◌, Option, Some, None, find, bytes_eq, nat_le, if◌then◌else◌, option_and_then}
use Rattle.std.specs.Int.{w64, cast_signed}
use Rattle.jc_methods.specs.Opcode as opcode
use Rattle.jc_methods.specs.InsnUse.{pool_place}
use Rattle.jc_methods.specs.ProbeMembers.{init_name, data_name, data_type, fetch_of, runtime_class, fetch_name, fetch_type, most_probes, most_short}
use Rattle.jc_methods.specs.WellMade.{what_used}
use Rattle.jc_methods.specs.declared.insn.Insn.{Insn}
use Rattle.jc_methods.specs.declared.insn.Insn.TheVariants as insns
use Rattle.jc_methods.specs.declared.body.Body.{Body}
use Rattle.jc_methods.specs.declared.body.Use.{Use}
use Rattle.jc_methods.specs.declared.body.What.{What}
use Rattle.jc_methods.specs.declared.body.What.TheVariants as whats
use Rattle.jc_methods.specs.declared.probe_members.Fetch.{Fetch}
use Rattle.jc_methods.specs.declared.probe_members.Fetch.TheVariants as fetches
use Rattle.jc_programs.specs.declared.program.ProbeInit.{ProbeInit}
use Rattle.jc_pool.specs.Lookup.{string_of}
use Rattle.jc_class.specs.declared.class_file.ClassFile.{ClassFile}
use Rattle.jc_emit.specs.Added.{HasCount, InitPlaces, bootstrap_code, init_code}
use Rattle.jc_instrument_reread.specs.Written.{added_type}
use Rattle.jc_link_programs.specs.OwnBootstrap.{HasBootstrap}
use Rattle.jc_link_programs.specs.declared.asked.Asked.{Asked}
use Rattle.jc_link_programs.specs.declared.asked.Counted.{Counted}
use Rattle.jc_link_programs.specs.declared.asked.Counted.TheVariants as counts

-- ---- what code asks for

-- the code of the method that instrumentation adds
abbrev pub added_code : Fetch → InitPlaces → (count : ℕ) → List Insn
added_code fetches.Member places count = init_code places count
added_code fetches.Constant places count = bootstrap_code places count

-- the field that keeps the array, where there is one
abbrev pub NamesField : Fetch → List Use → (class : List ℕ) → (field : ℕ) → Type 0
NamesField fetches.Member uses class field = what_used uses field ≡ Some (whats.Field class data_name data_type)
NamesField fetches.Constant uses class field = ⊤

-- The code is that of the method that instrumentation adds: it gives the array in `$jacocoData`, or fetches it by the
-- class's id, its name, which is the String at a place of the pool, and the number of its probes.
pub record CodeAsks (fetch : Fetch) (name : List ℕ) (b : Body) (id count text : ℕ) : Type 0 where
  pub places : InitPlaces
  pub code : b.code ≡ added_code fetch places count
  pub count_fits : count ≤ most_probes
  pub count_is : HasCount (nat_le count most_short) b.uses count places.count
  pub field_is : NamesField fetch b.uses name places.field
  pub id_is : what_used b.uses places.id ≡ Some (whats.Long (cast_signed w64 id))
  pub id_fits : id < 2 ^ 64
  pub text_is : places.name ≡ text
  pub fetch_is : what_used b.uses places.fetch ≡ Some (whats.Method runtime_class fetch_name fetch_type)

-- The code asks for these probes of the class with this name, and where the class gets the array by a constant, it has the bootstrap
-- method of that number.
pub record AsksFor (c : ClassFile) (name : List ℕ) (b : Body) (init : ProbeInit) : Type 0 where
  pub text : ℕ
  pub code : CodeAsks (fetch_of c.major) name b init.id init.count text
  pub name_is : string_of c.pool text ≡ Some name
  pub bootstrap : HasBootstrap (fetch_of c.major) c name init.bootstrap

-- ---- where such code has what it names

-- the number that an instruction pushes, as `iconst`, `bipush` or `sipush`, or the place of the constant that it loads
abbrev pub given_by : Insn → Option Counted
given_by (insns.Simple op) = if nat_le opcode.iconst_0 op && nat_le op opcode.iconst_5 then Some (counts.Pushed (op - opcode.iconst_0)) else None
given_by (insns.Push op (pos n)) = Some (counts.Pushed n)
given_by (insns.Constant place) = Some (counts.Loaded place)
given_by _ = None

abbrev pub asked_by : Option ℕ → Option ℕ → Option ℕ → Option Counted → Option ℕ → Option Asked
asked_by (Some field) (Some id) (Some name) (Some count) (Some fetch) = Some (record { field = field; id = id; name = name; count = count; fetch = fetch })
asked_by _ _ _ _ _ = None

-- The method that keeps the array in a field names places by its first, fifth, sixth and eighth instruction, and the seventh gives the
-- number.
abbrev pub asked_in_init : List Insn → Option Asked
asked_in_init (field ∷ b ∷ c ∷ d ∷ id ∷ name ∷ count ∷ fetch ∷ more) = asked_by (pool_place field) (pool_place id) (pool_place name) (given_by count) (pool_place fetch)
asked_in_init _ = None

-- The bootstrap method names them by its first, second and fourth, and the third gives the number.
abbrev pub asked_in_bootstrap : List Insn → Option Asked
asked_in_bootstrap (id ∷ name ∷ count ∷ fetch ∷ more) = asked_by (Some 0) (pool_place id) (pool_place name) (given_by count) (pool_place fetch)
asked_in_bootstrap _ = None

abbrev pub asked_in : Fetch → List Insn → Option Asked
asked_in fetches.Member code = asked_in_init code
asked_in fetches.Constant code = asked_in_bootstrap code

-- the Integer of a number that no shorter instruction pushes
abbrev pub int_above : What → Option ℕ
int_above (whats.Int (pos n)) = if nat_le n most_short then None else Some n
int_above _ = None

-- the number, pushed or loaded as instrumentation does it
abbrev pub number_in : List Use → Counted → Option ℕ
number_in uses (counts.Pushed n) = if nat_le n most_short then Some n else None
number_in uses (counts.Loaded place) = option_and_then int_above (what_used uses place)

abbrev pub loaded_place : Counted → ℕ
loaded_place (counts.Pushed n) = 0
loaded_place (counts.Loaded place) = place

-- what the code names in the pool
abbrev pub places_of : Asked → InitPlaces
places_of a = record { field = a.field; id = a.id; name = a.name; count = loaded_place a.count; fetch = a.fetch }

-- the field and the method that the code uses are those that instrumentation names
pub record NamesMembers (fetch : Fetch) (uses : List Use) (class : List ℕ) (a : Asked) : Type 0 where
  pub field_is : NamesField fetch uses class a.field
  pub fetch_is : what_used uses a.fetch ≡ Some (whats.Method runtime_class fetch_name fetch_type)

-- ---- the probes of a class

abbrev pub is_added : Fetch → Body → Bool
is_added fetch b = bytes_eq b.name init_name && bytes_eq b.desc (added_type fetch)

-- the first method with code of the name and descriptor of the added one
abbrev pub added_of : Fetch → List Body → Option Body
added_of fetch bodies = find (is_added fetch) bodies

-- that method asks for these
pub record HasInit (c : ClassFile) (name : List ℕ) (bodies : List Body) (init : ProbeInit) : Type 0 where
  pub body : Body
  pub first : added_of (fetch_of c.major) bodies ≡ Some body
  pub asks : AsksFor c name body init

-- what the class's `$jacocoInit` asks for, if it has one that asks
abbrev pub AreProbes : ClassFile → List ℕ → List Body → Option ProbeInit → Type 0
AreProbes c name bodies None = (init : ProbeInit) → HasInit c name bodies init → ⊥
AreProbes c name bodies (Some init) = HasInit c name bodies init
