-- What is given of an instrumented method's code that was written.
use Rattle.std.specs.Prelude.{◌≡◌, ⊤, ℕ, ◌<◌, ◌≤◌, List, [], ◌∷◌, length, Some, codes}
use Rattle.std.specs.List.{AllByRecursion}
use Rattle.jc_methods.specs.VerificationTypes.{Names, TypeStateAt}
use Rattle.jc_methods.specs.declared.body.Body.{Body}
use Rattle.jc_methods.specs.declared.body.VarAt.{VarAt}
use Rattle.jc_methods.specs.declared.emitted.Emitted.{Emitted}
use Rattle.jc_methods.specs.declared.kind.State.{State}
use Rattle.jc_methods.specs.declared.probe_members.Fetch.{Fetch}
use Rattle.jc_pool.specs.Lookup.{utf8_of}
use Rattle.jc_pool.specs.Pool.{PoolValue}
use Rattle.jc_insn.specs.Spells.{Spells}
use Rattle.jc_emit.specs.Emission.{Emitting, emission}
use Rattle.jc_layout.specs.LaidBody.{readied}
use Rattle.jc_layout.specs.Layout.{laid_code, laid_starts, chosen_list, chosen_starts, chosen_text, chosen_length}
use Rattle.jc_instrument_code.specs.declared.code.CodePlaces.{CodePlaces}
use Rattle.jc_instrument_code.specs.Given.{AreNamed}
use Rattle.jc_instrument_code.specs.TwinCode.{twin_code, written_frames}

-- What is written of a body: its emission, ready for its layout, where what gives the array of probes stands at this place of the pool.
abbrev pub ready_emission : Body → (first : ℕ) → List State → Emitting → (giver : ℕ) → Emitted
ready_emission b first states given giver = readied given.fetch giver (emission b first states given)

-- the places that the entry of a table of variables names are numbers of two bytes (JVM Specification 4.7.13)
pub record IsShortVar (x : VarAt) : Type 0 where
  pub name : x.name < 65536
  pub desc : x.desc < 65536

-- the numbers of the tables that instrumentation keeps are numbers of two bytes (JVM Specification 4.7.3, 4.7.12 to 4.7.14)
pub record HasShortNumbers (e : Emitted) : Type 0 where
  pub classes : AllByRecursion (λ h. h.class < 65536) e.handlers
  pub lines : AllByRecursion (λ l. l.line < 65536) e.lines
  pub vars : AllByRecursion IsShortVar e.vars
  pub kind_vars : AllByRecursion IsShortVar e.kind_vars

-- the name of the StackMapTable attribute (JVM Specification 4.7.4)
abbrev pub frames_name : List ℕ
frames_name = codes "StackMapTable"

-- it stands at this place, where there are frames
abbrev pub IsFramesName : PoolValue → List TypeStateAt → (place : ℕ) → Type 0
IsFramesName pool [] place = ⊤
IsFramesName pool (f ∷ frames) place = utf8_of pool place ≡ Some frames_name

-- Of code that is ready for its layout: the names of its attributes stand at these places of the pool, the places of what its prelude
-- names are numbers of two bytes, its layout spells the code, and each count and length fits into its bytes (JVM Specification 4.7.3).
pub record IsWrittenCode (pool : PoolValue) (fetch : Fetch) (places : CodePlaces) (names : Names) (e : Emitted) : Type 0 where
  pub named : AreNamed pool e places
  pub frames_named : IsFramesName pool (written_frames names e) places.frames
  pub pool_few : length pool ≤ 65535
  pub giver : places.giver < 65536
  pub array : places.array < 65536
  pub stack : e.max_stack ≤ 65535
  pub locals : e.max_locals ≤ 65535
  pub rows : length e.handlers ≤ 65535
  pub numbers : HasShortNumbers e
  pub few : chosen_length e.code ≤ 65535
  pub spelled : Spells (chosen_text e.code) (laid_code (chosen_list e.code) e.code) (laid_starts (chosen_list e.code) e.code (chosen_starts e.code))
  pub size : length (twin_code pool fetch places.giver places.array places.frames names e) ≤ 4294967295
