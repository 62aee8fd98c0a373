-- Worlds of a program and of its twin that stand beside each other: their frames are told by the two bodies of each method and by what
-- the twin is made of. Each turn keeps it.
use Rattle.std.specs.Prelude.{◌≡◌, ◌⊎◌, ℕ, suc, ◌+◌, ◌≤◌, pos, Bool, true, false, List, [], ◌∷◌, ◌++◌, length, Option, Some, None, insert, if◌then◌else◌, ⊤, slice_get, slice_index_or, bytes_eq}
use Rattle.std.specs.Int.{w64, cast_signed}
use Rattle.std.specs.List.{list_any}
use Rattle.jc_methods.specs.ProbeMembers.{data_name}
use Rattle.jc_methods.specs.declared.probe_members.Fetch.TheVariants as fetches
use Rattle.jc_methods.specs.declared.insn.Insn.{Insn}
use Rattle.jc_programs.specs.declared.program.Program.{Program}
use Rattle.jc_programs.specs.declared.program.Linked.{Linked}
use Rattle.jc_programs.specs.declared.program.ProbeInit.{ProbeInit}
use Rattle.jc_programs.specs.declared.program.StaticField.{StaticField}
use Rattle.jc_programs.specs.declared.run_end.Entry.{Entry}
use Rattle.jc_programs.specs.Members.{class_at}
use Rattle.jc_emit.specs.Items.{Item, start, image, probe_id, probe_one, probe_store, at_of}
use Rattle.jc_emit.specs.Local.{IsBehind}
use Rattle.jc_machine_model.specs.Values.{Value, int, long, null, probes, text}
use Rattle.jc_machine_model.specs.World.{Frame, Thread, running, returned, threw, stuck, Shared, World}
use Rattle.jc_machine_model.specs.Locals.{is_pair_there}
use Rattle.jc_twin_simulation.specs.Sides.{Side, count_in, array_of, GoesOnAt, IsSide}

-- ---- frames

-- what the prelude or a probe has pushed in front of an item
abbrev pub pushed_of : (array : Value) → Item → List Value
pushed_of array (start fetch (suc k)) = array ∷ []
pushed_of array (probe_id id at late) = array ∷ []
pushed_of array (probe_one id at late) = int (pos id) ∷ array ∷ []
pushed_of array (probe_store id at late) = int (pos 1) ∷ int (pos id) ∷ array ∷ []
pushed_of array _ = []

-- The local variables of the twin are those of the method with one more, which holds the probe array behind the prelude. No
-- long begins right in front of it.
pub record HasArray (array : Value) (v : ℕ) (ls ls' : List (Option Value)) (item : Item) : Type 0 where
  pub room : v ≤ length ls
  pub held : Option Value
  pub around : ls' ≡ insert ls v held
  pub ready : IsBehind item → held ≡ Some array
  pub apart : (k : ℕ) → v ≡ suc k → is_pair_there (slice_index_or ls k None) ≡ false

abbrev pub SameLocals : (array : Value) → Option ℕ → (ls ls' : List (Option Value)) → Item → Type 0
SameLocals array None ls ls' item = ls' ≡ ls
SameLocals array (Some v) ls ls' item = HasArray array v ls ls' item

-- ---- `$jacocoInit`

-- where a frame of it stands, and whether it found the array
pub data InitStep : Type 0 where
  reads_field : InitStep
  doubles : (found : Bool) → InitStep
  asks_null : (found : Bool) → InitStep
  clears : InitStep
  wants_id : InitStep
  wants_text : InitStep
  wants_count : InitStep
  fetches_array : InitStep
  keeps_array : InitStep
  writes_field : InitStep
  gives_back : InitStep

abbrev pub step_place : InitStep → ℕ
step_place reads_field = 0
step_place (doubles found) = 1
step_place (asks_null found) = 2
step_place clears = 3
step_place wants_id = 4
step_place wants_text = 5
step_place wants_count = 6
step_place fetches_array = 7
step_place keeps_array = 8
step_place writes_field = 9
step_place gives_back = 10

-- null, or the probe array
abbrev pub null_or : Bool → Value → Value
null_or false array = null
null_or true array = array

-- the stack that its code has made
abbrev pub step_stack : (class : ℕ) → ProbeInit → InitStep → List Value
step_stack class init reads_field = []
step_stack class init (doubles found) = null_or found (probes class init.count) ∷ []
step_stack class init (asks_null found) = null_or found (probes class init.count) ∷ null_or found (probes class init.count) ∷ []
step_stack class init clears = null ∷ []
step_stack class init wants_id = []
step_stack class init wants_text = long (cast_signed w64 init.id) ∷ []
step_stack class init wants_count = text class ∷ long (cast_signed w64 init.id) ∷ []
step_stack class init fetches_array = int (pos init.count) ∷ text class ∷ long (cast_signed w64 init.id) ∷ []
step_stack class init keeps_array = probes class init.count ∷ []
step_stack class init writes_field = probes class init.count ∷ probes class init.count ∷ []
step_stack class init gives_back = probes class init.count ∷ []

-- ---- static fields

-- the class has a field that keeps its probe array
abbrev pub has_data : Linked → Bool
has_data c = list_any (λ (f : StaticField). bytes_eq f.name data_name) c.statics

-- how many probes a class has that keeps its array in a field
abbrev pub extra_in : Option Linked → Option ℕ
extra_in None = None
extra_in (Some c) = if has_data c then Some (count_in c.probes) else None

-- such a class has one static field more than the original, which holds null or its probe array
abbrev pub SameStatics : Option ℕ → (class : ℕ) → List Value → List Value → Type 0
SameStatics None class xs xs' = xs' ≡ xs
SameStatics (Some count) class xs xs' = (found : Bool) × (xs' ≡ xs ++ (null_or found (probes class count) ∷ []))

abbrev pub values_of : Shared → ℕ → List Value
values_of s class = slice_index_or s.statics class []

module _ (p p' : Program) (sides : Entry → Side) where
  -- the two are frames of one method, which a thread may enter
  pub record OneMethod (f f' : Frame) : Type 0 where
    pub method : f'.method ≡ f.method
    pub side : IsSide p p' f.method (sides f.method)
    pub entered : (sides f.method).class.has_clinit ≡ false

  pub record SameFrame (f f' : Frame) : Type 0 where
    pub one : OneMethod f f'
    pub item : Item
    pub here : slice_get (sides f.method).items f'.place ≡ Some item
    pub at : at_of item ≡ f.place
    pub stack : f'.stack ≡ pushed_of (array_of (sides f.method) f.method.class) item ++ f.stack
    pub locals : SameLocals (array_of (sides f.method) f.method.class) (sides f.method).slot f.locals f'.locals item

  -- a frame that waits stands at the image of a call, behind which both go on
  pub record SameWait (f f' : Frame) : Type 0 where
    pub one : OneMethod f f'
    pub insn : Insn
    pub early : Option ℕ
    pub here : slice_get (sides f.method).items f'.place ≡ Some (image insn f.place early)
    pub next : GoesOnAt (sides f.method) (f'.place + 1) (f.place + 1)
    pub stack : f'.stack ≡ f.stack
    pub locals : SameLocals (array_of (sides f.method) f.method.class) (sides f.method).slot f.locals f'.locals (image insn f.place early)

  abbrev pub SameWaits : List Frame → List Frame → Type 0
  SameWaits [] [] = ⊤
  SameWaits (f ∷ fs) (f' ∷ fs') = SameWait f f' × SameWaits fs fs'
  SameWaits [] (f' ∷ fs') = ⊥
  SameWaits (f ∷ fs) [] = ⊥

  -- ---- `$jacocoInit`

  -- the added method of a class
  abbrev pub init_method : Entry → Entry
  init_method method = record { class = method.class; method = length (sides method).class.bodies }

  -- a frame of `$jacocoInit` on top of a frame that stands at the prelude's call
  pub record Inside (f : Frame) (fs : List Frame) (f' : Frame) (fs' : List Frame) : Type 0 where
    pub below : Frame
    pub rest : List Frame
    pub waiting : fs' ≡ below ∷ rest
    pub base : SameFrame f below
    pub at_call : base.item ≡ start fetches.Member 0
    pub waits : SameWaits fs rest
    pub method : f'.method ≡ init_method f.method
    pub init : ProbeInit
    pub has : (sides f.method).new.probes ≡ Some init
    pub step : InitStep
    pub place : f'.place ≡ step_place step
    pub stack : f'.stack ≡ step_stack f.method.class init step

  -- ---- static fields

  pub record SameShared (s s' : Shared) : Type 0 where
    pub heap : s'.heap ≡ s.heap
    pub output : s'.output ≡ s.output
    pub raised : s'.raised ≡ s.raised
    pub statics : (class : ℕ) → SameStatics (extra_in (class_at p' class)) class (values_of s class) (values_of s' class)
    pub counts : (class : ℕ) (c : Linked) → class_at p class ≡ Some c → length (values_of s class) ≡ length c.statics

  -- ---- threads

  pub record SameStuck (method : Entry) (place : ℕ) (method' : Entry) (place' : ℕ) : Type 0 where
    pub same : method' ≡ method
    pub side : IsSide p p' method (sides method)
    pub item : Item
    pub here : slice_get (sides method).items place' ≡ Some item
    pub at : at_of item ≡ place

  abbrev pub SameThread : Thread → Thread → Type 0
  SameThread (running f fs) (running f' fs') = (SameFrame f f' × SameWaits fs fs') ⊎ Inside f fs f' fs'
  SameThread (returned v) (returned v') = v' ≡ v
  SameThread (threw c) (threw c') = c' ≡ c
  SameThread (stuck m q) (stuck m' q') = SameStuck m q m' q'
  SameThread _ _ = ⊥

  abbrev pub SameThreads : List Thread → List Thread → Type 0
  SameThreads [] [] = ⊤
  SameThreads (x ∷ xs) (x' ∷ xs') = SameThread x x' × SameThreads xs xs'
  SameThreads [] (x' ∷ xs') = ⊥
  SameThreads (x ∷ xs) [] = ⊥

  pub record Beside (w w' : World) : Type 0 where
    pub shared : SameShared w.shared w'.shared
    pub threads : SameThreads w.threads w'.threads
