-- The simulation relation, in terms of the two programs: worlds that look the same, and what the twin's world has more.
use Rattle.std.specs.Prelude.{◌≡◌, ⊤, ℕ, zero, suc, ◌≤◌, pos, Bool, true, false, List, [], ◌∷◌, Option, Some, None, nat_lt, slice_get}
use Rattle.std.specs.List.{AllByRecursion}
use Rattle.jc_methods.specs.declared.insn.Insn.{Insn}
use Rattle.jc_methods.specs.declared.insn.Insn.TheVariants as insns
use Rattle.jc_methods.specs.declared.body.Body.{Body}
use Rattle.jc_methods.specs.declared.body.Use.{Use}
use Rattle.jc_methods.specs.ProbeMembers.{fetch_of}
use Rattle.jc_programs.specs.declared.program.Program.{Program}
use Rattle.jc_programs.specs.declared.program.Linked.{Linked}
use Rattle.jc_programs.specs.declared.program.ProbeInit.{ProbeInit}
use Rattle.jc_programs.specs.declared.run_end.Entry.{Entry}
use Rattle.jc_programs.specs.Members.{class_at, body_of}
use Rattle.jc_programs.specs.declared.run_plan.Case.{Case}
use Rattle.jc_programs.specs.Entries.{AreEntries}
use Rattle.jc_emit.specs.Marks.{Marks, Pushes, prelude_size}
use Rattle.jc_twin_programs.specs.TwinProgram.{TwinProgram}
use Rattle.jc_machine_model.specs.Values.{Value, int, probes}
use Rattle.jc_machine_model.specs.World.{Frame, Thread, running, World}
use Rattle.jc_machine_model.specs.Fits.{FitsWorld}
use Rattle.jc_machine_model.specs.Step.{is_init_method, step}
use Rattle.jc_machine_model.specs.Begin.{begin_case}
use Rattle.jc_twin_simulation.specs.Marking.{AreMarks}
use Rattle.jc_twin_simulation.specs.Kept.{is_kept, step_if}
use Rattle.jc_twin_simulation.specs.Same.{array_slot, is_data, static_in, Same}
use Rattle.jc_twin_simulation.specs.Sides.{count_in}
use Rattle.jc_twin_simulation.specs.Beside.{null_or, InitStep, step_place, step_stack}

-- how many probes a class has
abbrev pub count_of : Option Linked → ℕ
count_of None = 0
count_of (Some c) = count_in c.probes

-- the probe array of a class
abbrev pub array_in : Program → ℕ → Value
array_in p' class = probes class (count_of (class_at p' class))

-- ---- what was pushed

-- Behind an instruction of a probe the value lies on the stack: the probe array, which was loaded, or a number.
abbrev pub IsPushedBy : List Use → (array : Value) → Insn → Value → Type 0
IsPushedBy uses array (insns.Local op slot) v = v ≡ array
IsPushedBy uses array insn v = (n : ℕ) × Pushes uses insn n × (v ≡ int (pos n))

-- Behind each instruction of the prelude it is the probe array.
abbrev pub IsPushedIn : (in_prelude : Bool) → List Use → (array : Value) → Insn → Value → Type 0
IsPushedIn true uses array insn v = v ≡ array
IsPushedIn false uses array insn v = IsPushedBy uses array insn v

-- So many values on top of the stack are what the instructions directly in front of q of a body have pushed, whose prelude has so
-- many instructions.
abbrev pub ArePushed : (prelude : ℕ) → (array : Value) → Body → (q extra : ℕ) → List Value → Type 0
ArePushed prelude array b q zero stack = ⊤
ArePushed prelude array b q (suc n) [] = ⊥
ArePushed prelude array b q (suc n) (v ∷ stack) =
    (r : ℕ) × (insn : Insn) × (q ≡ suc r) × (slice_get b.code r ≡ Some insn) × IsPushedIn (nat_lt r prelude) b.uses array insn v
    × ArePushed prelude array b r n stack

-- how many instructions the preludes of a class have, by its version
abbrev pub prelude_in : Option Linked → ℕ
prelude_in None = 0
prelude_in (Some c) = prelude_size (fetch_of c.version)

abbrev pub prelude_of : Program → ℕ → ℕ
prelude_of p' class = prelude_in (class_at p' class)

module _ (p' : Program) (marks : Entry → Marks) where
  -- ---- frames

  -- behind the prelude local variable v holds the probe array
  abbrev pub KeepsArray : Frame → (v : ℕ) → Type 0
  KeepsArray f' v = prelude_of p' f'.method.class ≤ f'.place → slice_get f'.locals v ≡ Some (Some (array_in p' f'.method.class))

  -- of a method that isn't `$jacocoInit`
  pub record HasProbeState (f' : Frame) : Type 0 where
    pub pushed : (b : Body) (extra : ℕ) → body_of p' f'.method ≡ Some b → slice_get (marks f'.method).extra f'.place ≡ Some extra
        → ArePushed (prelude_of p' f'.method.class) (array_in p' f'.method.class) b f'.place extra f'.stack
    pub array : (v : ℕ) → array_slot p' f'.method ≡ Some v → KeepsArray f' v

  -- a frame of `$jacocoInit` has the stack that its code has made
  pub record HasInitState (f' : Frame) : Type 0 where
    pub class : Linked
    pub class_is : class_at p' f'.method.class ≡ Some class
    pub init : ProbeInit
    pub has : class.probes ≡ Some init
    pub step : InitStep
    pub place : f'.place ≡ step_place step
    pub stack : f'.stack ≡ step_stack f'.method.class init step

  abbrev pub HasTopState : Bool → Frame → Type 0
  HasTopState true f' = HasInitState f'
  HasTopState false f' = HasProbeState f'

  abbrev pub HasState : Thread → Type 0
  HasState (running f' waiting) = HasTopState (is_init_method p' f'.method) f' × AllByRecursion HasProbeState waiting
  HasState _ = ⊤

-- The worlds look the same. Each `$jacocoData` holds null or the probe array of its class, and each frame of the twin has what the
-- prelude, a probe or `$jacocoInit` has made.
pub record Mid (p p' : Program) (marks : Entry → Marks) (w w' : World) : Type 0 where
  pub same : Same p' marks w w'
  pub arrays : (class field : ℕ) → is_data p' class field ≡ true
      → (found : Bool) × (static_in w' class field ≡ Some (null_or found (array_in p' class)))
  pub threads : AllByRecursion (HasState p' marks) w'.threads

-- ---- turns

-- each case begins in such worlds
abbrev pub BeginsInMid : (before after : Program) → Type 0
BeginsInMid before after =
    (marks : Entry → Marks) → TwinProgram before after → AreMarks before after marks → (case : Case) (entries : List Entry)
    → AreEntries before case.threads entries → Mid before after marks (begin_case before case) (begin_case after case)

-- A kept turn is one of both worlds, and another one is a turn of the twin's world alone. Worlds that fit and are in the
-- relation are so behind it.
abbrev pub OneTurn : (before after : Program) → Type 0
OneTurn before after =
    (marks : Entry → Marks) → TwinProgram before after → AreMarks before after marks → (w w' : World) (t : ℕ) → FitsWorld before w
    → FitsWorld after w' → Mid before after marks w w'
    → Mid before after marks (step_if (is_kept after marks w' t) before w t) (step after w' t)

abbrev pub EachBeginsInMid : Type 0
EachBeginsInMid = (before after : Program) → BeginsInMid before after

abbrev pub EachTurnKeeps : Type 0
EachTurnKeeps = (before after : Program) → OneTurn before after
