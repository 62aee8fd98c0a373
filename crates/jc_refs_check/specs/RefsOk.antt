-- The reference check of a program: each reference suits what takes it, at each instruction of each body that threads may enter. The
-- kind check (JVM Specification 4.10.1) doesn't compare classes; this does.
use Rattle.std.specs.Prelude.{◌≡◌, ◌⊎◌, ℕ, ◌<◌, Bool, true, List, [], ◌∷◌, length, reverse, Option, Some, IsTrue, slice_get, slice_index_or, Contains}
use Rattle.jc_methods.specs.declared.body.Body.{Body}
use Rattle.jc_methods.specs.declared.body.Handler.{Handler}
use Rattle.jc_methods.specs.EntryState.{entry_of}
use Rattle.jc_methods.specs.VerificationTypes.{Names, VerificationType, TypeState}
use Rattle.jc_methods.specs.VerificationTypes as verification
use Rattle.jc_programs.specs.declared.program.Program.{Program}
use Rattle.jc_programs.specs.declared.program.Linked.{Linked}
use Rattle.jc_programs.specs.declared.run_end.Entry.{Entry}
use Rattle.jc_programs.specs.Members.{class_at}
use Rattle.jc_kinds.specs.States.{state_of, after_at}
use Rattle.jc_kinds.specs.Checked.{LeadsTo, Guards, caught}
use Rattle.jc_machine_model.specs.Methods.{is_enterable}
use Rattle.jc_machine_model.specs.Operations.{Operation}
use Rattle.jc_machine_model.specs.Step.{located, operation_at}
use Rattle.jc_machine_model.specs.Fits.{made_in}
use Rattle.jc_kinds.specs.Flows.{EachBy, ThereBy}
use Rattle.jc_refs_check.specs.Suits.{class_suits, SuitsAsReference}
use Rattle.jc_refs_check.specs.Needs.{Need, needs_of}

-- ---- operands

-- null will do, and an object whose class does
abbrev pub is_taken : Body → Need → VerificationType → Bool
is_taken b n verification.null = true
is_taken b n (verification.object name) = n.takes name
is_taken b n (verification.uninit at) = n.fresh (made_in b at)
is_taken b n verification.uninit_this = n.fresh []
is_taken b n h = true

-- the operand under so many others; the top one is the last of the types
abbrev pub operand : ℕ → List VerificationType → VerificationType
operand above stack = slice_index_or (reverse stack) above verification.top

abbrev pub operation_of_place : Program → Entry → ℕ → Operation
operation_of_place program method i = operation_at program (located program method i)

-- (1) each reference that the instruction takes is one that it needs (JVM Specification 6.5)
abbrev pub OperandsSuit : Program → Entry → Body → ℕ → TypeState → Type 0
OperandsSuit program method b i s =
    (n : Need) → Contains (needs_of (operation_of_place program method i)) n → is_taken b n (operand n.above s.stack) ≡ true

-- ---- where control goes on

-- (2) what is left suits the state where each branch leads (JVM Specification 4.10.1.4, 4.10.1.6)
abbrev pub BranchesSuit : Names → Body → ℕ → Type 0
BranchesSuit names b i = (j : ℕ) → LeadsTo b i j → ThereBy SuitsAsReference (after_at names b i) (state_of names b j)

-- the one entry is what is caught, or a class that it suits
abbrev pub TakesCaught : VerificationType → List VerificationType → Type 0
TakesCaught (verification.object name) (verification.object other ∷ []) = class_suits name other ≡ true
TakesCaught _ _ = ⊥

-- a handler takes the local variables before the instruction, and what is caught
abbrev pub HandlerSuits : Body → Handler → Option TypeState → Option TypeState → Type 0
HandlerSuits b h (Some s) (Some t) = EachBy SuitsAsReference s.locals t.locals × TakesCaught (caught b h) t.stack
HandlerSuits b h _ _ = ⊥

-- (3) each handler that guards the instruction does so (JVM Specification 4.10.1.6)
abbrev pub HandlersSuit : Names → Body → ℕ → Type 0
HandlersSuit names b i = (h : Handler) → Guards b h i → HandlerSuits b h (state_of names b i) (state_of names b h.target)

-- (4) the state in which the method begins suits that before its first instruction (JVM Specification 4.10.1.6)
abbrev pub EntrySuits : Names → Body → ℕ → Type 0
EntrySuits names b i = i ≡ 0 → ThereBy SuitsAsReference (Some (entry_of b)) (state_of names b 0)

-- ---- the check

pub record IsSuited (program : Program) (method : Entry) (b : Body) (i : ℕ) : Type 0 where
  pub operands : (s : TypeState) → state_of program.names b i ≡ Some s → OperandsSuit program method b i s
  pub branches : BranchesSuit program.names b i
  pub handlers : HandlersSuit program.names b i
  pub entry : EntrySuits program.names b i

-- an instruction of a body that threads may enter
pub record IsEntered (program : Program) (method : Entry) (b : Body) (i : ℕ) : Type 0 where
  pub linked : Linked
  pub class_is : class_at program method.class ≡ Some linked
  pub body_is : slice_get linked.bodies method.method ≡ Some b
  pub enterable : IsTrue (is_enterable linked b)
  pub within : i < length b.code

abbrev pub RefsOk : Program → Type 0
RefsOk program = (method : Entry) (b : Body) (i : ℕ) → IsEntered program method b i → IsSuited program method b i

-- ---- the first that fails

-- the one instruction stands before the other, in the order of classes, bodies and instructions
abbrev pub StandsBefore : Entry → ℕ → Entry → ℕ → Type 0
StandsBefore m i n j = (m.class < n.class) ⊎ ((m.class ≡ n.class) × ((m.method < n.method) ⊎ ((m.method ≡ n.method) × (i < j))))

pub record FirstRefFault (program : Program) (method : Entry) (b : Body) (i : ℕ) : Type 0 where
  pub entered : IsEntered program method b i
  pub fails : IsSuited program method b i → ⊥
  pub before : (m : Entry) (c : Body) (j : ℕ) → IsEntered program m c j → StandsBefore m j method i → IsSuited program m c j
