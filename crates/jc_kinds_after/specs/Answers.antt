-- What the calls of this crate ask for and answer.
use Rattle.std.specs.Prelude.{◌≡◌, ℕ, ◌++◌, length, Option, All, option_map}
use Rattle.jc_methods.specs.declared.kind.State.{State}
use Rattle.jc_methods.specs.declared.body.Body.{Body}
use Rattle.jc_methods.specs.WellMade.{IsKind, IsState}
use Rattle.jc_methods.specs.VerificationTypes.{Names, type_state, IsNumberedState}
use Rattle.jc_kinds_after.specs.After.{after_of}

-- A state of a body: it has each local variable, its objects before their constructors come from a `new` of the
-- body, and its classes are among so many names.
pub record IsStateOf (count : ℕ) (b : Body) (s : State) : Type 0 where
  pub locals : length s.locals ≡ b.max_locals
  pub local_kinds : All (IsKind b.code) s.locals
  pub stack_kinds : All (IsKind b.code) s.stack
  pub numbered : IsNumberedState count s

-- the state is well made: also each long and each double has its two local variables, and the stack has its slots
abbrev pub IsWhole : Body → State → Type 0
IsWhole b s = IsState b.code b.max_locals b.max_stack s

-- the state after an instruction, by the names afterwards, or none where there is none
abbrev pub LeavesState : Names → Names → Body → ℕ → State → Option State → Type 0
LeavesState old new b i before after = option_map (type_state new) after ≡ after_of b i (type_state old before)

-- the same, also when more names are numbered
abbrev pub LeavesAlways : Names → Names → Body → ℕ → State → Option State → Type 0
LeavesAlways old new b i before after = (more : Names) → option_map (type_state (new ++ more)) after ≡ after_of b i (type_state old before)
