-- What an instruction is, by what it does to the flow of control: a jump, a switch, or one that leads nowhere.
use Rattle.std.proofs.Common.{◌≡◌, ℕ, Bool, true, false, cond, nat_eq, [], ◌∷◌, refl, subst}
use Rattle.std.specs.Prelude.{⊤}
use Rattle.jc_methods.specs.Flow.{flow_of, is_return, targets_of, jump_target}
use Rattle.jc_methods.specs.Insn.{with_places}
use Rattle.jc_methods.specs.InsnUse.{locals_of}
use Rattle.jc_methods.specs.Widened.{inverted}
use Rattle.jc_methods.specs.declared.insn.Insn.{Insn}
use Rattle.jc_methods.specs.declared.insn.Insn.TheVariants as insns
use Rattle.jc_methods.specs.declared.insn.Flow.{Flow}
use Rattle.jc_methods.specs.declared.insn.Flow.TheVariants as flows

abbrev pub IsJump : Insn → Type 0
IsJump (insns.Jump op to) = ⊤
IsJump _ = ⊥

abbrev pub IsSwitch : Insn → Type 0
IsSwitch (insns.Table low default arms) = ⊤
IsSwitch (insns.Lookup default arms) = ⊤
IsSwitch _ = ⊥

-- it is neither
abbrev pub LeadsNowhere : Insn → Type 0
LeadsNowhere (insns.Jump op to) = ⊥
LeadsNowhere (insns.Table low default arms) = ⊥
LeadsNowhere (insns.Lookup default arms) = ⊥
LeadsNowhere _ = ⊤

abbrev pub IsBy : Flow → Insn → Type 0
IsBy flows.Branches insn = IsJump insn
IsBy flows.Jumps insn = IsJump insn
IsBy flows.Switches insn = IsSwitch insn
IsBy _ insn = LeadsNowhere insn

is_by : (insn : Insn) → IsBy (flow_of insn) insn
is_by (insns.Simple op) = by (is_return op) (nat_eq op 191)
  where
    by : (returns throws : Bool) → IsBy (cond returns flows.Returns (cond throws flows.Throws flows.GoesOn)) (insns.Simple op)
    by true throws = tt
    by false true = tt
    by false false = tt
is_by (insns.Jump op to) = by (nat_eq op 167)
  where
    by : (jumps : Bool) → IsBy (cond jumps flows.Jumps flows.Branches) (insns.Jump op to)
    by true = tt
    by false = tt
is_by insn = tt

-- An instruction of this flow is what the flow says. Of another instruction it is what refutes the flow.
pub insn_by : {flow : Flow} (insn : Insn) → flow_of insn ≡ flow → IsBy flow insn
insn_by insn e = subst (λ flow. IsBy flow insn) e (is_by insn)

-- ---- jumps

pub record IsJumpOf (insn : Insn) : Type 0 where
  pub op : ℕ
  pub to : ℕ
  pub is : insn ≡ insns.Jump op to

pub jump_is : (insn : Insn) → IsJump insn → IsJumpOf insn
jump_is (insns.Jump op to) jump = record { op = op; to = to; is = refl }
jump_is insn jump = absurd jump

-- a jump leads to one place
pub jump_targets : (insn : Insn) → IsJump insn → targets_of insn ≡ jump_target insn ∷ []
jump_targets (insns.Jump op to) jump = refl
jump_targets insn jump = absurd jump

pub jump_placed : (f : ℕ → ℕ) (insn : Insn) → IsJump insn → with_places f insn ≡ with_places (λ to. f (jump_target insn)) insn
jump_placed f (insns.Jump op to) jump = refl
jump_placed f insn jump = absurd jump

-- ---- what leads nowhere

pub nowhere_targets : (insn : Insn) → LeadsNowhere insn → targets_of insn ≡ []
nowhere_targets (insns.Jump op to) nowhere = absurd nowhere
nowhere_targets (insns.Table low default arms) nowhere = absurd nowhere
nowhere_targets (insns.Lookup default arms) nowhere = absurd nowhere
nowhere_targets insn nowhere = refl

pub nowhere_placed : (f : ℕ → ℕ) (insn : Insn) → LeadsNowhere insn → with_places f insn ≡ insn
nowhere_placed f (insns.Jump op to) nowhere = absurd nowhere
nowhere_placed f (insns.Table low default arms) nowhere = absurd nowhere
nowhere_placed f (insns.Lookup default arms) nowhere = absurd nowhere
nowhere_placed f insn nowhere = refl

-- ---- inverses

pub locals_inverted : (to : ℕ) (insn : Insn) → locals_of (inverted to insn) ≡ locals_of insn
locals_inverted to (insns.Jump op other) = refl
locals_inverted to insn = refl
