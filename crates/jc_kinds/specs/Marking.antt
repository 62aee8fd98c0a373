-- MarksWhere at instructions that need a frame.
use Rattle.std.specs.Prelude.{◌≡◌, ℕ, ◌<◌, Bool, false, ◌||◌, List, length, nat_eq, slice_index_or}
use Rattle.std.specs.List.{list_any}
use Rattle.jc_methods.specs.declared.insn.Insn.{Insn}
use Rattle.jc_methods.specs.declared.body.Handler.{Handler}
use Rattle.jc_methods.specs.declared.body.Body.{Body}
use Rattle.jc_methods.specs.Flow.{targets_of}
use Rattle.jc_kinds.specs.Checking.{is_jump_target, is_handler_target}

abbrev pub is_marked : List Bool → ℕ → Bool
is_marked marks j = slice_index_or marks j false

-- the places that pass the test are marked beside those that were
pub record MarksWhere (old new : List Bool) (test : ℕ → Bool) : Type 0 where
  pub size : length new ≡ length old
  pub each : (j : ℕ) → j < length old → is_marked new j ≡ (is_marked old j || test j)

abbrev pub is_among : List ℕ → ℕ → Bool
is_among places j = list_any (nat_eq j) places

-- some of the instructions may jump there
abbrev pub leads_to : List Insn → ℕ → Bool
leads_to code j = list_any (λ insn. is_among (targets_of insn) j) code

-- some of the rows have their handler there
abbrev pub begins_handler : List Handler → ℕ → Bool
begins_handler handlers j = list_any (λ h. nat_eq h.target j) handlers

-- the marks are at the targets of jumps, of switches and of exception rows
pub record AreTargets (b : Body) (marks : List Bool) : Type 0 where
  pub size : length marks ≡ length b.code
  pub each : (j : ℕ) → j < length b.code → is_marked marks j ≡ (is_jump_target b j || is_handler_target b j)
