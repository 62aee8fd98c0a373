-- The kind check as tests, one for each part of its definition.
use Rattle.std.specs.Prelude.{ℕ, zero, suc, ◌+◌, Bool, not, ◌&&◌, ◌||◌, List, [], ◌∷◌, length, Option, Some, None, is_some, nat_eq, nat_le, nat_lt, if◌then◌else◌}
use Rattle.std.specs.List.{list_any}
use Rattle.jc_methods.specs.declared.insn.Insn.{Insn}
use Rattle.jc_methods.specs.declared.body.Handler.{Handler}
use Rattle.jc_methods.specs.declared.body.Body.{Body}
use Rattle.jc_methods.specs.Flow.{targets_of, falls_at, is_fallen_into}
use Rattle.jc_methods.specs.VerificationTypes.{Names}
use Rattle.jc_methods.specs.EntryState.{entry_of}
use Rattle.jc_kinds_after.specs.After.{insn_at}
use Rattle.jc_kinds.specs.Fits.{fits_there}
use Rattle.jc_kinds.specs.States.{state_of, after_at}
use Rattle.jc_kinds.specs.Checked.{at_handler}

-- ---- where control goes

abbrev pub targets_at : Option Insn → List ℕ
targets_at None = []
targets_at (Some insn) = targets_of insn

abbrev pub branches : Option Insn → ℕ → List ℕ
branches insn i = if falls_at insn then (i + 1) ∷ targets_at insn else targets_at insn

abbrev pub guards : Handler → ℕ → Bool
guards h i = nat_le h.start i && nat_lt i h.end

-- ---- frames

abbrev pub has_frame : Body → ℕ → Bool
has_frame b i = list_any (λ f. nat_eq f.at i) b.frames

abbrev pub is_jump_target : Body → ℕ → Bool
is_jump_target b j = list_any (λ insn. list_any (nat_eq j) (targets_of insn)) b.code

abbrev pub is_handler_target : Body → ℕ → Bool
is_handler_target b j = list_any (λ h. nat_eq h.target j) b.handlers

abbrev pub needs_frame : Body → ℕ → Bool
needs_frame b j = is_jump_target b j || (is_handler_target b j || (not (nat_eq j 0) && not (is_fallen_into b.code j)))

abbrev pub is_missing : Body → ℕ → Bool
is_missing b i = needs_frame b i && not (has_frame b i)

-- ---- states

abbrev pub entry_clash : Names → Body → ℕ → Bool
entry_clash names b i = nat_eq i 0 && not (fits_there (Some (entry_of b)) (state_of names b 0))

abbrev pub no_after : Names → Body → ℕ → Bool
no_after names b i = not (is_some (after_at names b i))

abbrev pub branch_clash : Names → Body → ℕ → Bool
branch_clash names b i = list_any (λ j. not (fits_there (after_at names b i) (state_of names b j))) (branches (insn_at b i) i)

abbrev pub handler_clash : Names → Body → ℕ → Bool
handler_clash names b i = list_any (λ h. guards h i && not (fits_there (at_handler b h (state_of names b i)) (state_of names b h.target))) b.handlers

abbrev pub is_clash : Names → Body → ℕ → Bool
is_clash names b i = entry_clash names b i || (no_after names b i || (branch_clash names b i || handler_clash names b i))

-- ---- the first place

-- the first of the n numbers from here on that passes
abbrev pub first_from : (ℕ → Bool) → ℕ → ℕ → Option ℕ
first_from test at zero = None
first_from test at (suc n) = if test at then Some at else first_from test (at + 1) n

abbrev pub first_below : (ℕ → Bool) → ℕ → Option ℕ
first_below test count = first_from test 0 count

-- what the check says: the first missing frame, else the first clash
pub data Verdict : Type 0 where
  passes : Verdict
  frame_missing : ℕ → Verdict
  frame_clash : ℕ → Verdict

abbrev pub clash_or_passes : Option ℕ → Verdict
clash_or_passes None = passes
clash_or_passes (Some i) = frame_clash i

abbrev pub missing_or : Verdict → Option ℕ → Verdict
missing_or verdict None = verdict
missing_or verdict (Some i) = frame_missing i

unfoldable pub verdict_of : Names → Body → Verdict
verdict_of names b = missing_or (clash_or_passes (first_below (is_clash names b) (length b.code))) (first_below (is_missing b) (length b.code))
