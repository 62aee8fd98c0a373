-- Where the instructions of code stand, and which of its jumps are wide (JVM Specification 4.7.3 and 6.5, goto_w).
use Rattle.std.specs.Prelude.{◌≡◌, ⊤, ℕ, zero, suc, ◌+◌, ◌<◌, Bool, true, false, ◌&&◌, ◌||◌, not, List, [], ◌∷◌, length, replicate, None, slice_index, nat_lt, nat_le}
use Rattle.jc_bytes.specs.declared.fail.Fail.{Fail}
use Rattle.jc_bytes.specs.declared.fail.Fail.TheVariants as fails
use Rattle.jc_bytes.specs.declared.refusal.Refusal.{Refusal}
use Rattle.jc_bytes.specs.declared.refusal.RefusalKind.TheVariants as kinds
use Rattle.jc_methods.specs.declared.insn.Insn.{Insn}
use Rattle.jc_methods.specs.declared.insn.Insn.TheVariants as insns
use Rattle.jc_methods.specs.Widened.{WideSet, HasAt, listed, widened}
use Rattle.jc_insn.specs.Layouts.{wide_starts}
use Rattle.jc_insn.specs.Sizes.{IsJump, size_of}
use Rattle.jc_insn.specs.Writing.{AllNear, code_text}

-- ---- what stands in a layout

-- the instructions that stand where these jumps are wide, and where they begin
abbrev pub laid_code : List Bool → List Insn → List Insn
laid_code wide code = widened (listed wide) code

abbrev pub laid_starts : List Bool → List Insn → List ℕ → List ℕ
laid_starts wide code starts = wide_starts (listed wide) 0 code starts

-- ---- offsets

-- The offsets at which the instructions begin, the first, which has the number n, at this one, and then that of the end. The jumps of
-- the set are wide.
abbrev pub starts_from : WideSet → (n at : ℕ) → List Insn → List ℕ
starts_from wide n at [] = at ∷ []
starts_from wide n at (insn ∷ code) = at ∷ starts_from wide (suc n) (at + size_of at (wide n) insn) code

unfoldable pub starts_of : WideSet → List Insn → List ℕ
starts_of wide code = starts_from wide 0 0 code

-- ---- room in two bytes

abbrev pub is_near : ℕ → ℕ → Bool
is_near at to = nat_lt to (at + 32768) && nat_le at (to + 32768)

-- the instruction with this number is a jump that has no room in two bytes, where the instructions begin at these offsets
abbrev pub is_far_by : (starts : List ℕ) → (n : ℕ) → Insn → Bool
is_far_by starts n (insns.Jump op to) = not (is_near (slice_index starts n) (slice_index starts to))
is_far_by starts n insn = false

-- ---- the choice

-- The truth value of each instruction: whether it is a jump that is wide, or has no room.
abbrev pub with_far : (starts : List ℕ) → (n : ℕ) → List Insn → List Bool → List Bool
with_far starts n [] wide = []
with_far starts n (insn ∷ code) [] = []
with_far starts n (insn ∷ code) (w ∷ wide) = (w || is_far_by starts n insn) ∷ with_far starts (suc n) code wide

-- One round: the code is laid out with these jumps wide, and each jump without room becomes wide too. The wide ones stay wide, also
-- where the padding of a switch would leave them room again.
abbrev pub round : List Insn → List Bool → List Bool
round code wide = with_far (starts_of (listed wide) code) 0 code wide

-- after so many rounds, of which the first begins with no wide jump
abbrev pub rounds : List Insn → ℕ → List Bool
rounds code zero = replicate (length code) false
rounds code (suc k) = round code (rounds code k)

-- a jump that isn't wide has no room, where the instructions begin at these offsets
abbrev pub has_far : (starts : List ℕ) → (n : ℕ) → List Insn → List Bool → Bool
has_far starts n [] wide = false
has_far starts n (insn ∷ code) [] = false
has_far starts n (insn ∷ code) (w ∷ wide) = (not w && is_far_by starts n insn) || has_far starts (suc n) code wide

-- The wide jumps: those that rounds lead to, once none makes one more jump wide. This isn't the least set in which each other jump
-- has room, since a jump that one round makes wide may move a switch to where its padding is less.
pub record IsChosen (code : List Insn) (wide : List Bool) : Type 0 where
  pub count : ℕ
  pub reached : wide ≡ rounds code count
  pub ended : round code wide ≡ wide

-- each round but the last makes a jump wide, so as many rounds as there are instructions are enough
unfoldable pub chosen_list : List Insn → List Bool
chosen_list code = rounds code (length code)

abbrev pub chosen : List Insn → WideSet
chosen code = listed (chosen_list code)

-- each jump that isn't wide has room in two bytes
abbrev pub OthersNear : List Insn → WideSet → Type 0
OthersNear code wide = AllNear (slice_index (starts_of wide code)) wide 0 code (starts_of wide code)

-- nothing but jumps is wide
abbrev pub AreJumps : List Insn → WideSet → Type 0
AreJumps code wide = (place : ℕ) (insn : Insn) → HasAt code place insn → wide place ≡ true → IsJump insn

-- ---- the layout

-- the offsets of the instructions, and that of the end
unfoldable pub chosen_starts : List Insn → List ℕ
chosen_starts code = starts_of (chosen code) code

-- how many bytes there are
abbrev pub chosen_length : List Insn → ℕ
chosen_length code = slice_index (chosen_starts code) (length code)

-- the bytes
unfoldable pub chosen_text : List Insn → List ℕ
chosen_text code = code_text (slice_index (chosen_starts code)) (chosen code) 0 code (chosen_starts code)

-- ---- code that is too large

-- the code of a method has fewer than 65,536 bytes (JVM Specification 4.7.3)
abbrev pub most_bytes : ℕ
most_bytes = 65535

abbrev pub too_large : (size : ℕ) → Refusal
too_large size = record { kind = kinds.CodeTooLarge; method = None; place = size }

-- memory may run out at any time; else the code has too many bytes, and their number is named
abbrev pub IsTooLarge : Fail Refusal → (size : ℕ) → Type 0
IsTooLarge fails.Memory size = ⊤
IsTooLarge (fails.Said refusal) size = (refusal ≡ too_large size) × (most_bytes < size)
