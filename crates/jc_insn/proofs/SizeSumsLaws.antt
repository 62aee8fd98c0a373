-- Offsets that are the sums of sizes.
use Rattle.std.proofs.Common.{◌≡◌, ◌≢◌, ℕ, zero, suc, ◌+◌, ◌<◌, ◌≤◌, Bool, true, false, cond, List, [], ◌∷◌, length, get_or, nat_eq, nat_lt, refl, ap, arith}
use Rattle.std.proofs.lemmas.Bool.{eq-eqb, ne_eqb}
use Rattle.jc_methods.specs.Opcode as opcode
use Rattle.jc_methods.specs.declared.form.Form.{Form}
use Rattle.jc_methods.specs.declared.form.Form.TheVariants as forms
use Rattle.jc_methods.specs.InsnForm.{form_of}
use Rattle.jc_methods.specs.declared.insn.Insn.{Insn}
use Rattle.jc_methods.specs.declared.insn.Insn.TheVariants as insns
use Rattle.jc_methods.specs.Widened.{WideSet}
use Rattle.jc_insn.specs.Sizes.{push_size, is_narrow_inc, size_of, StartFrom}
use Rattle.jc_methods.specs.Starts.{insn_number}

some_of : (b : Bool) (m n : ℕ) → 1 ≤ m → 1 ≤ n → 1 ≤ cond b m n
some_of true m n p q = p
some_of false m n p q = q

push_some : (form : Form) → 1 ≤ push_size form
push_some forms.PushByte = omega arith
push_some form = omega arith

-- an instruction takes a byte at least
pub some_size : (at : ℕ) (wide : Bool) (insn : Insn) → 1 ≤ size_of at wide insn
some_size at wide (insns.Push op value) = push_some (form_of op)
some_size at wide (insns.Local op slot) = some_of (nat_lt slot 4) 1 _ (omega arith) (some_of (nat_lt slot 256) 2 4 (omega arith) (omega arith))
some_size at wide (insns.Inc slot by) = some_of (is_narrow_inc slot by) 3 6 (omega arith) (omega arith)
some_size at wide (insns.Constant place) = some_of (nat_lt place 256) 2 3 (omega arith) (omega arith)
some_size at wide (insns.Jump op to) = some_of wide _ 3 (some_of (nat_eq op opcode.goto) 5 8 (omega arith) (omega arith)) (omega arith)
some_size at wide insn = omega arith

-- ---- offsets of code of which these jumps are wide; the first instruction has the number n

module _ (wide : WideSet) where
  pub count_starts : (n at : ℕ) (code : List Insn) (starts : List ℕ) → StartFrom wide n at code starts → length starts ≡ length code + 1
  count_starts n at [] starts s = ap length s
  count_starts n at (insn ∷ code) starts (later, is, more) =
      let e = ap length is in
      let ih = count_starts (suc n) (at + size_of at (wide n) insn) code later more in
      omega (arith, e, ih)

  pub first_start : (n at : ℕ) (code : List Insn) (starts : List ℕ) → StartFrom wide n at code starts → get_or starts 0 0 ≡ at
  first_start n at [] starts s = ap (λ (l : List ℕ). get_or l 0 0) s
  first_start n at (insn ∷ code) starts (later, is, more) = ap (λ (l : List ℕ). get_or l 0 0) is

  -- none of the offsets is below the first
  pub above_first : (n at : ℕ) (code : List Insn) (starts : List ℕ) → StartFrom wide n at code starts → (k : ℕ) → k < length starts
      → at ≤ get_or starts k 0
  above_first n at [] starts s zero below = let e = ap (λ (l : List ℕ). get_or l 0 0) s in omega (arith, e)
  above_first n at [] starts s (suc k) below = let e = ap length s in absurd (omega (arith, e, below))
  above_first n at (insn ∷ code) starts (later, is, more) zero below = let e = ap (λ (l : List ℕ). get_or l 0 0) is in omega (arith, e)
  above_first n at (insn ∷ code) starts (later, is, more) (suc k) below =
      let e = ap (λ (l : List ℕ). get_or l (suc k) 0) is in
      let long = ap length is in
      let ih = above_first (suc n) (at + size_of at (wide n) insn) code later more k (omega (arith, long, below)) in
      omega (arith, e, ih)

  -- and none is above the last
  pub below_last : (n at : ℕ) (code : List Insn) (starts : List ℕ) → StartFrom wide n at code starts → (k : ℕ) → k < length starts
      → get_or starts k 0 ≤ get_or starts (length code) 0
  below_last n at [] starts s zero below = omega arith
  below_last n at [] starts s (suc k) below = let e = ap length s in absurd (omega (arith, e, below))
  below_last n at (insn ∷ code) starts (later, is, more) zero below =
      let e = ap (λ (l : List ℕ). get_or l 0 0) is in
      let end = ap (λ (l : List ℕ). get_or l (suc (length code)) 0) is in
      let long = count_starts (suc n) (at + size_of at (wide n) insn) code later more in
      let above = above_first (suc n) (at + size_of at (wide n) insn) code later more (length code) (omega (arith, long)) in
      omega (arith, e, end, above)
  below_last n at (insn ∷ code) starts (later, is, more) (suc k) below =
      let e = ap (λ (l : List ℕ). get_or l (suc k) 0) is in
      let end = ap (λ (l : List ℕ). get_or l (suc (length code)) 0) is in
      let long = ap length is in
      let ih = below_last (suc n) (at + size_of at (wide n) insn) code later more k (omega (arith, long, below)) in
      omega (arith, e, end, ih)

-- ---- numbers of offsets

pub step_in : (at offset : ℕ) (later : List ℕ) → at ≢ offset → 1 ≤ length later → insn_number (at ∷ later) offset ≡ 1 + insn_number later offset
step_in at offset [] other some = absurd (omega (arith, some))
step_in at offset (next ∷ later) other some = rw (ne_eqb at offset other) refl

pub first_number : (at : ℕ) (later : List ℕ) → 1 ≤ length later → insn_number (at ∷ later) at ≡ 0
first_number at [] some = absurd (omega (arith, some))
first_number at (x ∷ later) some = rw (eq-eqb at at refl) refl
