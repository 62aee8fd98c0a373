-- Offsets, instruction by instruction.
use Rattle.std.proofs.Common.{◌≡◌, ℕ, ◌+◌, ◌*◌, ◌<◌, ◌≤◌, Bool, List, [], ◌∷◌, ◌++◌, length, drop, get_or, refl, sym, ap, ◌∙◌, arith, append_assoc, add-one, nat_eq, nat_lt}
use Rattle.std.proofs.lemmas.List.{drop_all}
use Rattle.std.proofs.lemmas.List.Sums.{sum_by-cons}
use Rattle.jc_bytes.proofs.AppendingLaws.{drop_is}
use Rattle.jc_methods.specs.Opcode as opcode
use Rattle.jc_methods.specs.declared.form.Form.{Form}
use Rattle.jc_methods.specs.declared.form.Form.TheVariants as forms
use Rattle.jc_methods.specs.InsnForm.{form_of}
use Rattle.jc_methods.specs.declared.insn.Insn.{Insn}
use Rattle.jc_methods.specs.declared.insn.Insn.TheVariants as insns
use Rattle.jc_methods.specs.Insn.{arm_count}
use Rattle.jc_methods.specs.WellMade.{insns_and_arms}
use Rattle.jc_methods.specs.Widened.{WideSet}
use Rattle.jc_insn.specs.Sizes.{push_size, is_narrow_inc, size_of}
use Rattle.jc_insn.proofs.SpelledInsnLaws.{cond_most}
use Rattle.jc_layout.specs.Layout.{starts_from, starts_of}

-- ---- sizes

push_few : (form : Form) → push_size form ≤ 16
push_few forms.PushByte = omega arith
push_few form = omega arith

-- an instruction takes 16 bytes at most, and a switch as many more for each arm
pub size_bound : (at : ℕ) (wide : Bool) (insn : Insn) → size_of at wide insn ≤ 16 * (1 + arm_count insn)
size_bound at wide (insns.Push op value) = push_few (form_of op)
size_bound at wide (insns.Local op slot) =
    cond_most (nat_lt slot 4) 1 _ 16 (omega arith) (cond_most (nat_lt slot 256) 2 4 16 (omega arith) (omega arith))
size_bound at wide (insns.Inc slot by) = cond_most (is_narrow_inc slot by) 3 6 16 (omega arith) (omega arith)
size_bound at wide (insns.Constant place) = cond_most (nat_lt place 256) 2 3 16 (omega arith) (omega arith)
size_bound at wide (insns.Jump op to) =
    cond_most wide _ 3 16 (cond_most (nat_eq op opcode.goto) 5 8 16 (omega arith) (omega arith)) (omega arith)
size_bound at wide insn = omega arith

-- ---- the offsets so far

-- these are the offsets of so many instructions, and the next one begins at this offset
pub record IsPlaced (wide : WideSet) (code : List Insn) (index at : ℕ) (starts : List ℕ) : Type 0 where
  pub so_far : starts ++ starts_from wide index at (drop index code) ≡ starts_of wide code
  pub below : at + 16 * insns_and_arms (drop index code) ≤ 16 * insns_and_arms code

pub placed_none : (wide : WideSet) (code : List Insn) → IsPlaced wide code 0 0 []
unfolding starts_of
placed_none wide code = record { so_far = refl; below = omega arith }

pub room_left : (wide : WideSet) (code : List Insn) (index at : ℕ) (starts : List ℕ) (insn : Insn) → index < length code
    → insn ≡ get_or code index insn → IsPlaced wide code index at starts
    → at + size_of at (wide index) insn + 16 * insns_and_arms (drop (index + 1) code) ≤ 16 * insns_and_arms code
room_left wide code index at starts insn lt is p =
    let split = ap insns_and_arms (drop_is code index insn lt is) ∙ sum_by-cons (λ (x : Insn). 1 + arm_count x) insn (drop (index + 1) code) in
    omega (arith, split, size_bound at (wide index) insn, p.below)

pub placed_next : (wide : WideSet) (code : List Insn) (index at : ℕ) (starts : List ℕ) (insn : Insn) → index < length code
    → insn ≡ get_or code index insn → IsPlaced wide code index at starts
    → IsPlaced wide code (index + 1) (at + size_of at (wide index) insn) (starts ++ at ∷ [])
placed_next wide code index at starts insn lt is p = record {
  so_far =
      append_assoc starts (at ∷ []) (starts_from wide (index + 1) (at + size_of at (wide index) insn) (drop (index + 1) code))
      ∙ ap (λ k. starts ++ at ∷ starts_from wide k (at + size_of at (wide index) insn) (drop (index + 1) code)) (add-one index)
      ∙ ap (λ l. starts ++ starts_from wide index at l) (sym (drop_is code index insn lt is))
      ∙ p.so_far;
  below = room_left wide code index at starts insn lt is p;
}

pub placed_all : (wide : WideSet) (code : List Insn) (index at : ℕ) (starts : List ℕ) → length code ≤ index → IsPlaced wide code index at starts
    → starts ++ at ∷ [] ≡ starts_of wide code
placed_all wide code index at starts le p =
    ap (λ l. starts ++ starts_from wide index at l) (sym (drop_all index code le)) ∙ p.so_far
