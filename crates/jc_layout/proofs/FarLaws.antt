-- Jumps without room, instruction by instruction.
use Rattle.std.proofs.Common.{◌≡◌, ℕ, ◌+◌, ◌<◌, ◌≤◌, Bool, true, false, ◌&&◌, ◌||◌, not, List, ◌∷◌, length, drop, get_or, sym, ap, ◌∙◌, add-one}
use Rattle.std.proofs.lemmas.List.{drop_all}
use Rattle.jc_bytes.proofs.AppendingLaws.{drop_is}
use Rattle.jc_methods.specs.declared.insn.Insn.{Insn}
use Rattle.jc_layout.specs.Layout.{is_far_by, has_far}

-- whether a jump without room is left, from this instruction on
pub record AreLeft (starts : List ℕ) (code : List Insn) (wide : List Bool) (number : ℕ) : Type 0 where
  pub left : has_far starts number (drop number code) (drop number wide) ≡ has_far starts 0 code wide

module _ (starts : List ℕ) (code : List Insn) (wide : List Bool) (number : ℕ) (insn : Insn) (w : Bool) (in_code : number < length code)
    (in_wide : number < length wide) (insn_is : insn ≡ get_or code number insn) (w_is : w ≡ get_or wide number w) where
  code_from : drop number code ≡ insn ∷ drop (number + 1) code
  code_from = drop_is code number insn in_code insn_is

  wide_from : drop number wide ≡ w ∷ drop (number + 1) wide
  wide_from = drop_is wide number w in_wide w_is

  test_from : has_far starts number (drop number code) (drop number wide)
      ≡ ((not w && is_far_by starts number insn) || has_far starts (number + 1) (drop (number + 1) code) (drop (number + 1) wide))
  test_from =
      (λ i. has_far starts number (code_from i) (wide_from i))
      ∙ ap (λ k. (not w && is_far_by starts number insn) || has_far starts k (drop (number + 1) code) (drop (number + 1) wide)) (sym (add-one number))

  pub left_next : AreLeft starts code wide number → (not w && is_far_by starts number insn) ≡ false → AreLeft starts code wide (number + 1)
  left_next l none =
      record {
        left = ap (λ t. t || has_far starts (number + 1) (drop (number + 1) code) (drop (number + 1) wide)) (sym none) ∙ sym test_from ∙ l.left;
      }

  pub left_here : AreLeft starts code wide number → (not w && is_far_by starts number insn) ≡ true → true ≡ has_far starts 0 code wide
  left_here l some =
      ap (λ t. t || has_far starts (number + 1) (drop (number + 1) code) (drop (number + 1) wide)) (sym some) ∙ sym test_from ∙ l.left

module _ (starts : List ℕ) (code : List Insn) (wide : List Bool) (number : ℕ) (all : length code ≤ number) where
  pub none_left : AreLeft starts code wide number → false ≡ has_far starts 0 code wide
  none_left l = ap (λ c. has_far starts number c (drop number wide)) (sym (drop_all number code all)) ∙ l.left
