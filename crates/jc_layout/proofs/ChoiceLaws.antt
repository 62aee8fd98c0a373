-- The layout that is chosen, by its offsets and its bytes.
use Rattle.std.proofs.Common.{◌≡◌, ℕ, suc, ◌+◌, Bool, List, [], ◌∷◌, length, get_or, sym, ap, ap₂, ◌∙◌, subst, arith, length-append}
use Rattle.std.specs.Prelude.{slice_index}
use Rattle.std.proofs.lemmas.List.{get_or_read}
use Rattle.jc_methods.specs.declared.insn.Insn.{Insn}
use Rattle.jc_methods.specs.Insn.{with_places}
use Rattle.jc_methods.specs.Widened.{WideSet, listed}
use Rattle.jc_insn.specs.Sizes.{size_of, StartFrom, StartAt}
use Rattle.jc_insn.specs.Writing.{AllNear, insn_text, code_text}
use Rattle.jc_insn.proofs.SizeSumsLaws.{count_starts, first_start}
use Rattle.jc_insn.proofs.TextSizesLaws.{text_size, same_size}
use Rattle.jc_layout.specs.Layout.{starts_of, IsChosen, chosen, chosen_list, chosen_starts, chosen_length, chosen_text}
use Rattle.jc_layout.proofs.LayoutLaws.{starts_stand, chosen_near}
use Rattle.jc_layout.proofs.RoundsLaws.{chosen_is}

pub starts_count : (wide : WideSet) (code : List Insn) → length (starts_of wide code) ≡ length code + 1
starts_count wide code = count_starts wide 0 0 code (starts_of wide code) (starts_stand wide code)

pub chosen_count : (code : List Insn) → length (chosen_starts code) ≡ length code + 1
unfolding chosen_starts
chosen_count code = starts_count (chosen code) code

pub chosen_stand : (code : List Insn) → StartAt (chosen code) code (chosen_starts code)
unfolding chosen_starts
chosen_stand code = starts_stand (chosen code) code

others_near : (code : List Insn) → AllNear (slice_index (chosen_starts code)) (chosen code) 0 code (chosen_starts code)
unfolding chosen_starts
others_near code = chosen_near code

-- the bytes of instructions that begin at these offsets reach to the last offset
text_reaches : (places : ℕ → ℕ) (wide : WideSet) (n at : ℕ) (code : List Insn) (starts : List ℕ) → StartFrom wide n at code starts
    → at + length (code_text places wide n code starts) ≡ slice_index starts (length code)
text_reaches places wide n at [] starts s = let e = first_start wide n at [] starts s in omega (arith, e)
text_reaches places wide n at (insn ∷ code) starts (later, is, more) =
    subst (λ l. at + length (code_text places wide n (insn ∷ code) l) ≡ slice_index l (length (insn ∷ code))) (sym is)
    (let both = length-append (insn_text at (wide n) (with_places places insn)) (code_text places wide (suc n) code later) in
    let size = text_size at (wide n) (with_places places insn) ∙ same_size places at (wide n) insn in
    let rest = text_reaches places wide (suc n) (at + size_of at (wide n) insn) code later more in
    omega (arith, both, size, rest))

pub text_length : (code : List Insn) → length (chosen_text code) ≡ chosen_length code
unfolding chosen_text
text_length code =
    let reaches = text_reaches (slice_index (chosen_starts code)) (chosen code) 0 0 code (chosen_starts code) (chosen_stand code) in
    omega (arith, reaches)

-- the length of the code is the last offset
pub end_is : (code : List Insn) (starts : List ℕ) (size : ℕ) → starts ≡ chosen_starts code → size ≡ get_or starts (length code) size
    → size ≡ chosen_length code
end_is code starts size starts_are read =
    let e = ap length starts_are in
    let n = chosen_count code in
    get_or_read starts (length code) size (omega (arith, e, n)) read 0 ∙ ap (λ l. slice_index l (length code)) starts_are

-- ---- of offsets and wide jumps that are the chosen ones

module _ (code : List Insn) (starts : List ℕ) (wide : List Bool) (starts_are : starts ≡ chosen_starts code) (wide_are : wide ≡ chosen_list code) where
  pub stand : StartAt (listed wide) code starts
  stand =
      subst (λ w. StartAt (listed w) code starts) (sym wide_are)
      (subst (StartAt (chosen code) code) (sym starts_are) (chosen_stand code))

  pub near : AllNear (slice_index starts) (listed wide) 0 code starts
  near =
      subst (λ w. AllNear (slice_index starts) (listed w) 0 code starts) (sym wide_are)
      (subst (λ l. AllNear (slice_index l) (chosen code) 0 code l) (sym starts_are) (others_near code))

  pub is_chosen : IsChosen code wide
  is_chosen = subst (IsChosen code) (sym wide_are) (chosen_is code)

  pub is_text : code_text (slice_index starts) (listed wide) 0 code starts ≡ chosen_text code
  unfolding chosen_text
  is_text = ap₂ (λ (l : List ℕ) (w : List Bool). code_text (slice_index l) (listed w) 0 code l) starts_are wide_are
