-- Offsets of a layout, over which frames can be written.
use Rattle.std.proofs.Common.{◌≡◌, ℕ, zero, suc, ◌+◌, ◌≤◌, Bool, List, [], ◌∷◌, length, get_or, sym, ◌∙◌, ap, subst, arith}
use Rattle.std.specs.List.{AllByRecursion}
use Rattle.std.proofs.lemmas.List.{get_or_default}
use Rattle.jc_methods.specs.declared.body.FrameAt.{FrameAt}
use Rattle.jc_methods.specs.declared.emitted.Emitted.{Emitted}
use Rattle.jc_methods.specs.declared.insn.Insn.{Insn}
use Rattle.jc_frames.specs.FullTable.{AreRisingOffsets, AreShort, CanBeWritten, FitsFull}
use Rattle.jc_methods.specs.Widened.{WideSet, listed}
use Rattle.jc_insn.specs.Sizes.{size_of, StartFrom, StartAt}
use Rattle.jc_insn.proofs.SizeSumsLaws.{below_last, first_start, some_size}
use Rattle.jc_layout.specs.Layout.{IsChosen, chosen, chosen_list, starts_of, chosen_starts, chosen_text, chosen_length, most_bytes}
use Rattle.jc_layout.specs.declared.layouts.Laid.{Laid}
use Rattle.jc_layout.proofs.ChoiceLaws.{chosen_count, chosen_stand, text_length}
use Rattle.jc_layout.proofs.LayoutLaws.{one_list}
use Rattle.jc_layout.proofs.RoundsLaws.{chosen_is, one_chosen}
use Rattle.jc_instrument_code.specs.Given.{AreFrames, IsLaid}

rises : (wide : WideSet) (n at : ℕ) (code : List Insn) (starts : List ℕ) → StartFrom wide n at code starts → AreRisingOffsets starts
rises wide n at [] starts s k lt = let e = ap (λ (l : List ℕ). length l) s in absurd (omega (arith, e, lt))
rises wide n at (insn ∷ code) starts (later, is, more) zero lt =
    let here = ap (λ (l : List ℕ). get_or l 0 0) is in
    let next = ap (λ (l : List ℕ). get_or l 1 0) is in
    let first = first_start wide (suc n) (at + size_of at (wide n) insn) code later more in
    let some = some_size at (wide n) insn in
    omega (arith, here, next, first, some)
rises wide n at (insn ∷ code) starts (later, is, more) (suc k) lt =
    let long = ap (λ (l : List ℕ). length l) is in
    let same : suc k + 1 ≡ suc (k + 1) = omega arith in
    let here = ap (λ (l : List ℕ). get_or l (suc k) 0) is in
    let next = ap (λ (j : ℕ). get_or starts j 0) same ∙ ap (λ (l : List ℕ). get_or l (suc (k + 1)) 0) is in
    let above = rises wide (suc n) (at + size_of at (wide n) insn) code later more k (omega (arith, long, lt)) in
    omega (arith, here, next, above)

module _ (e : Emitted) (l : Laid) (laid : IsLaid e l) where
  count : length l.starts ≡ length e.code + 1
  count = ap (λ (s : List ℕ). length s) laid.starts ∙ chosen_count e.code

  pub laid_length : chosen_length e.code ≤ most_bytes
  laid_length =
      let size = ap (λ (t : List ℕ). length t) laid.text ∙ text_length e.code in
      let few = laid.few in
      omega (arith, size, few)

  pub laid_rise : AreRisingOffsets l.starts
  laid_rise = subst AreRisingOffsets (sym laid.starts) (rises (chosen e.code) 0 0 e.code (chosen_starts e.code) (chosen_stand e.code))

  pub laid_short : AreShort l.starts
  laid_short = subst AreShort (sym laid.starts) short
    where
      short : AreShort (chosen_starts e.code)
      short k d lt =
          let all = chosen_starts e.code in
          let stand = chosen_stand e.code in
          let read = get_or_default all k d 0 lt in
          let last = below_last (chosen e.code) 0 0 e.code all stand k lt in
          let few = laid_length in
          omega (arith, read, last, few)

  pub can_be_written : (names : ℕ) (frames : List FrameAt) → AreFrames e names frames → CanBeWritten l.starts names frames
  can_be_written names frames are = record {
    few = are.few;
    rising = are.rising;
    offsets = laid_rise;
    short = laid_short;
    each = subst (λ (n : ℕ). AllByRecursion (FitsFull n names) frames) (sym count) are.each;
  }

starts_are : (code : List Insn) (starts : List ℕ) (wide : List Bool) → IsChosen code wide → StartAt (listed wide) code starts → starts ≡ chosen_starts code
unfolding chosen_starts
starts_are code starts wide is stand =
    one_list (listed wide) code starts stand ∙ ap (λ (w : List Bool). starts_of (listed w) code) (one_chosen code wide (chosen_list code) is (chosen_is code))

pub is_laid : (e : Emitted) (l : Laid) → IsChosen e.code l.wide → StartAt (listed l.wide) e.code l.starts → l.code ≡ chosen_text e.code
    → length l.code ≡ chosen_length e.code → chosen_length e.code ≤ most_bytes → IsLaid e l
is_laid e l is stand text size few = record {
  wide = one_chosen e.code l.wide (chosen_list e.code) is (chosen_is e.code);
  starts = starts_are e.code l.starts l.wide is stand;
  text = text;
  few = omega (arith, size, few);
}
