-- Marks of the lines that call, made from the end.
use Rattle.std.proofs.Common.{◌≡◌, ℕ, ◌<◌, ◌≤◌, Bool, true, false, ◌&&◌, not, List, [], ◌∷◌, length, take, drop, get_or, map, refl, sym, ◌∙◌, ap, arith}
use Rattle.std.proofs.lemmas.List.{take_all, get_or_default}
use Rattle.jc_bytes.specs.PlainLists.{numbers_from}
use Rattle.jc_methods.specs.declared.insn.Insn.{Insn}
use Rattle.jc_methods.specs.declared.body.LineAt.{LineAt}
use Rattle.jc_plan.specs.Entries.{is_line_start, calls_from, is_line_that_calls}
use Rattle.jc_plan.proofs.PlacesLaws.{same_as_mapped, mapped_at, length_mapped}

-- ---- line starts

pub record StartsMarked (lines : List LineAt) (count : ℕ) (marks : List Bool) : Type 0 where
  pub size : length marks ≡ count
  pub each : (i : ℕ) → i < count → get_or marks i false ≡ is_line_start lines i

pub starts_end : (lines : List LineAt) (k count : ℕ) (marks : List Bool) → length lines ≤ k → StartsMarked (take k lines) count marks
    → marks ≡ map (is_line_start lines) (numbers_from 0 count)
starts_end lines k count marks all so_far =
    same_as_mapped (is_line_start lines) marks count so_far.size
    (λ i d lt. get_or_default marks i d false (let l : i < length marks = omega (arith, so_far.size) in l) ∙ so_far.each i lt ∙ ap (λ (l : List LineAt). is_line_start l i) (take_all k lines all))

-- ---- lines that call

-- the instructions from `at` on are marked, and whether a call stands from there on in the line of the one before
pub record CallsMarked (lines : List LineAt) (code : List Insn) (at : ℕ) (marks : List Bool) (calls : Bool) : Type 0 where
  pub size : length marks ≡ length code
  pub within : at ≤ length code
  pub before : (i : ℕ) → i < at → get_or marks i false ≡ is_line_start lines i
  pub behind : (i : ℕ) → at ≤ i → i < length code → get_or marks i false ≡ is_line_that_calls lines code i
  pub carried : calls ≡ (not (is_line_start lines at) && calls_from lines at (drop at code))

pub calls_begin : (lines : List LineAt) (code : List Insn) (marks : List Bool) → marks ≡ map (is_line_start lines) (numbers_from 0 (length code))
    → CallsMarked lines code (length code) marks false
calls_begin lines code marks all = record {
  size = ap length all ∙ length_mapped (is_line_start lines) 0 (length code);
  within = omega arith;
  before = λ i lt. ap (λ (l : List Bool). get_or l i false) all ∙ mapped_at (is_line_start lines) (length code) i false lt;
  behind = λ i le lt. absurd (omega arith);
  carried = sym (ap (λ (l : List Insn). not (is_line_start lines (length code)) && calls_from lines (length code) l) (drop_all code) ∙ and_false (not (is_line_start lines (length code))));
}
  where
    drop_all : (code : List Insn) → drop (length code) code ≡ []
    drop_all [] = refl
    drop_all (x ∷ code) = drop_all code

    and_false : (a : Bool) → (a && false) ≡ false
    and_false true = refl
    and_false false = refl

pub calls_end : (lines : List LineAt) (code : List Insn) (at : ℕ) (marks : List Bool) (calls : Bool) → CallsMarked lines code at marks calls → at ≤ 0
    → marks ≡ map (is_line_that_calls lines code) (numbers_from 0 (length code))
calls_end lines code at marks calls so_far done =
    same_as_mapped (is_line_that_calls lines code) marks (length code) so_far.size
    (λ i d lt. get_or_default marks i d false (let l : i < length marks = omega (arith, so_far.size) in l) ∙ so_far.behind i (omega arith) lt)
