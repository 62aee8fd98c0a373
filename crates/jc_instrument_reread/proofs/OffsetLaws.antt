-- Places in the layout that is chosen, by their offsets.
use Rattle.std.proofs.Common.{◌≡◌, ℕ, ◌<◌, ◌≤◌, Bool, List, [], ◌∷◌, length, refl, arith}
use Rattle.std.specs.Prelude.{slice_index}
use Rattle.jc_methods.specs.Starts.{insn_number}
use Rattle.jc_methods.specs.declared.insn.Insn.{Insn}
use Rattle.jc_methods.specs.declared.probe_members.Fetch.{Fetch}
use Rattle.jc_methods.specs.declared.probe_members.Fetch.TheVariants as fetches
use Rattle.jc_emit.specs.Marks.{TwinPlaces}
use Rattle.jc_methods.specs.Widened.{listed}
use Rattle.jc_methods.proofs.WidenedLaws.{wide_length}
use Rattle.jc_insn.specs.Sizes.{StartAt}
use Rattle.jc_insn.proofs.SizeSumsLaws.{count_starts}
use Rattle.jc_insn.proofs.WideCodeLaws.{number_of_wide_start, wide_start}
use Rattle.jc_layout.specs.LaidBody.{laid_place, with_prelude}
use Rattle.jc_layout.specs.Layout.{laid_code, laid_starts, chosen, chosen_length, chosen_list, chosen_starts}
use Rattle.jc_layout.proofs.ChoiceLaws.{chosen_stand}
use Rattle.jc_layout.proofs.MergedLaws.{wide_places_rise}
use Rattle.jc_instrument_reread.proofs.StartLaws.{most_start, some_bytes, starts_grow}

-- ---- where some jumps are wide

offset_by : (wide : List Bool) (code : List Insn) (starts : List ℕ) → StartAt (listed wide) code starts → (k : ℕ)
    → slice_index (laid_starts wide code starts) (laid_place wide code k) ≡ slice_index starts k
offset_by wide code starts s k = wide_start (listed wide) code starts (count_starts (listed wide) 0 0 code starts s) k

number_by : (wide : List Bool) (code : List Insn) (starts : List ℕ) → StartAt (listed wide) code starts → (k : ℕ) → k ≤ length code
    → insn_number (laid_starts wide code starts) (slice_index starts k) ≡ laid_place wide code k
number_by wide code starts s k le = number_of_wide_start (listed wide) code starts s k le

within_by : (wide : List Bool) (code : List Insn) (k : ℕ) → k < length code → laid_place wide code k < length (laid_code wide code)
within_by wide code k lt = let rise = wide_places_rise (listed wide) code k (length code) lt in let size = wide_length (listed wide) code in omega (arith, rise, size)

prelude_length : (fetch : Fetch) (p : TwinPlaces) (code : List Insn) → length (with_prelude fetch p code) ≡ length code
prelude_length fetches.Member p [] = refl
prelude_length fetches.Member p (insn ∷ code) = refl
prelude_length fetches.Constant p [] = refl
prelude_length fetches.Constant p (load ∷ []) = refl
prelude_length fetches.Constant p (load ∷ cast ∷ code) = refl

-- ---- in the chosen one

module _ (code : List Insn) where
  abbrev offset : ℕ → ℕ
  offset k = slice_index (chosen_starts code) k

  -- what stands for an instruction begins at its offset
  pub offset_at : (k : ℕ) → slice_index (laid_starts (chosen_list code) code (chosen_starts code)) (laid_place (chosen_list code) code k) ≡ offset k
  offset_at k = offset_by (chosen_list code) code (chosen_starts code) (chosen_stand code) k

  -- and has its number
  pub number_at : (k : ℕ) → k ≤ length code
      → insn_number (laid_starts (chosen_list code) code (chosen_starts code)) (offset k) ≡ laid_place (chosen_list code) code k
  number_at k le = number_by (chosen_list code) code (chosen_starts code) (chosen_stand code) k le

  -- which is that of an instruction
  pub place_within : (fetch : Fetch) (p : TwinPlaces) (k : ℕ) → k < length code
      → laid_place (chosen_list code) code k < length (with_prelude fetch p (laid_code (chosen_list code) code))
  place_within fetch p k lt =
      let within = within_by (chosen_list code) code k lt in
      let size = prelude_length fetch p (laid_code (chosen_list code) code) in
      omega (arith, within, size)

  pub offsets_grow : (i j : ℕ) → i ≤ j → j ≤ length code → offset i ≤ offset j
  offsets_grow i j le within = starts_grow (chosen code) code (chosen_starts code) (chosen_stand code) i j le within

  pub most_offset : (k : ℕ) → offset k ≤ chosen_length code
  most_offset k = most_start (chosen code) code (chosen_starts code) (chosen_stand code) k

  pub some_length : 1 ≤ length code → 1 ≤ chosen_length code
  some_length some = let bytes = some_bytes (chosen code) code (chosen_starts code) (chosen_stand code) some in omega (arith, bytes)
