-- Code and the offsets at which it begins, as `encode` takes them.
use Rattle.std.proofs.Common.{◌⊎◌, inl, inr, ℕ, ◌<◌, ◌≤◌, List, [], ◌∷◌, length, get_or, All, arith}
use Rattle.std.proofs.lemmas.List.Elements.{All-tail}
use Rattle.std.specs.Prelude.{slice_index}
use Rattle.std.proofs.lemmas.List.{get_or_past, get_or_default}
use Rattle.std.proofs.lemmas.Bool.{cases_lt}
use Rattle.jc_methods.specs.declared.insn.Insn.{Insn}
use Rattle.jc_methods.specs.Insn.{IsWellFormed, with_places}
use Rattle.jc_methods.specs.Flow.{targets_of}
use Rattle.jc_methods.specs.Widened.{WideSet}
use Rattle.jc_insn.specs.Sizes.{StartAt}
use Rattle.jc_insn.specs.Writing.{IsInRange}
use Rattle.jc_insn.proofs.ShortestSpellingLaws.{Fits}
use Rattle.jc_insn.proofs.SizeSumsLaws.{below_last}
use Rattle.jc_insn.proofs.PlacesLaws.{well_formed_with, in_range_with, targets_fit}

-- the code that `encode` takes: all that it asks of the instructions and their offsets
pub record IsLaidOut (wide : WideSet) (code : List Insn) (starts : List ℕ) : Type 0 where
  pub starts_at : StartAt wide code starts
  pub end : slice_index starts (length code) ≤ 2147483647
  pub well_formed : All IsWellFormed code
  pub in_range : All IsInRange code
  pub places : All (λ insn. All (λ to. to < length code) (targets_of insn)) code

-- each instruction has room at its offset
abbrev pub EachFits : (ℕ → ℕ) → List Insn → List ℕ → Type 0
EachFits places (insn ∷ code) (at ∷ starts) = Fits at (with_places places insn) × EachFits places code starts
EachFits places code starts = Unit {0}

pub each_fits : (places : ℕ → ℕ) (code : List Insn) (starts : List ℕ) → ((k : ℕ) → places k < 4294967296) → All (λ s. s < 4294967296) starts
    → All IsWellFormed code → All IsInRange code → EachFits places code starts
each_fits places [] starts small starts_fit well fit = tt
each_fits places (insn ∷ code) [] small starts_fit well fit = tt
each_fits places (insn ∷ code) (at ∷ starts) small starts_fit well fit = (
  record {
    at_fits = starts_fit 0 at (omega arith);
    well_formed = well_formed_with places insn (well 0 insn (omega arith));
    in_range = in_range_with places insn (fit 0 insn (omega arith));
    places = targets_fit places 4294967296 insn small;
  },
  each_fits places code starts small (All-tail (λ s. s < 4294967296) at starts starts_fit) (All-tail IsWellFormed insn code well)
      (All-tail IsInRange insn code fit),
)

pub small_starts : (wide : WideSet) (code : List Insn) (starts : List ℕ) → StartAt wide code starts → get_or starts (length code) 0 ≤ 2147483647 → (k : ℕ)
    → get_or starts k 0 < 4294967296
small_starts wide code starts s end k = by (cases_lt k (length starts))
  where
    by : (k < length starts) ⊎ (length starts ≤ k) → get_or starts k 0 < 4294967296
    by (inl below) = let h = below_last wide 0 0 code starts s k below in omega (arith, h, end)
    by (inr past) = let h = get_or_past starts k 0 past in omega (arith, h)

pub all_small : (wide : WideSet) (code : List Insn) (starts : List ℕ) → StartAt wide code starts → get_or starts (length code) 0 ≤ 2147483647
    → All (λ s. s < 4294967296) starts
all_small wide code starts s end k d below = rw (get_or_default starts k d 0 below) (small_starts wide code starts s end k)

pub all_low : (wide : WideSet) (code : List Insn) (starts : List ℕ) → IsLaidOut wide code starts → All (λ s. s ≤ 2147483647) starts
all_low wide code starts out k d below = let h = below_last wide 0 0 code starts out.starts_at k below in rw (get_or_default starts k d 0 below)
    (omega (arith, h, out.end))
