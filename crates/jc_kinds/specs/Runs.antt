-- Runs of equal types in one local variable, instruction by instruction.
use Rattle.std.specs.Prelude.{◌≡◌, ◌≢◌, ℕ, ◌<◌, ◌≤◌, Bool, true, false, List, length, slice_index, slice_index_or}
use Rattle.jc_methods.specs.declared.kind.Kind.{Kind}
use Rattle.jc_methods.specs.declared.kind.Kind.TheVariants as kinds
use Rattle.jc_kinds.specs.declared.runs.Column.{Column}
use Rattle.jc_kinds.specs.KindFits.{kind_fits}

abbrev pub kind_at : List Kind → ℕ → Kind
kind_at column i = slice_index_or column i kinds.Top

-- an object is expected, so that null and objects of all classes are alike
abbrev pub is_loose : Kind → Bool
is_loose (kinds.Object n) = true
is_loose _ = false

-- the type, or one that stands for null and for all objects
abbrev pub key_of : Bool → Kind → Kind
key_of true kinds.Null = kinds.Object 0
key_of true (kinds.Object n) = kinds.Object 0
key_of loose kind = kind

-- where the run of the types that are alike ends which begins at i
pub record IsEnd (loose : Bool) (column : List Kind) (i e : ℕ) : Type 0 where
  pub above : i < e
  pub within : e ≤ length column
  pub alike : (k : ℕ) → i ≤ k → k < e → key_of loose (kind_at column k) ≡ key_of loose (kind_at column i)
  pub other : e < length column → key_of loose (kind_at column e) ≢ key_of loose (kind_at column i)

-- from a place on each run's end is listed
pub record AreEnds (loose : Bool) (column : List Kind) (from : ℕ) (ends : List ℕ) : Type 0 where
  pub size : length ends ≡ length column
  pub each : (i : ℕ) → from ≤ i → i < length column → IsEnd loose column i (slice_index ends i)

-- the ends of the runs of the types are listed
pub record HasRuns (c : Column) : Type 0 where
  pub tight : AreEnds false c.kinds.items 0 c.tight.items
  pub loose : AreEnds true c.kinds.items 0 c.loose.items

-- the first place of the range whose type doesn't fit, or the range's end
pub record IsFirstUnfit (column : List Kind) (want : Kind) (start end result : ℕ) : Type 0 where
  pub within : result ≤ end
  pub from : start ≤ result
  pub fitting : (k : ℕ) → start ≤ k → k < result → kind_fits (kind_at column k) want ≡ true
  pub unfit : result < end → kind_fits (kind_at column result) want ≡ false
