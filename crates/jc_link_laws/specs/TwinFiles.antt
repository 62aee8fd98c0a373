-- The files of instrumented classes, beside the files from which they were made.
use Rattle.std.specs.Prelude.{◌≡◌, ◌⊎◌, ⊤, ℕ, ◌≤◌, List, [], ◌∷◌, length}
use Rattle.std.specs.List.{AllByRecursion}
use Rattle.jc_bytes.specs.ByteLists.{AreBytes}
use Rattle.jc_bytes.specs.Reader.{most_read}
use Rattle.jc_instrument.specs.Refused.{IsUnchanged, IsChanged}
use Rattle.jc_instrument_laws.specs.TwinClass.{IsTwinFile}

-- bytes, at most 67,108,864
abbrev pub IsShortFile : List ℕ → Type 0
IsShortFile bytes = AreBytes bytes × (length bytes ≤ most_read)

-- the text of a twin of a class that is changed
pub record IsWrittenTwin (original written : List ℕ) : Type 0 where
  pub changed : IsChanged original
  pub twin : IsTwinFile original written

-- that, or the same bytes, where the class stays as it is
abbrev pub IsWrittenOf : List ℕ → List ℕ → Type 0
IsWrittenOf original written = IsWrittenTwin original written ⊎ (IsUnchanged original × (written ≡ original))

-- each file was accepted, and this is what was written of it, in order
abbrev pub AreWrittenOf : List (List ℕ) → List (List ℕ) → Type 0
AreWrittenOf [] [] = ⊤
AreWrittenOf (original ∷ originals) (text ∷ written) = IsWrittenOf original text × AreWrittenOf originals written
AreWrittenOf _ _ = ⊥

-- Files that were accepted, each of at most 67,108,864 bytes, and the bytes that were written of them.
pub record TwinFiles (originals written : List (List ℕ)) : Type 0 where
  pub short : AllByRecursion IsShortFile originals
  pub are_bytes : AllByRecursion AreBytes written
  pub each : AreWrittenOf originals written
