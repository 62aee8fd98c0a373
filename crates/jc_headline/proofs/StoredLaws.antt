-- What is written of accepted files is what is read back of them.
use Rattle.std.proofs.Common.{◌≡◌, ℕ, Bool, true, false, List, [], ◌∷◌, Some, map, sym, subst}
use Rattle.std.specs.FinMap.{get}
use Rattle.std.specs.List.{AllByRecursion}
use Rattle.jc_bytes.specs.ByteLists.{AreBytes}
use Rattle.jc_outside.specs.Outside.{FileMap}
use Rattle.jc_instrument.specs.InstrumentedFile.{Becomes, IsInstrumentedFile}
use Rattle.jc_instrument.specs.LeftAlone.{is_left_alone}
use Rattle.jc_instrument.specs.declared.whole.Instrumented.{Instrumented}
use Rattle.jc_link_laws.specs.TwinFiles.{IsShortFile}
use Rattle.jc_paths.specs.Paths.{in_folder}
use Rattle.jc_command_work.specs.Step.{Word}
use Rattle.jc_command_classes.specs.Instrument.{Decision, refused_file, accepted_file, IsDecision}
use Rattle.jc_headline.specs.CoverWork.{LookedFile, AreLooked, accepted, kept_if, paths_in, targets}
use Rattle.jc_headline.specs.CoverRun.{AreRead}
use Rattle.jc_headline.specs.Headline.{written_bytes, all_written, stored}
use Rattle.jc_headline.proofs.WriteLaws.{Stand}
use Rattle.jc_headline.specs.FitCover.{IsShort}

-- ---- what is written

bytes_of : (bytes : List ℕ) (a : Instrumented) → AreBytes bytes → IsInstrumentedFile bytes a → AreBytes a.bytes
bytes_of bytes a are is = by (is_left_alone is.file) is.becomes
  where
    by : (t : Bool) → Becomes t bytes is.file a → AreBytes a.bytes
    by true given = subst AreBytes (sym given.same) are
    by false has = has.are_bytes

-- of each accepted file bytes are written
pub bytes_written : (paths : List Word) (read : List (List ℕ)) (looked : List LookedFile) → AreLooked paths read looked → AllByRecursion IsShortFile read
    → AllByRecursion AreBytes (all_written looked)
bytes_written [] [] looked is short = subst (λ (ls : List LookedFile). AllByRecursion AreBytes (all_written ls)) (sym is) tt
bytes_written [] (t ∷ ts) looked is short = absurd is
bytes_written (p ∷ ps) [] looked is short = absurd is
bytes_written (p ∷ ps) (t ∷ ts) looked (d, rest, decision, parts, more) short =
    subst (λ (ls : List LookedFile). AllByRecursion AreBytes (all_written ls)) (sym parts) (by d decision (bytes_written ps ts rest more short.1))
  where
    by : (e : Decision) → IsDecision t e → AllByRecursion AreBytes (all_written rest) → AllByRecursion AreBytes (written_bytes e (all_written rest))
    by (refused_file why) is later = later
    by (accepted_file a) is later = (bytes_of t a short.0.0 is, later)

pub short_files : (written : List (List ℕ)) → AllByRecursion AreBytes written → AllByRecursion IsShort written → AllByRecursion IsShortFile written
short_files [] are short = tt
short_files (t ∷ ts) are short = ((are.0, short.0), short_files ts are.1 short.1)

-- ---- what is read back

module _ (dest : Word) (n : FileMap) where
  -- where each file stands in the folder, each accepted one is read back as it was written
  pub read_back : (ls : List LookedFile) → Stand dest n ls → AllByRecursion IsShortFile (all_written ls) → AreRead (Some n) (targets dest ls) (all_written ls)
  read_back [] stand short = tt
  read_back (l ∷ ls) stand short = by l.decision stand.0 short (read_back ls stand.1)
    where
      by : (d : Decision) → get n (in_folder dest l.file) ≡ Some (stored l d) → AllByRecursion IsShortFile (written_bytes d (all_written ls))
          → (AllByRecursion IsShortFile (all_written ls) → AreRead (Some n) (targets dest ls) (all_written ls))
          → AreRead (Some n) (map (in_folder dest) (paths_in (kept_if d l (accepted ls)))) (written_bytes d (all_written ls))
      by (refused_file why) is short later = later short
      by (accepted_file a) is short later = (record { file = record { are_bytes = short.0.0; short = short.0.1 }; there = is }, later short.1)
