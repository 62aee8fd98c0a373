-- What functions did that look at class files and write what comes of them.
use Rattle.std.specs.Prelude.{◌≡◌, ℕ, List, map, Result, Ok, Err, Vec}
use Rattle.std.specs.declared.alloc.Global.{Global}
use Rattle.jc_command_work.specs.declared.stop.Stop.{Stop}
use Rattle.jc_paths.specs.Paths.{in_folder}
use Rattle.jc_command_work.specs.Step.{Word, Outside, Counts, Landed}
use Rattle.jc_command_work.specs.Part.{gives, writing_all}
use Rattle.jc_command_work.specs.Ending.{CameTo, Stops}
use Rattle.jc_command_work.specs.Seen.{stop_seen}
use Rattle.jc_command_classes.specs.Instrument.{Decision}
use Rattle.jc_headline.specs.CoverWork.{LookedFile, AreLooked, all_file_writes, paths_in, texts_in, places_from, instrumenting}

-- ---- the part `instrumenting`

-- It is over, and handed on these files: these are the places of the accepted ones.
pub record Instrumented (landed : Landed) (dest : Word) (paths : List Word) (read : List (List ℕ)) (old new : Outside) (f f' : Counts) (places : List ℕ) : Type 0 where
  pub looked : List LookedFile
  pub looked_at : AreLooked paths read looked
  pub same : f' ≡ f
  pub came : CameTo landed (instrumenting dest paths read) old new (gives looked)
  pub accepted : places ≡ places_from 0 looked

-- what a function did that does the part, and answers with the places of the accepted files
abbrev pub Instruments : Landed → (dest : Word) → (paths : List Word) → (read : List (List ℕ)) → (old new : Outside) → (f f' : Counts)
    → Result (Vec ℕ Global) Stop → Type 0
Instruments landed dest paths read old new f f' (Ok places) = Instrumented landed dest paths read old new f f' places.items
Instruments landed dest paths read old new f f' (Err stop) = Stops landed (instrumenting dest paths read) old new f f' (stop_seen stop)

-- so of a function that is given the paths to which the files are written, whatever the folder in which these are
abbrev pub InstrumentsTo : Landed → (written_to paths : List Word) → (read : List (List ℕ)) → (old new : Outside) → (f f' : Counts)
    → Result (Vec ℕ Global) Stop → Type 0
InstrumentsTo landed written_to paths read old new f f' result =
    (dest : Word) → written_to ≡ map (in_folder dest) paths → Instruments landed dest paths read old new f f' result

-- ---- the writes of files that were looked at

-- the lists have of each file, in order, the path to which it is written, its own path, its bytes, and what comes of it
pub record AreOf (dest : Word) (looked : List LookedFile) (written_to paths : List Word) (texts : List (List ℕ)) (decisions : List Decision) : Type 0 where
  pub targets_are : written_to ≡ map (λ l. in_folder dest l.file) looked
  pub paths_are : paths ≡ paths_in looked
  pub texts_are : texts ≡ texts_in looked
  pub decisions_are : decisions ≡ map (λ l. l.decision) looked

-- all were made, and these are the places of the accepted files
pub record Written (landed : Landed) (dest : Word) (looked : List LookedFile) (old new : Outside) (f f' : Counts) (places : List ℕ) : Type 0 where
  pub same : f' ≡ f
  pub came : CameTo landed (writing_all (all_file_writes dest looked)) old new (gives tt)
  pub accepted : places ≡ places_from 0 looked

-- what a function did that makes them, and answers with the places of the accepted files
abbrev pub WritesFiles : Landed → (dest : Word) → List LookedFile → (old new : Outside) → (f f' : Counts) → Result (Vec ℕ Global) Stop → Type 0
WritesFiles landed dest looked old new f f' (Ok places) = Written landed dest looked old new f f' places.items
WritesFiles landed dest looked old new f f' (Err stop) = Stops landed (writing_all (all_file_writes dest looked)) old new f f' (stop_seen stop)

-- so of a function that is given the lists, whatever the files and the folder of which these are
abbrev pub WritesDecided : Landed → (written_to paths : List Word) → (texts : List (List ℕ)) → List Decision → (old new : Outside)
    → (f f' : Counts) → Result (Vec ℕ Global) Stop → Type 0
WritesDecided landed written_to paths texts decisions old new f f' result =
    (dest : Word) (looked : List LookedFile) → AreOf dest looked written_to paths texts decisions
    → WritesFiles landed dest looked old new f f' result
