-- What a function does to the files and the texts that it is handed.
use Rattle.std.specs.Prelude.{◌≡◌, ℕ, Option}
use Rattle.jc_outside.specs.Outside.{FileMap, LastFailed}
use Rattle.jc_outside.specs.declared.files.Files.{Ghosts as OfFiles}
use Rattle.jc_outside.specs.declared.sink.Sink.{Ghosts as OfSink}
use Rattle.jc_command_work.specs.declared.outside.Outside.{Outside as Handed}
use Rattle.jc_command_work.specs.Step.{Outside, outside, Counts, counts}

-- It is so of the files, as they were when a function began and as they are at its end: of what is told of them and of the last read that
-- failed, of the counts of their failed reads and writes, and of the function's result.
abbrev pub BetweenFiles : {F A : Type 0} → OfFiles F → (old new : F)
    → (Is : (old new : Option FileMap) → (failed failed' : LastFailed) → (reads reads' writes writes' : ℕ) → A → Type 0) → A → Type 0
BetweenFiles of_files old new Is result =
    Is (of_files.contents old) (of_files.contents new) (of_files.failed_path old) (of_files.failed_path new)
    (of_files.read_faults old) (of_files.read_faults new) (of_files.write_faults old) (of_files.write_faults new) result

module _ {F O E : Type 0} (of_files : OfFiles F) (of_out : OfSink O) (of_err : OfSink E) where
  -- what is told of files, and of the texts on `out` and `err`
  abbrev outside_of : F × O × E → Outside
  outside_of s = outside (of_files.contents s.0) (of_files.failed_path s.0) (of_out.told s.1) (of_err.told s.2)

  -- how often their calls have failed
  abbrev counts_of : F × O × E → Counts
  counts_of s = counts (of_files.read_faults s.0) (of_files.write_faults s.0) (of_out.faults s.1) (of_err.faults s.2)

  -- It is so of the files, of `out` and of `err`, as they were when a function began and as they are at its end: of what is told of
  -- them, of the counts of their failed calls, and of the function's result.
  abbrev pub Between : {A : Type 0} → (old new : F × O × E) → (Is : (old new : Outside) → (f f' : Counts) → A → Type 0) → A → Type 0
  Between old new Is result = Is (outside_of old) (outside_of new) (counts_of old) (counts_of new) result

-- the files and the texts are the same ones, whatever they hold
abbrev pub SameReferences : {F O E : Type 0} → (old new : Handed F O E) → Type 0
SameReferences old new =
    (new.files.ghost_name ≡ old.files.ghost_name) × (new.out.ghost_name ≡ old.out.ghost_name) × (new.err.ghost_name ≡ old.err.ghost_name)

-- What a function does that is handed the outside of a command: the files and the texts stay the same ones, and the relation is between
-- what they were when it began and what they are at its end.
abbrev pub OnOutside : {F O E A : Type 0} → OfFiles F → OfSink O → OfSink E → (old new : Handed F O E)
    → (Is : (old new : Outside) → (f f' : Counts) → A → Type 0) → A → Type 0
OnOutside of_files of_out of_err old new Is result =
    SameReferences old new
    × Between of_files of_out of_err (old.files.now, old.out.now, old.err.now) (new.files.now, new.out.now, new.err.now) Is result
