-- What comes of execution data that is read file by file, each file into a store of its own.
use Rattle.std.specs.Prelude.{◌≡◌, ◌++◌, ℕ, List, [], ◌∷◌, map, take, length, Option, None, Some, Result, Ok, Err, IfOk}
use Rattle.std.specs.Borrow.{Bor}
use Rattle.jc_bytes.specs.declared.fail.Fail.TheVariants as fails
use Rattle.jc_exec.specs.declared.refusal.ExecRefusal.{ExecRefusal}
use Rattle.jc_exec.specs.Answers.{why_of}
use Rattle.jc_exec.specs.Refusing.{FirstRefusal}
use Rattle.jc_exec.specs.Store.{Store}
use Rattle.jc_outside.specs.Outside.{FileMap, LastFailed}
use Rattle.jc_command_work.specs.declared.status.Fault.TheVariants as fault
use Rattle.jc_command_work.specs.declared.stop.Stop.{Stop}
use Rattle.jc_command_work.specs.Answered.{Answer, EndsSo, refusal_of, preparing}
use Rattle.jc_command_work.specs.Ending.{DoesFiles}
use Rattle.jc_command_work.specs.Part.{gives, reading, reading_all}
use Rattle.jc_command_work.specs.Seen.{stop_seen}
use Rattle.jc_command_work.specs.Step.{Word, Landed, to_out}
use Rattle.jc_command_work.specs.Stopping.{exec_stop}
use Rattle.jc_command_exec.specs.declared.exec_info.Listed.{Listed}
use Rattle.jc_command_exec.specs.declared.gathered.Gathered.{Gathered}
use Rattle.jc_command_exec.specs.declared.gathered.Gathered.TheVariants.{Union, Refused}
use Rattle.jc_command_exec.specs.ExecData.{IsUnionOf, IsFirstRefusedAlone, no_data}
use Rattle.jc_command_exec.specs.ExecInfo.{file_lines, AreInfo}

-- a store of nothing, unless a file before is refused
abbrev pub IsAlone : Option Stop → Gathered → Type 0
IsAlone None (Union store) = store ≡ no_data
IsAlone None (Refused stop) = ⊥
IsAlone (Some stop) (Union store) = ⊥
IsAlone (Some stop) (Refused same) = same ≡ stop

-- the lines of the file at the path were put last, or the command is stopped
abbrev pub PutsNext : Word → List (List ℕ) → Gathered → Listed → Type 0
PutsNext path old (Union store) new = (new.listing ≡ old ++ file_lines path store) × (new.refused ≡ None)
PutsNext path old (Refused stop) new = new.refused ≡ Some stop

-- What has come of these bytes of a file behind others: the lines of its own store were put last, or it is refused as the stop says. A file
-- behind a refused one changes nothing.
abbrev pub Informs : Option Stop → List (List ℕ) → List ℕ → ℕ → Bor (List ℕ) → Option Stop → List (List ℕ) → Type 0
Informs None old bytes index path None new = (store : Store) × IsUnionOf (bytes ∷ []) store × (new ≡ old ++ file_lines path.now store)
Informs None old bytes index path (Some stop) new =
    (why : ExecRefusal) × (stop ≡ exec_stop (fails.Said why) index path) × FirstRefusal no_data bytes (why_of why)
Informs (Some stop) old bytes index path None new = ⊥
Informs (Some stop) old bytes index path (Some same) new = same ≡ stop

-- the file at the path was read behind others
abbrev pub InformsFile : Landed → Bor (List ℕ) → ℕ → Listed → (old new : Option FileMap) → (failed failed' : LastFailed)
    → (reads reads' writes writes' : ℕ) → Result Listed Stop → Type 0
InformsFile landed path index before old new failed failed' reads reads' writes writes' result =
    (bytes : List ℕ) × DoesFiles landed (reading path.now) (λ _. bytes) stop_seen old new failed failed' reads reads' writes writes' result
    × IfOk result (λ later. Informs before.refused before.listing bytes index path later.refused later.listing)

-- the lines of the files, or how the first that is refused stops the command
abbrev pub ListsAll : List Word → List (List ℕ) → Option Stop → List (List ℕ) → Type 0
ListsAll paths texts None lines = AreInfo (take (length texts) paths) texts lines
ListsAll paths texts (Some stop) lines =
    (index : ℕ) × (path : Word) × (refusal : ExecRefusal) × IsFirstRefusedAlone paths texts index path refusal
    × (stop_seen stop ≡ Some (refusal_of path (fault.Exec index refusal)))

-- all files have their lines
abbrev pub IsListed : List Word → List (List ℕ) → Listed → Type 0
IsListed paths texts listed = (length texts ≡ length paths) × ListsAll paths texts listed.refused listed.listing

-- the files at the paths were read, in order
abbrev pub InformsFiles : Landed → List Word → (old new : Option FileMap) → (failed failed' : LastFailed)
    → (reads reads' writes writes' : ℕ) → Result Listed Stop → Type 0
InformsFiles landed paths old new failed failed' reads reads' writes writes' result =
    (texts : List (List ℕ)) × DoesFiles landed (reading_all paths) (λ _. texts) stop_seen old new failed failed' reads reads' writes writes' result
    × IfOk result (λ listed. IsListed paths texts listed)

-- ---- the answer

-- what a function gives that decides which lines to print
abbrev pub ListsWith : (Answer → Type 0) → Result (List (List ℕ)) Stop → Type 0
ListsWith Is (Ok lines) = Is (gives (map to_out lines))
ListsWith Is (Err stop) = EndsSo Is (stop_seen stop)

-- what a function did that reads the inputs and decides which lines to print
abbrev pub Lists : Landed → List Word → (List (List ℕ) → Answer → Type 0) → (old new : Option FileMap) → (failed failed' : LastFailed)
    → (reads reads' writes writes' : ℕ) → Result (List (List ℕ)) Stop → Type 0
Lists landed inputs Answers old new failed failed' reads reads' writes writes' result =
    DoesFiles landed (preparing inputs Answers) (λ lines. map to_out lines) stop_seen old new failed failed' reads reads' writes writes' result
