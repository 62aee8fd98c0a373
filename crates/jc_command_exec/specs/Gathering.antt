-- What comes of execution data that is read part by part: the union of the files so far, or the first of them that is refused.
use Rattle.std.specs.Prelude.{◌≡◌, ◌+◌, ℕ, List, [], ◌∷◌, ◌++◌, length, Option, Some, Result, IfOk}
use Rattle.std.specs.Borrow.{Bor}
use Rattle.jc_bytes.specs.declared.fail.Fail.TheVariants as fails
use Rattle.jc_exec.specs.declared.refusal.ExecRefusal.{ExecRefusal}
use Rattle.jc_exec.specs.Answers.{why_of}
use Rattle.jc_exec.specs.Feeding.{Feeds}
use Rattle.jc_exec.specs.Refusing.{FirstRefusal}
use Rattle.jc_exec.specs.Store.{Store}
use Rattle.jc_exec.specs.Union.{ReadsOn}
use Rattle.jc_outside.specs.Outside.{FileMap, LastFailed}
use Rattle.jc_command_work.specs.declared.status.Fault.TheVariants as fault
use Rattle.jc_command_work.specs.declared.stop.Stop.{Stop}
use Rattle.jc_command_work.specs.Answered.{refusal_of}
use Rattle.jc_command_work.specs.Ending.{DoesFiles}
use Rattle.jc_command_work.specs.Part.{reading, reading_all}
use Rattle.jc_command_work.specs.Seen.{stop_seen}
use Rattle.jc_command_work.specs.Step.{Word, Landed}
use Rattle.jc_command_work.specs.Stopping.{exec_stop}
use Rattle.jc_command_exec.specs.declared.gathered.Feeding.{Feeding}
use Rattle.jc_command_exec.specs.declared.gathered.Feeding.TheVariants.{Fed, Dropped}
use Rattle.jc_command_exec.specs.declared.gathered.Gathered.{Gathered}
use Rattle.jc_command_exec.specs.declared.gathered.Gathered.TheVariants.{Union, Refused}
use Rattle.jc_command_exec.specs.ExecData.{IsUnionOf, IsFirstRefused}

-- ---- the parts of a file

-- how many bytes were fed
abbrev pub length_of : Feeding → ℕ
length_of (Fed f) = f.length
length_of (Dropped stop) = 0

-- nothing of a file was read, behind others
abbrev pub Begins : Gathered → Feeding → Type 0
Begins (Union store) (Fed f) = Feeds f store []
Begins (Union store) (Dropped stop) = ⊥
Begins (Refused stop) (Fed f) = ⊥
Begins (Refused stop) (Dropped same) = same ≡ stop

-- these bytes were fed behind what was fed, or dropped behind a refused file
abbrev pub FeedsOn : Feeding → List ℕ → Feeding → Type 0
FeedsOn (Fed f) bytes (Fed g) =
    (g.length ≡ f.length + length bytes) × ((before : Store) (front : List ℕ) → Feeds f before front → Feeds g before (front ++ bytes))
FeedsOn (Fed f) bytes (Dropped stop) = ⊥
FeedsOn (Dropped stop) bytes (Fed g) = ⊥
FeedsOn (Dropped stop) bytes (Dropped same) = same ≡ stop

-- The file of the index has ended. It is added to the store before, or refused as the stop says; a file behind a refused one changes nothing.
abbrev pub Ends : Feeding → ℕ → Bor (List ℕ) → Gathered → Type 0
Ends (Fed f) index path (Union store) = (before : Store) (bytes : List ℕ) → Feeds f before bytes → ReadsOn bytes before store
Ends (Fed f) index path (Refused stop) =
    (why : ExecRefusal) × (stop ≡ exec_stop (fails.Said why) index path)
    × ((before : Store) (bytes : List ℕ) → Feeds f before bytes → FirstRefusal before bytes (why_of why))
Ends (Dropped stop) index path (Union store) = ⊥
Ends (Dropped stop) index path (Refused same) = same ≡ stop

-- the file at the path was read, and its bytes were fed
abbrev pub FeedsFile : Landed → Word → Feeding → (old new : Option FileMap) → (failed failed' : LastFailed)
    → (reads reads' writes writes' : ℕ) → Result Feeding Stop → Type 0
FeedsFile landed path first old new failed failed' reads reads' writes writes' result =
    (bytes : List ℕ) × DoesFiles landed (reading path) (λ _. bytes) stop_seen old new failed failed' reads reads' writes writes' result
    × IfOk result (λ later. FeedsOn first bytes later)

-- ---- a file more

-- what has come of these bytes of a file behind others: they are added to the union, or refused as the stop says
abbrev pub Joins : Gathered → List ℕ → ℕ → Bor (List ℕ) → Gathered → Type 0
Joins (Union store) bytes index path (Union later) = ReadsOn bytes store later
Joins (Union store) bytes index path (Refused stop) =
    (why : ExecRefusal) × (stop ≡ exec_stop (fails.Said why) index path) × FirstRefusal store bytes (why_of why)
Joins (Refused stop) bytes index path (Union later) = ⊥
Joins (Refused stop) bytes index path (Refused same) = same ≡ stop

-- the file at the path was read behind others
abbrev pub ReadsFile : Landed → Bor (List ℕ) → ℕ → Gathered → (old new : Option FileMap) → (failed failed' : LastFailed)
    → (reads reads' writes writes' : ℕ) → Result Gathered Stop → Type 0
ReadsFile landed path index before old new failed failed' reads reads' writes writes' result =
    (bytes : List ℕ) × DoesFiles landed (reading path.now) (λ _. bytes) stop_seen old new failed failed' reads reads' writes writes' result
    × IfOk result (λ later. Joins before bytes index path later)

-- ---- all files

-- the union of the texts, or the first that is refused, as the stop says
abbrev pub IsGathered : List Word → List (List ℕ) → Gathered → Type 0
IsGathered paths texts (Union store) = IsUnionOf texts store
IsGathered paths texts (Refused stop) =
    (index : ℕ) × (path : Word) × (refusal : ExecRefusal) × IsFirstRefused paths texts index path refusal
    × (stop_seen stop ≡ Some (refusal_of path (fault.Exec index refusal)))

-- the files at the paths were read, in order
abbrev pub ReadsFiles : Landed → List Word → (old new : Option FileMap) → (failed failed' : LastFailed)
    → (reads reads' writes writes' : ℕ) → Result Gathered Stop → Type 0
ReadsFiles landed paths old new failed failed' reads reads' writes writes' result =
    (texts : List (List ℕ)) × DoesFiles landed (reading_all paths) (λ _. texts) stop_seen old new failed failed' reads reads' writes writes' result
    × IfOk result (λ gathered. IsGathered paths texts gathered)

-- the file at the path was read by itself
abbrev pub ReadsAlone : Landed → Bor (List ℕ) → (old new : Option FileMap) → (failed failed' : LastFailed)
    → (reads reads' writes writes' : ℕ) → Result Gathered Stop → Type 0
ReadsAlone landed path old new failed failed' reads reads' writes writes' result =
    (text : List ℕ) × DoesFiles landed (reading path.now) (λ _. text) stop_seen old new failed failed' reads reads' writes writes' result
    × IfOk result (λ gathered. IsGathered (path.now ∷ []) (text ∷ []) gathered)
