-- How a run of a command ends.
use Rattle.std.specs.Prelude.{◌≡◌, ◌⊎◌, ℕ, List, Option, None, Some, Result, Ok, Err}
use Rattle.jc_command_work.specs.declared.status.Status.{Status}
use Rattle.jc_command_work.specs.declared.status.Status.TheVariants as status
use Rattle.jc_outside.specs.Outside.{FileMap, LastFailed, Rose}
use Rattle.jc_command_work.specs.Step.{Outside, outside, Counts, counts, Landed, Call, to_write, to_err, Step, grown, after, Fit, Broken, CountRose}
use Rattle.jc_command_work.specs.Part.{End, done, status_of, message_of, failure, Outcome, wants, gives, stops, Part, Command, Begun}

-- ---- how far a part came

-- These steps were made: the part has then come to this, and each step gave what was there.
pub record CameTo {X : Type 0} (landed : Landed) (part : Part X) (old stands : Outside) (o : Outcome X) : Type 0 where
  pub steps : List Step
  pub comes : part steps o
  pub begun : Begun part steps
  pub fit : Fit landed old steps
  pub stand : stands ≡ after landed old steps

-- Some first steps were made, and each gave what was there.
pub record Began {X : Type 0} (landed : Landed) (part : Part X) (old stands : Outside) : Type 0 where
  pub steps : List Step
  pub begun : Begun part steps
  pub fit : Fit landed old steps
  pub stand : stands ≡ after landed old steps

-- Some first steps were made, and the call behind them failed: its count rose, a read's path is told, and a write was made in part.
pub record BrokeOff {X : Type 0} (landed : Landed) (part : Part X) (old new : Outside) (f f' : Counts) (end : End) : Type 0 where
  pub call : Call
  pub stands : Outside
  pub came : CameTo landed part old stands (wants call)
  pub broken : Broken landed stands call new
  pub rose : CountRose call f f'
  pub is : end ≡ failure call

-- ---- the last message

-- the outside but for `err`, and the counts but for that of `err`, stay; on `err` the text was appended, or a part of it and the count rose
pub record Says (text : List ℕ) (old new : Outside) (f f' : Counts) : Type 0 where
  pub said : ((f' ≡ f) × (new ≡ record old { err = grown old.err text }))
      ⊎ (CountRose (to_write (to_err text)) f f' × Broken (λ _ bytes. bytes) old (to_write (to_err text)) new)

abbrev pub SaysLast : Option (List ℕ) → Outside → Outside → Counts → Counts → Type 0
SaysLast None old new f f' = (f' ≡ f) × (new ≡ old)
SaysLast (Some text) old new f f' = Says text old new f f'

-- ---- the three ways to end

-- All steps of the command were made, and no call failed. The status is that of its end, whose message is said.
pub record IsWhole (landed : Landed) (command : Command) (old new : Outside) (f f' : Counts) (s : Status) : Type 0 where
  pub end : End
  pub stands : Outside
  pub came : CameTo landed command old stands (stops end)
  pub is : s ≡ status_of end
  pub says : SaysLast (message_of end) stands new f f'

-- Some first steps were made, and the call behind them failed. The status tells a read from a write, and the message names the path: of a read
-- the one that the files tell as that of the last read that failed.
pub record IsCut (landed : Landed) (command : Command) (old new : Outside) (f f' : Counts) (s : Status) : Type 0 where
  pub end : End
  pub stands : Outside
  pub at : Counts
  pub broke_off : BrokeOff landed command old stands f at end
  pub is : s ≡ status_of end
  pub says : SaysLast (message_of end) stands new at f'

-- Memory was refused: some first steps were made, or the call behind them failed too, and nothing is said.
pub record IsOutOfMemory (landed : Landed) (command : Command) (old new : Outside) (f f' : Counts) (s : Status) : Type 0 where
  pub is : s ≡ status.Memory
  pub far : ((f' ≡ f) × Began landed command old new) ⊎ ((end : End) × BrokeOff landed command old new f f' end)

abbrev pub Ends : Landed → Command → (old new : Outside) → (f f' : Counts) → Status → Type 0
Ends landed command old new f f' s =
    IsWhole landed command old new f f' s ⊎ (IsCut landed command old new f f' s ⊎ IsOutOfMemory landed command old new f f' s)

-- ---- a function that does a part

-- what stopped a command early: its end, or memory that was refused
abbrev pub Stops : {X : Type 0} → Landed → Part X → (old new : Outside) → (f f' : Counts) → Option End → Type 0
Stops landed part old new f f' None = (f' ≡ f) × Began landed part old new
Stops landed part old new f f' (Some end) =
    ((f' ≡ f) × CameTo landed part old new (stops end)) ⊎ BrokeOff landed part old new f f' end

-- what a function did that does a part, by what its value and its error stand for
abbrev pub Does : {X A E : Type 0} → Landed → Part X → (A → X) → (E → Option End) → (old new : Outside) → (f f' : Counts) → Result A E → Type 0
Does landed part value stop old new f f' (Ok a) = (f' ≡ f) × CameTo landed part old new (gives (value a))
Does landed part value stop old new f f' (Err e) = Stops landed part old new f f' (stop e)

-- what a function did that does a command but for its last message
abbrev pub Ran : {A E : Type 0} → Landed → Command → (E → Option End) → (old new : Outside) → (f f' : Counts) → Result A E → Type 0
Ran landed command stop old new f f' (Ok a) = (f' ≡ f) × CameTo landed command old new (stops done)
Ran landed command stop old new f f' (Err e) = Stops landed command old new f f' (stop e)

-- the message of the end was said, or memory was refused
abbrev pub Reports : Option End → (old new : Outside) → (f f' : Counts) → Status → Type 0
Reports None old new f f' s = (s ≡ status.Memory) × (f' ≡ f) × (new ≡ old)
Reports (Some end) old new f f' s =
    ((s ≡ status.Memory) × (f' ≡ f) × (new ≡ old)) ⊎ ((s ≡ status_of end) × SaysLast (message_of end) old new f f')

-- ---- where no count rose

pub record NoneRose (old new : Counts) : Type 0 where
  pub reads : ¬ (Rose old.reads new.reads)
  pub writes : ¬ (Rose old.writes new.writes)
  pub outs : ¬ (Rose old.outs new.outs)
  pub errs : ¬ (Rose old.errs new.errs)

-- ---- the files, or a text, alone

-- what a function that takes the files alone did, whatever stands on `out` and `err`
abbrev pub DoesFiles : {X A E : Type 0} → Landed → Part X → (A → X) → (E → Option End) → (old new : Option FileMap) → (failed failed' : LastFailed)
    → (reads reads' writes writes' : ℕ) → Result A E → Type 0
DoesFiles landed part value stop old new failed failed' reads reads' writes writes' result =
    (out err : Option (List ℕ)) (outs errs : ℕ) → Does landed part value stop (outside old failed out err) (outside new failed' out err)
    (counts reads writes outs errs) (counts reads' writes' outs errs) result

-- what a function that takes `out` alone did
abbrev pub DoesOut : {X A E : Type 0} → Part X → (A → X) → (E → Option End) → (old new : Option (List ℕ)) → (outs outs' : ℕ) → Result A E → Type 0
DoesOut part value stop old new outs outs' result =
    (landed : Landed) (contents : Option FileMap) (failed : LastFailed) (err : Option (List ℕ)) (reads writes errs : ℕ)
    → Does landed part value stop (outside contents failed old err) (outside contents failed new err)
    (counts reads writes outs errs) (counts reads writes outs' errs) result

-- what a function that takes `err` alone did
abbrev pub DoesErr : {X A E : Type 0} → Part X → (A → X) → (E → Option End) → (old new : Option (List ℕ)) → (errs errs' : ℕ) → Result A E → Type 0
DoesErr part value stop old new errs errs' result =
    (landed : Landed) (contents : Option FileMap) (failed : LastFailed) (out : Option (List ℕ)) (reads writes outs : ℕ)
    → Does landed part value stop (outside contents failed out old) (outside contents failed out new)
    (counts reads writes outs errs) (counts reads writes outs errs') result

-- what was said on `err` last, and the status, whatever stands elsewhere
abbrev pub ReportsErr : Option End → (old new : Option (List ℕ)) → (errs errs' : ℕ) → Status → Type 0
ReportsErr stop old new errs errs' s =
    (contents : Option FileMap) (failed : LastFailed) (out : Option (List ℕ)) (reads writes outs : ℕ)
    → Reports stop (outside contents failed out old) (outside contents failed out new)
    (counts reads writes outs errs) (counts reads writes outs errs') s

abbrev pub SaysErr : List ℕ → (old new : Option (List ℕ)) → (errs errs' : ℕ) → Type 0
SaysErr text old new errs errs' =
    (contents : Option FileMap) (failed : LastFailed) (out : Option (List ℕ)) (reads writes outs : ℕ)
    → Says text (outside contents failed out old) (outside contents failed out new)
    (counts reads writes outs errs) (counts reads writes outs errs')
