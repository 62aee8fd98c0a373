-- What each status says of a run, and what a run that broke off leaves of the work.
use Rattle.std.specs.Prelude.{◌≡◌, ◌⊎◌, ⊤, ℕ, List, ◌∷◌, ◌++◌}
use Rattle.jc_command_work.specs.declared.status.Status.{Status}
use Rattle.jc_command_work.specs.declared.status.Status.TheVariants as status
use Rattle.jc_command_work.specs.Step.{Word, Outside, Counts, Rises, Landed, to_file, to_out, to_err, Call, to_read, to_list, to_write, Step, call_of, Broken, CountRose}
use Rattle.jc_command_work.specs.Part.{End, done, unmet, refused, misused, unread, unwritten, unprinted, message_of, failure, wants, stops, Part, Command}
use Rattle.jc_command_work.specs.Ending.{CameTo, SaysLast, IsOutOfMemory}
use Rattle.jc_command_work.specs.OneWay.{Work}

-- ---- ends of its own

-- an end that a command may come to by itself: a write that failed is none
abbrev pub IsOwnEnd : End → Type 0
IsOwnEnd done = ⊤
IsOwnEnd unmet = ⊤
IsOwnEnd (refused fault line) = ⊤
IsOwnEnd misused = ⊤
IsOwnEnd (unread path) = ⊤
IsOwnEnd (unwritten path) = ⊥
IsOwnEnd unprinted = ⊥

-- an input is refused
abbrev pub IsRefusal : End → Type 0
IsRefusal done = ⊥
IsRefusal unmet = ⊥
IsRefusal (refused fault line) = ⊤
IsRefusal misused = ⊥
IsRefusal (unread path) = ⊥
IsRefusal (unwritten path) = ⊥
IsRefusal unprinted = ⊥

-- the part ends the command in such ends alone
abbrev pub EndsIn : {X : Type 0} → (End → Type 0) → Part X → Type 0
EndsIn Is part = (steps : List Step) (end : End) → part steps (stops end) → Is end

abbrev pub HasOwnEnds : {X : Type 0} → Part X → Type 0
HasOwnEnds part = EndsIn IsOwnEnd part

-- ---- what a status says

-- All steps of the command were made, it ended so, and the message of the end was said.
pub record EndedSo (landed : Landed) (command : Command) (old new : Outside) (f f' : Counts) (end : End) : Type 0 where
  pub stands : Outside
  pub came : CameTo landed command old stands (stops end)
  pub says : SaysLast (message_of end) stands new f f'

-- the count of what the call goes to rose in the run, or stands at its last value
abbrev pub RoseFor : Call → Counts → Counts → Type 0
RoseFor (to_read path) f f' = Rises f.reads f'.reads
RoseFor (to_list folder) f f' = Rises f.reads f'.reads
RoseFor (to_write (to_file path bytes)) f f' = Rises f.writes f'.writes
RoseFor (to_write (to_out text)) f f' = Rises f.outs f'.outs
RoseFor (to_write (to_err text)) f f' = Rises f.errs f'.errs

abbrev pub IsReadCall : Call → Type 0
IsReadCall (to_read path) = ⊤
IsReadCall (to_list folder) = ⊤
IsReadCall (to_write write) = ⊥

abbrev pub IsWriteCall : Call → Type 0
IsWriteCall (to_read path) = ⊥
IsWriteCall (to_list folder) = ⊥
IsWriteCall (to_write write) = ⊤

-- First steps were made, and the call that the command then wanted failed, as the message says: a read's path is told as that of the last read
-- that failed, and a write was made in part.
pub record CallFailed (landed : Landed) (command : Command) (old new : Outside) (f f' : Counts) (Is : Call → Type 0) : Type 0 where
  pub call : Call
  pub is : Is call
  pub before : Outside
  pub came : CameTo landed command old before (wants call)
  pub stands : Outside
  pub broken : Broken landed before call stands
  pub at : Counts
  pub only : CountRose call f at
  pub rose : RoseFor call f f'
  pub says : SaysLast (message_of (failure call)) stands new at f'

abbrev pub Cause : Landed → Command → (old new : Outside) → (f f' : Counts) → Status → Type 0
Cause landed command old new f f' status.Done = (f' ≡ f) × CameTo landed command old new (stops done)
Cause landed command old new f f' (status.Refused fault) = (line : List ℕ) × EndedSo landed command old new f f' (refused fault line)
Cause landed command old new f f' status.Usage = EndedSo landed command old new f f' misused
Cause landed command old new f f' status.ReadFault =
    ((path : Word) × EndedSo landed command old new f f' (unread path)) ⊎ CallFailed landed command old new f f' IsReadCall
Cause landed command old new f f' status.WriteFault = CallFailed landed command old new f f' IsWriteCall
Cause landed command old new f f' status.Memory = IsOutOfMemory landed command old new f f' status.Memory
Cause landed command old new f f' status.Broken = (f' ≡ f) × CameTo landed command old new (stops unmet)

-- ---- how a run ends by its work

-- a call of the work failed
pub record WorkFailed (work : Work) (f f' : Counts) : Type 0 where
  pub front : List Step
  pub step : Step
  pub behind : List Step
  pub parts : work.steps ≡ front ++ step ∷ behind
  pub rose : RoseFor (call_of step) f f'
