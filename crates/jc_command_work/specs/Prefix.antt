-- What stands where a run was cut off: it was made by first writes of the work, the last perhaps in part.
use Rattle.std.specs.Prelude.{◌≡◌, ◌⊎◌, ℕ, List, [], ◌∷◌, ◌++◌, Option, None, Some}
use Rattle.jc_outside.specs.Outside.{LastFailed}
use Rattle.jc_command_work.specs.declared.status.Status.{Status}
use Rattle.jc_command_work.specs.declared.status.Status.TheVariants as status
use Rattle.jc_command_work.specs.Step.{Outside, Landed, Write, to_write, Step, call_of, after_write, Broken, TextBroken}
use Rattle.jc_command_work.specs.Part.{End, status_of, message_of, failure}
use Rattle.jc_command_work.specs.OneWay.{Work, writes_of}

abbrev pub after_writes : Landed → Outside → List Write → Outside
after_writes landed w [] = w
after_writes landed w (write ∷ writes) = after_writes landed (after_write landed w write) writes

-- the same, with another path of the last read that failed
abbrev pub with_failed : Outside → LastFailed → Outside
with_failed w failed = record w { failed = failed }

-- these writes were made, or these and a part of the next one; which read failed last isn't said
pub record IsFront (landed : Landed) (old : Outside) (writes : List Write) (stands : Outside) : Type 0 where
  pub front : List Write
  pub behind : List Write
  pub parts : writes ≡ front ++ behind
  pub stand : (stands ≡ with_failed (after_writes landed old front) stands.failed)
      ⊎ ((write : Write) × (rest : List Write) × (behind ≡ write ∷ rest)
      × Broken landed (with_failed (after_writes landed old front) stands.failed) (to_write write) stands)

-- ---- the last message

-- these writes were made of the work, and the call behind them failed
pub record FailedBehind (work : Work) (made : List Write) (end : End) : Type 0 where
  pub front : List Step
  pub step : Step
  pub behind : List Step
  pub parts : work.steps ≡ front ++ step ∷ behind
  pub writes : made ≡ writes_of front
  pub is : end ≡ failure (call_of step)

-- how the work ends once these writes were made: all of them, as the work says; or these, where the call behind them failed
abbrev pub EndsBehind : Work → List Write → End → Type 0
EndsBehind work made end = ((made ≡ writes_of work.steps) × (end ≡ work.end)) ⊎ FailedBehind work made end

-- the message of a run of this status that made these writes of its work: where memory was refused there is none
abbrev pub IsMessage : Work → List Write → Status → Option (List ℕ) → Type 0
IsMessage work made s message =
    ((s ≡ status.Memory) × (message ≡ None)) ⊎ ((end : End) × EndsBehind work made end × (s ≡ status_of end) × (message ≡ message_of end))

-- a text took a message, as far as it was taken
abbrev pub Took : Option (List ℕ) → (old new : Option (List ℕ)) → Type 0
Took None old new = new ≡ old
Took (Some message) old new = TextBroken message old new

-- A run left what first writes of the work leave, the last perhaps in part, and behind them on `err` its message, as far as it was taken.
pub record LeavesFront (landed : Landed) (old : Outside) (work : Work) (s : Status) (new : Outside) : Type 0 where
  pub stands : Outside
  pub front : IsFront landed old (writes_of work.steps) stands
  pub message : Option (List ℕ)
  pub is_message : IsMessage work front.front s message
  pub contents : new.contents ≡ stands.contents
  pub out : new.out ≡ stands.out
  pub err : Took message stands.err new.err
