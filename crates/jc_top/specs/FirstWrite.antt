-- What is left by a command that reads and decides before it writes.
use Rattle.std.specs.Prelude.{◌≡◌, ◌⊎◌, ⊤, List, [], ◌++◌, map}
use Rattle.jc_command_words.specs.Commands.{Called, instrument, run, merge, report, exec_info, class_info, cover, cover_sample, refs, lines, check, Means}
use Rattle.jc_command_work.specs.Step.{Word, Outside, Landed, Write, Step, has_written, Fit}
use Rattle.jc_command_work.specs.Part.{End, done, unmet, stops, Command}
use Rattle.jc_command_work.specs.OneWay.{writes_of}
use Rattle.jc_command_work.specs.Prefix.{IsFront, with_failed}

-- the command reads all of its inputs and decides what to write before it writes: `cover` alone reads back what it has written
abbrev pub DecidesFirst : Called → Type 0
DecidesFirst (instrument dest files) = ⊤
DecidesFirst (run plan destfile mode files) = ⊤
DecidesFirst (merge destfile inputs) = ⊤
DecidesFirst (report csv name exec files) = ⊤
DecidesFirst (exec_info inputs) = ⊤
DecidesFirst (class_info files) = ⊤
DecidesFirst (cover dest plan destfile csv workers name files) = ⊥
DecidesFirst (cover_sample methods) = ⊤
DecidesFirst (refs files) = ⊤
DecidesFirst (lines exec files) = ⊤
DecidesFirst (check rules exec files) = ⊤

-- so does the command that the words call, if they call one
abbrev pub DecideFirst : List Word → Type 0
DecideFirst words = (command : Called) → Means words command → DecidesFirst command

-- the command has written all, whether rules hold or not
abbrev pub HasWrittenAll : End → Type 0
HasWrittenAll end = (end ≡ done) ⊎ (end ≡ unmet)

abbrev pub as_steps : List Write → List Step
as_steps writes = map (λ w. has_written w) writes

-- All inputs were read, in these steps, and these writes decided on. First ones of them were made, the last perhaps in part.
pub record WritesBegun (landed : Landed) (command : Command) (old new : Outside) : Type 0 where
  pub reads : List Step
  pub writes : List Write
  pub none : writes_of reads ≡ []
  pub fit : Fit landed old reads
  pub end : End
  pub all : HasWrittenAll end
  pub decided : command (reads ++ as_steps writes) (stops end)
  pub front : IsFront landed old writes new

-- files and texts are as they were, whichever read of them failed last, or writes were begun
abbrev pub IsAsItWasOrBegun : Landed → Command → (old new : Outside) → Type 0
IsAsItWasOrBegun landed command old new = (new ≡ with_failed old new.failed) ⊎ WritesBegun landed command old new
