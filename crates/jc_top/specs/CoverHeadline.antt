-- What a run of the tool promises whose words call `cover`: the headline.
use Rattle.std.specs.Prelude.{◌≡◌, ℕ, List}
use Rattle.jc_command_words.specs.Commands.{cover, Means}
use Rattle.jc_command_work.specs.declared.status.Status.{Status}
use Rattle.jc_command_work.specs.declared.status.Status.TheVariants as status
use Rattle.jc_command_work.specs.Step.{Word, Outside, Landed}
use Rattle.jc_command_work.specs.OneWay.{IsTold}
use Rattle.jc_headline.specs.CoverWork.{Cover}
use Rattle.jc_headline.specs.CoverRun.{CoverRun}
use Rattle.jc_headline.specs.Headline.{Headline}

-- the words call `cover` with these values, on some number of workers
abbrev pub CallsCover : List Word → Cover → Type 0
CallsCover words c = (workers : ℕ) × Means words (cover c.dest c.plan c.exec c.csv workers c.name c.files)

-- a path holds after a write what was written
abbrev pub ReadsBack : Landed → Type 0
ReadsBack landed = (path bytes : List ℕ) → landed path bytes ≡ bytes

-- Where contents are told and read back as they were written, the headline holds of each run that the words of a `cover` call and that is
-- done. What it read is told by the words and the contents: the text of the run plan, and each class file that the words name. What it
-- made of these, and wrote, is in `CoverRun`, and what that means in `Headline`.
abbrev pub KeepsHeadline : Landed → List Word → (old new : Outside) → Status → Type 0
KeepsHeadline landed words old new s =
    (c : Cover) → CallsCover words c → ReadsBack landed → IsTold old → s ≡ status.Done
    → (r : CoverRun landed c old new) × Headline landed c old new r
