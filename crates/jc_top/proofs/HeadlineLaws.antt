-- A run whose words call `cover` is one of `cover`, and so the headline holds of it.
use Rattle.std.proofs.Common.{◌≡◌, List, [], ◌∷◌, ◌++◌, inl, inr, sym, subst}
use Rattle.jc_command_words.specs.Commands.{Called, Means}
use Rattle.jc_command_words.proofs.CommandLaws.{one_command}
use Rattle.jc_command_work.specs.declared.status.Status.{Status}
use Rattle.jc_command_work.specs.Step.{Word, Outside, Counts, Landed, Step, call_of}
use Rattle.jc_command_work.specs.Part.{done, Outcome, wants, gives, stops, deciding, Begun}
use Rattle.jc_command_work.specs.Ending.{CameTo, Ends}
use Rattle.jc_command_work.proofs.Ends.{ends_done}
use Rattle.jc_command_work.proofs.Prefix.{done_means}
use Rattle.jc_headline.specs.CoverWork.{cover_work}
use Rattle.jc_headline.proofs.HeadlineLaws.{each_headline}
use Rattle.jc_top.specs.Work.{DumpsAnswers, work_with, IsUsage, the_work_with}
use Rattle.jc_top.specs.CoverHeadline.{KeepsHeadline}
use Rattle.jc_top.proofs.ApartLaws.{names_apart}

module _ (Dumps : DumpsAnswers) (words : List Word) (command : Called) (means : Means words command) where
  -- what the words come to, the command that they call comes to
  comes_to : (steps : List Step) (o : Outcome ⊥) → the_work_with Dumps words steps o → work_with Dumps command steps o
  comes_to [] (wants call) (inl within) = absurd within
  comes_to [] (gives value) (inl within) = absurd within
  comes_to [] (stops end) (inl within) = absurd (within.0 command means)
  comes_to (step ∷ steps) (wants call) (inl within) = absurd within
  comes_to (step ∷ steps) (gives value) (inl within) = absurd within
  comes_to (step ∷ steps) (stops end) (inl within) = absurd within
  comes_to steps o (inr h) = by h.front h.behind h.parts h.over h.goes_on
    where
      by : (front behind : List Step) → steps ≡ front ++ behind → deciding (Means words) (IsUsage words) front (gives h.value)
          → work_with Dumps h.value behind o → work_with Dumps command steps o
      by [] behind same is so =
          subst (λ (c : Called). work_with Dumps c steps o) (one_command words h.value command is means)
          (subst (λ (l : List Step). work_with Dumps h.value l o) (sym same) so)
      by (step ∷ front) behind same is so = absurd is

  begun_so : (steps : List Step) → Begun (the_work_with Dumps words) steps → Begun (work_with Dumps command) steps
  begun_so steps (inl none) = inl none
  begun_so steps (inr (front, step, same, wanted)) = inr (front, step, same, comes_to front (wants (call_of step)) wanted)

  came_so : (landed : Landed) (old new : Outside) (o : Outcome ⊥) → CameTo landed (the_work_with Dumps words) old new o
      → CameTo landed (work_with Dumps command) old new o
  came_so landed old new o came = record {
    steps = came.steps;
    comes = comes_to came.steps o came.comes;
    begun = begun_so came.steps came.begun;
    fit = came.fit;
    stand = came.stand;
  }

pub keeps_headline : (Dumps : DumpsAnswers) (landed : Landed) (words : List Word) (old new : Outside) (f f' : Counts) (s : Status)
    → Ends landed (the_work_with Dumps words) old new f f' s
    → KeepsHeadline landed words old new s
keeps_headline Dumps landed words old new f f' s ends c (workers, means) reads told is =
    let (same, came) = done_means landed (the_work_with Dumps words) old new f f' (subst (Ends landed (the_work_with Dumps words) old new f f') is ends) in
    each_headline landed reads c old new f f' told (names_apart words c (workers, means))
    (ends_done landed (cover_work c) old f new f' same (came_so Dumps words _ means landed old new (stops done) came))
