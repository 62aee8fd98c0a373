-- A command that reads, judges and then writes: its one work, its ends, and how it ends by how each of its parts did.
use Rattle.std.proofs.Common.{◌≡◌, ◌⊎◌, ℕ, Bool, true, false, List, [], map, Option, Result, Ok, Err, inl, inr, refl, subst}
use Rattle.jc_command_work.specs.declared.output.Write.{Write as Written}
use Rattle.jc_command_work.specs.declared.status.Status.{Status}
use Rattle.jc_command_work.specs.declared.stop.Stop.{Stop}
use Rattle.jc_command_work.specs.Step.{Word, Outside, Counts, Landed, Write, Step}
use Rattle.jc_command_work.specs.Part.{End, done, unmet, unread, status_of, Outcome, gives, stops, ending, writing_all, ◌>>=◌}
use Rattle.jc_command_work.specs.Ending.{CameTo, Stops, Does, Reports, Ends}
use Rattle.jc_command_work.specs.OneWay.{HasOne, writes_of}
use Rattle.jc_command_work.specs.Causes.{EndsIn}
use Rattle.jc_command_work.specs.Answered.{HasOneAnswer, preparing}
use Rattle.jc_command_work.specs.Closing.{end_of, closing}
use Rattle.jc_command_work.specs.Seen.{write_seen, stop_seen}
use Rattle.jc_command_work.proofs.AnsweredLaws.{has_preparing}
use Rattle.jc_command_work.proofs.CauseLaws.{ends_then, ends_preparing}
use Rattle.jc_command_work.proofs.ClosingLaws.{has_closing, ends_closing, closing_ends}
use Rattle.jc_command_work.proofs.NoWrites.{none_preparing}
use Rattle.jc_command_work.proofs.OneWork.{has_then}
use Rattle.jc_command_rules.specs.declared.check.Checked.{Checked}
use Rattle.jc_command_rules.specs.CheckAnswers.{Verdict}
use Rattle.jc_command_rules.specs.Printing.{verdict_seen}
use Rattle.jc_top.specs.Completes.{CompletesCheck}
use Rattle.jc_top.specs.FirstWrite.{HasWrittenAll}
use Rattle.jc_top.specs.Work.{judged}
use Rattle.jc_top.proofs.CommandLaws.{ends_behind, ends_before}

abbrev closed : Verdict → List Step → Outcome ⊥ → Type 0
closed verdict = closing verdict.writes verdict.holds

module _ (inputs : List Word) (Answers : List (List ℕ) → Outcome Verdict → Type 0) where
  pub has_judged : (landed : Landed) → HasOneAnswer inputs Answers → HasOne landed (judged inputs Answers)
  has_judged landed one =
      has_then landed (preparing inputs Answers) closed (has_preparing landed inputs Answers one) (λ verdict. has_closing landed verdict.writes verdict.holds)

  pub ends_judged : (Is : End → Type 0) → Is done → Is unmet → ((path : Word) → Is (unread path))
      → ((texts : List (List ℕ)) (end : End) → Answers texts (stops end) → Is end) → EndsIn Is (judged inputs Answers)
  ends_judged Is done_is unmet_is unread_is own =
      ends_then Is (preparing inputs Answers) closed (ends_preparing Is inputs Answers unread_is own)
      (λ verdict. ends_closing Is verdict.writes verdict.holds done_is unmet_is)

  -- all was written at its end, whether the rules hold or not, or nothing was
  pub judged_or_none : (steps : List Step) (end : End) → judged inputs Answers steps (stops end) → HasWrittenAll end ⊎ (writes_of steps ≡ [])
  judged_or_none steps end (inl within) = inr (none_preparing inputs Answers steps (stops end) within)
  judged_or_none steps end (inr h) = inl (closing_ends h.value.writes h.value.holds h.behind end h.goes_on)

-- ---- writes

-- the end behind the writes
closed_at : (landed : Landed) (holds : Bool) (w : Outside) (f : Counts) → Ends landed (ending (end_of holds)) w w f f (status_of (end_of holds))
closed_at landed true w f =
    inl (record { end = done; stands = w; came = record { steps = []; comes = refl; begun = inl refl; fit = tt; stand = refl }; is = refl; says = (refl, refl) })
closed_at landed false w f =
    inl (record { end = unmet; stands = w; came = record { steps = []; comes = refl; begun = inl refl; fit = tt; stand = refl }; is = refl; says = (refl, refl) })

-- of equal writes
module _ (landed : Landed) (made writes : List Written) (same : made ≡ writes) (holds : Bool) (old mid : Outside) (f g : Counts) where
  -- the writes were made
  pub closed_all : (g ≡ f) × CameTo landed (writing_all (map write_seen made)) old mid (gives tt)
      → Ends landed (closing (map write_seen writes) holds) old mid f g (status_of (end_of holds))
  closed_all does =
      subst (λ (ws : List Written). Ends landed (closing (map write_seen ws) holds) old mid f g (status_of (end_of holds))) same
      (ends_behind landed (writing_all (map write_seen made)) (λ _. ending (end_of holds)) old f tt mid mid g g (status_of (end_of holds)) does
      (closed_at landed holds mid g))

  -- a write failed, or memory was refused
  pub closed_some : (new : Outside) (f' : Counts) (stop : Option End) (s : Status) → Stops landed (writing_all (map write_seen made)) old mid f g stop
      → Reports stop mid new g f' s → Ends landed (closing (map write_seen writes) holds) old new f f' s
  closed_some new f' stop s stopped reports =
      subst (λ (ws : List Written). Ends landed (closing (map write_seen ws) holds) old new f f' s) same
      (ends_before landed (writing_all (map write_seen made)) (λ _. ending (end_of holds)) old f mid new g f' stop s stopped reports)

-- ---- the command

module _ (landed : Landed) (inputs : List Word) (Answers : List (List ℕ) → Outcome Verdict → Type 0) (old mid new : Outside) (f g f' : Counts) where
  pub check_completed : (prepared : Result Checked Stop) (s : Status) → Does landed (preparing inputs Answers) verdict_seen stop_seen old mid f g prepared
      → CompletesCheck landed prepared mid new g f' s → Ends landed (judged inputs Answers) old new f f' s
  check_completed (Ok checked) s does completes =
      ends_behind landed (preparing inputs Answers) closed old f (verdict_seen checked) mid new g f' s does completes
  check_completed (Err stop) s does completes = ends_before landed (preparing inputs Answers) closed old f mid new g f' (stop_seen stop) s does completes
