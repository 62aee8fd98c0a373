-- A command that makes its writes and ends by whether rules hold has one work, and these ends.
use Rattle.std.proofs.Common.{◌≡◌, ◌⊎◌, Bool, true, false, List, inl, inr, refl}
use Rattle.jc_command_work.specs.Step.{Landed, Write}
use Rattle.jc_command_work.specs.Part.{End, done, unmet, ending, writing_all}
use Rattle.jc_command_work.specs.OneWay.{HasOne}
use Rattle.jc_command_work.specs.Causes.{EndsIn}
use Rattle.jc_command_work.specs.Closing.{end_of, closing}
use Rattle.jc_command_work.proofs.CauseLaws.{ends_then, ends_ending, ends_writing_all}
use Rattle.jc_command_work.proofs.OneWork.{one_ending, has_then, has_writing_all}

pub has_closing : (landed : Landed) (writes : List Write) (holds : Bool) → HasOne landed (closing writes holds)
has_closing landed writes holds =
    has_then landed (writing_all writes) (λ _. ending {X = ⊥} (end_of holds)) (has_writing_all landed writes) (λ _ w told. one_ending landed w (end_of holds))

end_is : (Is : End → Type 0) (holds : Bool) → Is done → Is unmet → Is (end_of holds)
end_is Is true done_is unmet_is = done_is
end_is Is false done_is unmet_is = unmet_is

pub ends_closing : (Is : End → Type 0) (writes : List Write) (holds : Bool) → Is done → Is unmet → EndsIn Is (closing writes holds)
ends_closing Is writes holds done_is unmet_is =
    ends_then Is (writing_all writes) (λ _. ending {X = ⊥} (end_of holds)) (ends_writing_all Is writes)
    (λ _. ends_ending Is (end_of holds) (end_is Is holds done_is unmet_is))

-- all was written at its end, whether the rules hold or not
pub closing_ends : (writes : List Write) (holds : Bool) → EndsIn (λ end. (end ≡ done) ⊎ (end ≡ unmet)) (closing writes holds)
closing_ends writes holds = ends_closing (λ end. (end ≡ done) ⊎ (end ≡ unmet)) writes holds (inl refl) (inr refl)
