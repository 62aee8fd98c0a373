use Rattle.jc_kinds_after.proofs.ShiftLaws.{shift-law}
use Rattle.jc_kinds_after.proofs.AfterLaws.{after_shifts}
use Rattle.jc_kinds_after.proofs.laws.a_step_shifts.Goals as goal

pub returns : goal.returns
returns c = record { step = shift-law; after = after_shifts }
