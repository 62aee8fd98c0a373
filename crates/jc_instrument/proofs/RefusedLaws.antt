-- What isn't analysed isn't instrumented, and the causes have one order.
use Rattle.std.proofs.Common.{inl, inr, ℕ, List, Some, None}
use Rattle.jc_bytes.specs.declared.refusal.Refusal.{Refusal}
use Rattle.jc_class.specs.ClassId.{class_id}
use Rattle.jc_class.specs.declared.class_file.ClassFile.{ClassFile}
use Rattle.jc_instrument.specs.Causes.{Cause, unless}
use Rattle.jc_instrument.specs.LeftAlone.{is_left_alone}
use Rattle.jc_instrument.specs.Reasons.{analysis_causes, AnalysisReason}
use Rattle.jc_instrument.specs.Refused.{probe_causes, Reason}
use Rattle.jc_instrument.specs.RoomCauses.{room_causes}
use Rattle.jc_instrument.proofs.CauseLaws.{first_in_front}
use Rattle.jc_instrument.proofs.OneReasonLaws.{none_or_some}
use Rattle.jc_instrument.proofs.PassingLaws.{none_in_front}

-- the causes that stand behind those of an analysis
abbrev behind : List ℕ → ClassFile → List Cause
behind bytes c = unless (is_left_alone c) (room_causes (class_id bytes) c)

pub refused_too : (bytes : List ℕ) (r : Refusal) → AnalysisReason bytes (Some r) → Reason bytes (Some r)
refused_too bytes r (inl bad) = inl bad
refused_too bytes r (inr f) = inr (f.0, f.1, first_in_front (analysis_causes f.0) (behind bytes f.0) r f.2)

pub analysed_too : (bytes : List ℕ) → Reason bytes None → AnalysisReason bytes None
analysed_too bytes none = (none.0, none.1, none_in_front (analysis_causes none.0) (behind bytes none.0) none.2)

pub accepted_apart : (bytes : List ℕ) (r : Refusal) → Reason bytes None → Reason bytes (Some r) → ⊥
accepted_apart bytes r none some = none_or_some (probe_causes (class_id bytes)) bytes r none some
