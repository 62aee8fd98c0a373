-- What is known of the first methods of a class, whose bodies are handed on one after the other.
use Rattle.std.specs.Prelude.{◌≡◌, ℕ, List, [], ◌∷◌, ◌++◌, Option, None, MatchOption}
use Rattle.jc_methods.specs.VerificationTypes.{Names}
use Rattle.jc_methods.specs.declared.body.Body.{Body}
use Rattle.jc_class.specs.declared.class_file.ClassFile.{ClassFile}
use Rattle.jc_plan.specs.Analysed.{all_probes}
use Rattle.jc_plan.specs.Plan.{plan_of}
use Rattle.jc_instrument.specs.Found.{AreFramesFine, ChecksOn, FramesSoFar}
use Rattle.jc_instrument.specs.Steps.{IsReading}
use Rattle.jc_instrument.specs.declared.known.Known.{Known}
use Rattle.jc_instrument.specs.declared.known.PlannedMethod.{PlannedMethod}

-- nothing is refused in the code and the frames of these methods
abbrev pub IsFine : Known → Type 0
IsFine k = (k.bad ≡ None) × AreFramesFine k.frames

-- What is known of the methods below this number. Where nothing is refused, their bodies are those that were handed on.
pub record IsKnown (names : Names) (c : ClassFile) (number : ℕ) (handed : List Body) (k : Known) : Type 0 where
  pub bodies : List Body
  pub read : IsReading names c number (record { bodies = bodies; bad = k.bad })
  pub frames : k.bad ≡ None → FramesSoFar names bodies k.frames.missing k.frames.clash
  pub handed_on : IsFine k → (handed ≡ bodies) × (k.probes ≡ all_probes handed)

-- ---- one body more

-- it is handed on with its plan
pub record IsHandedOn (b : Body) (old new : Known) (m : PlannedMethod) : Type 0 where
  pub fine : IsFine new
  pub body : m.body ≡ b
  pub plan : m.plan ≡ plan_of b old.probes
  pub next : new.probes ≡ m.plan.next

-- It is checked, unless code has a fault. Where nothing is refused, it is handed on.
pub record HandsOn (names : Names) (b : Body) (old new : Known) (handed : Option PlannedMethod) : Type 0 where
  pub bad : new.bad ≡ old.bad
  pub frames : old.bad ≡ None → ChecksOn names b old.frames new.frames
  pub handed_on : MatchOption handed (IsFine new → ⊥) (IsHandedOn b old new)

-- ---- one method more

-- its body was handed on, with its plan behind those of the bodies in front of it
pub record IsOneMore (names : Names) (c : ClassFile) (number : ℕ) (handed : List Body) (k : Known) (m : PlannedMethod) : Type 0 where
  pub known : IsKnown names c number (handed ++ m.body ∷ []) k
  pub fine : IsFine k
  pub plan : m.plan ≡ plan_of m.body (all_probes handed)

abbrev pub KnowsOn : Names → ClassFile → ℕ → List Body → Known → Option PlannedMethod → Type 0
KnowsOn names c number handed k more = MatchOption more (IsKnown names c number handed k) (IsOneMore names c number handed k)
