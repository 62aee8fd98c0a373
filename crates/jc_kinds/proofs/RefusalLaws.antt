-- What is so is what is answered, since a body passes, lacks a frame or has a clash, and only one of these.
use Rattle.std.proofs.Common.{◌≡◌, ◌⊎◌, inl, inr, ⊎_elim, ℕ, Some, Result, Ok, Err, IfOk, IfErr, MatchResult, refl, subst}
use Rattle.std.specs.Bool.{⊤}
use Rattle.jc_methods.specs.declared.body.Body.{Body}
use Rattle.jc_bytes.specs.declared.fail.Fail.{Fail}
use Rattle.jc_bytes.specs.declared.fail.Fail.TheVariants as fails
use Rattle.jc_bytes.specs.declared.refusal.Refusal.{Refusal}
use Rattle.jc_bytes.specs.declared.refusal.RefusalKind.{RefusalKind}
use Rattle.jc_bytes.specs.declared.refusal.RefusalKind.TheVariants as kinds
use Rattle.jc_methods.specs.VerificationTypes.{Names}
use Rattle.jc_kinds.specs.Checked.{Checked, FirstMissing, FirstClash}
use Rattle.jc_kinds.specs.Answers.{IsKindReason, IsKindRefusal, IsAnswer, refusal_of, lacks_frame, has_clash}
use Rattle.jc_bytes.specs.Failing.{Said}
use Rattle.jc_kinds.proofs.CheckLaws.{checked_not_missing, checked_not_clash, missing_not_clash, one_missing, one_clash}

-- ---- refusals

reasons : (names : Names) (b : Body) (kind : RefusalKind) (place : ℕ) → IsKindReason names b kind place
    → ((kind ≡ kinds.FrameMissing) × FirstMissing b place) ⊎ ((kind ≡ kinds.FrameClash) × FirstClash names b place)
reasons names b kinds.FrameMissing place r = inl (refl, r)
reasons names b kinds.FrameClash place r = inr (refl, r)
reasons names b kind place r = absurd r

same_refusal : (b : Body) (r : Refusal) (kind : RefusalKind) (place : ℕ) → r.method ≡ Some b.method → r.kind ≡ kind → r.place ≡ place → r ≡ refusal_of b kind place
same_refusal b r kind place m k p = λ i. record { kind = k i; method = m i; place = p i }

pub missing_refused : (names : Names) (b : Body) (place : ℕ) → FirstMissing b place → IsKindRefusal names b (lacks_frame b place)
missing_refused names b place f = record { method_is = refl; reason = f }

pub clash_refused : (names : Names) (b : Body) (place : ℕ) → FirstClash names b place → IsKindRefusal names b (has_clash b place)
clash_refused names b place f = record { method_is = refl; reason = f }

-- ---- each clause

-- of what is found as it should be, or of a refusal
module _ {X : Type 0} (Fact : X → Type 0) (names : Names) (b : Body) where
  pub found_answered : (r : Result X (Fail Refusal)) → IsAnswer names b Fact r → IfOk r (λ x. Checked names b × Fact x)
  found_answered (Ok x) a = a
  found_answered (Err e) a = tt

  pub passes_answered : (r : Result X (Fail Refusal)) → IsAnswer names b Fact r → IfOk r (λ _. Checked names b)
  passes_answered (Ok x) a = a.0
  passes_answered (Err e) a = tt

  pub refusals_answered : (r : Result X (Fail Refusal)) → IsAnswer names b Fact r → IfErr r (λ e. Said e (IsKindRefusal names b))
  refusals_answered (Ok x) a = tt
  refusals_answered (Err e) a = a

  pub checked_answered : (r : Result X (Fail Refusal)) → IsAnswer names b Fact r → Checked names b → MatchResult r (λ _. ⊤) (λ e. e ≡ fails.Memory)
  checked_answered (Ok x) a c = tt
  checked_answered (Err fails.Memory) a c = refl
  checked_answered (Err (fails.Said refusal)) a c = absurd (⊎_elim
      (λ w. checked_not_missing names b refusal.place c w.1)
      (λ w. checked_not_clash names b refusal.place c w.1)
      (reasons names b refusal.kind refusal.place a.reason))

  pub missing_answered : (r : Result X (Fail Refusal)) → IsAnswer names b Fact r → (i : ℕ) → FirstMissing b i
      → MatchResult r (λ _. ⊥) (λ e. (e ≡ fails.Memory) ⊎ (e ≡ fails.Said (lacks_frame b i)))
  missing_answered (Ok x) a i f = checked_not_missing names b i a.0 f
  missing_answered (Err fails.Memory) a i f = inl refl
  missing_answered (Err (fails.Said refusal)) a i f = ⊎_elim
      (λ w. inr (λ j. fails.Said (same_refusal b refusal kinds.FrameMissing i a.method_is w.0 (one_missing b refusal.place i w.1 f) j)))
      (λ w. absurd (missing_not_clash names b i refusal.place f w.1))
      (reasons names b refusal.kind refusal.place a.reason)

  pub clash_answered : (r : Result X (Fail Refusal)) → IsAnswer names b Fact r → (i : ℕ) → FirstClash names b i
      → MatchResult r (λ _. ⊥) (λ e. (e ≡ fails.Memory) ⊎ (e ≡ fails.Said (has_clash b i)))
  clash_answered (Ok x) a i f = checked_not_clash names b i a.0 f
  clash_answered (Err fails.Memory) a i f = inl refl
  clash_answered (Err (fails.Said refusal)) a i f = ⊎_elim
      (λ w. absurd (missing_not_clash names b refusal.place i w.1 f))
      (λ w. inr (λ j. fails.Said (same_refusal b refusal kinds.FrameClash i a.method_is w.0 (one_clash names b refusal.place i w.1 f) j)))
      (reasons names b refusal.kind refusal.place a.reason)

-- what says more of what is found, says less of it
pub answered_so : {X : Type 0} (Fact Other : X → Type 0) (names : Names) (b : Body) → ((x : X) → Fact x → Other x) → (r : Result X (Fail Refusal)) → IsAnswer names b Fact r → IsAnswer names b Other r
answered_so Fact Other names b so (Ok x) a = (a.0, so x a.1)
answered_so Fact Other names b so (Err e) a = a

-- whatever is found, where nothing is said of it
pub answered_found : {X : Type 0} (Fact : X → Type 0) (names : Names) (b : Body) (x : X) (r : Result X (Fail Refusal)) → r ≡ Ok x
    → IsAnswer names b Fact r → IsAnswer names b (λ (u : Unit {0}). ⊤) (Ok tt)
answered_found Fact names b x r is a = ((subst (IsAnswer names b Fact) is a).0, tt)

pub answered_refused : {X : Type 0} (Fact : X → Type 0) (names : Names) (b : Body) (e : Fail Refusal) (r : Result X (Fail Refusal)) → r ≡ Err e
    → IsAnswer names b Fact r → IsAnswer names b (λ (u : Unit {0}). ⊤) (Err e)
answered_refused Fact names b e r is a = subst (IsAnswer names b Fact) is a
