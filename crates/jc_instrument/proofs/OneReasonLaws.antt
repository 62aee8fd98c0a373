-- A class file has one reason for which it isn't analysed, or none.
use Rattle.std.proofs.Common.{◌≡◌, ◌⊎◌, inl, inr, ℕ, Bool, true, false, List, ◌++◌, Option, Some, None, Result, Ok, Err, MatchResult, refl, sym, ◌∙◌, ap, subst}
use Rattle.std.specs.Bool.{⊤}
use Rattle.jc_methods.specs.declared.analysed.Analysed.{Analysed}
use Rattle.jc_bytes.specs.declared.fail.Fail.{Fail}
use Rattle.jc_bytes.specs.declared.fail.Fail.TheVariants as fails
use Rattle.jc_bytes.specs.declared.refusal.Refusal.{Refusal}
use Rattle.jc_bytes.specs.declared.refusal.RefusalKind.{RefusalKind}
use Rattle.jc_bytes.specs.declared.refusal.RefusalKind.TheVariants as kinds
use Rattle.jc_class.specs.ClassText.{ClassText, FirstBad, not_a_class}
use Rattle.jc_class.specs.declared.class_file.ClassFile.{ClassFile}
use Rattle.jc_class.proofs.FirstBadLaws.{apart, one_class_of, one_place}
use Rattle.jc_body.proofs.AnswerLaws.{one_fault}
use Rattle.jc_kinds.specs.Checked.{FirstMissing, FirstClash}
use Rattle.jc_kinds.proofs.CheckLaws.{one_missing, one_clash}
use Rattle.jc_instrument.specs.Analysis.{IsAnalysis}
use Rattle.jc_instrument.specs.Causes.{Cause, IsFirstCause, unless, of_method}
use Rattle.jc_instrument.specs.LeftAlone.{is_left_alone}
use Rattle.jc_instrument.specs.Reasons.{WrongVersion, IsInstrumented, HasCodeAt, IsInterfaceWithBody, IsFaulty, OfBody, class_causes, interface_causes, code_causes, analysis_causes, ReasonBy, AnalysisReason}
use Rattle.jc_instrument.specs.Steps.{IsAnswer}
use Rattle.jc_instrument.proofs.CauseLaws.{IsSingle, AreSingle, both_single, first_or_none, one_first, one_method}
use Rattle.jc_instrument.proofs.OneBodyLaws.{same_body}
use Rattle.jc_instrument_reread.proofs.SameBodyLaws.{same_missing, same_clash}

-- ---- each cause

one_version : (c : ClassFile) → IsSingle (WrongVersion c)
one_version c r s a b = a.refusal ∙ sym b.refusal

one_instrumented : (c : ClassFile) → IsSingle (IsInstrumented c)
one_instrumented c r s a b = a.refusal ∙ sym b.refusal

one_interface : (c : ClassFile) → IsSingle (IsInterfaceWithBody c)
one_interface c r s a b = one_method kinds.InterfaceBody (HasCodeAt c) (λ number p q x y. x.3 ∙ sym y.3) r s a.method b.method

pub one_faulty : (c : ClassFile) (kind : RefusalKind) (number p q : ℕ) → IsFaulty c kind number p → IsFaulty c kind number q → p ≡ q
one_faulty c kind number p q a b = ap (λ (r : Refusal). r.place) (one_fault c number (of_method kind number p) (of_method kind number q) a b)

pub one_lack : (c : ClassFile) (number p q : ℕ) → OfBody c (λ _ b place. FirstMissing b place) number p → OfBody c (λ _ b place. FirstMissing b place) number q → p ≡ q
one_lack c number p q a b =
    one_missing b.body p q (same_missing a.names b.names a.body b.body (same_body a.names b.names c number a.body b.body a.is b.is) p a.holds) b.holds

pub one_of_clashes : (c : ClassFile) (number p q : ℕ) → OfBody c FirstClash number p → OfBody c FirstClash number q → p ≡ q
one_of_clashes c number p q a b =
    one_clash b.names b.body p q (same_clash a.names b.names a.body b.body (same_body a.names b.names c number a.body b.body a.is b.is) p a.holds) b.holds

-- ---- all of them

pub single_unless : (t : Bool) (Cs : List Cause) → AreSingle Cs → AreSingle (unless t Cs)
single_unless true Cs single = tt
single_unless false Cs single = single

pub causes_single : (c : ClassFile) → AreSingle (analysis_causes c)
causes_single c =
    both_single (class_causes c) (unless (is_left_alone c) (interface_causes c ++ code_causes c)) (one_version c, (one_instrumented c, tt))
    (single_unless (is_left_alone c) (interface_causes c ++ code_causes c) (
      one_interface c,
      (
        one_method kinds.Subroutine (IsFaulty c kinds.Subroutine) (one_faulty c kinds.Subroutine),
        (
          one_method kinds.BadCode (IsFaulty c kinds.BadCode) (one_faulty c kinds.BadCode),
          (
            one_method kinds.FrameMissing (OfBody c (λ _ b place. FirstMissing b place)) (one_lack c),
            (one_method kinds.FrameClash (OfBody c FirstClash) (one_of_clashes c), tt),
          ),
        ),
      ),
    ))

-- ---- the reason

bad_or_class : (bytes : List ℕ) (r : Refusal) (c : ClassFile) → (r ≡ not_a_class r.place) × FirstBad bytes r.place → ClassText bytes c → ⊥
bad_or_class bytes r c bad text = apart bytes c r.place text bad.1

module _ (causes : ClassFile → List Cause) where
  pub none_or_some : (bytes : List ℕ) (r : Refusal) → ReasonBy causes bytes None → ReasonBy causes bytes (Some r) → ⊥
  none_or_some bytes r none (inl bad) = bad_or_class bytes r none.0 bad none.1
  none_or_some bytes r none (inr some) =
      let same = one_class_of bytes some.0 none.0 some.1 none.1 in
      first_or_none (causes none.0) r none.2 (subst (λ (c : ClassFile). IsFirstCause (causes c) r) same some.2)

  -- where each cause gives one refusal at most, there is one reason
  module _ (single : (c : ClassFile) → AreSingle (causes c)) where
    pub one_refusal : (bytes : List ℕ) (r s : Refusal) → ReasonBy causes bytes (Some r) → ReasonBy causes bytes (Some s) → r ≡ s
    one_refusal bytes r s (inl a) (inl b) = a.0 ∙ ap not_a_class (one_place bytes r.place s.place a.1 b.1) ∙ sym b.0
    one_refusal bytes r s (inl a) (inr b) = absurd (bad_or_class bytes r b.0 a b.1)
    one_refusal bytes r s (inr a) (inl b) = absurd (bad_or_class bytes s a.0 b a.1)
    one_refusal bytes r s (inr a) (inr b) =
        let same = one_class_of bytes a.0 b.0 a.1 b.1 in
        one_first (causes b.0) r s (single b.0) (subst (λ (c : ClassFile). IsFirstCause (causes c) r) same a.2) b.2

    pub one_reason_by : (bytes : List ℕ) (a b : Option Refusal) → ReasonBy causes bytes a → ReasonBy causes bytes b → a ≡ b
    one_reason_by bytes None None p q = refl
    one_reason_by bytes None (Some s) p q = absurd (none_or_some bytes s p q)
    one_reason_by bytes (Some r) None p q = absurd (none_or_some bytes r q p)
    one_reason_by bytes (Some r) (Some s) p q = ap Some (one_refusal bytes r s p q)

pub one_reason : (bytes : List ℕ) (a b : Option Refusal) → AnalysisReason bytes a → AnalysisReason bytes b → a ≡ b
one_reason bytes a b p q = one_reason_by analysis_causes causes_single bytes a b p q

-- ---- what is so is answered

abbrev Answer : Type 0
Answer = Result Analysed (Fail Refusal)

pub accepted_answered : (bytes : List ℕ) (answer : Answer) → IsAnswer bytes answer → AnalysisReason bytes None → MatchResult answer (λ _. ⊤) (λ e. e ≡ fails.Memory)
accepted_answered bytes (Ok a) is none = tt
accepted_answered bytes (Err fails.Memory) is none = refl
accepted_answered bytes (Err (fails.Said r)) is none = absurd (none_or_some analysis_causes bytes r none is)

pub reason_answered : (bytes : List ℕ) (answer : Answer) → IsAnswer bytes answer → (r : Refusal) → AnalysisReason bytes (Some r)
    → MatchResult answer (λ _. ⊥) (λ e. (e ≡ fails.Memory) ⊎ (e ≡ fails.Said r))
reason_answered bytes (Ok a) is r some = none_or_some analysis_causes bytes r (a_none a is) some
  where
    a_none : (a : Analysed) → IsAnalysis bytes a → AnalysisReason bytes None
    a_none a is = (is.file, is.text, is.no_cause)
reason_answered bytes (Err fails.Memory) is r some = inl refl
reason_answered bytes (Err (fails.Said s)) is r some = inr (ap fails.Said (one_refusal analysis_causes causes_single bytes s r is some))
