-- The kind check of listed bodies, as causes of the class.
use Rattle.std.proofs.Common.{◌≡◌, ◌⊎◌, inl, inr, ℕ, ◌<◌, List, Some, slice_get, sym, ◌∙◌, ap, subst, arith}
use Rattle.std.specs.Prelude.{All}
use Rattle.std.proofs.lemmas.Bool.{cases_order}
use Rattle.std.proofs.lemmas.Option.{slice_get_within, get_or_from_slice_get}
use Rattle.jc_methods.specs.VerificationTypes.{Names}
use Rattle.jc_methods.specs.declared.body.Body.{Body}
use Rattle.jc_bytes.specs.declared.refusal.Refusal.{Refusal}
use Rattle.jc_bytes.specs.declared.refusal.RefusalKind.{RefusalKind}
use Rattle.jc_bytes.specs.declared.refusal.RefusalKind.TheVariants as kinds
use Rattle.jc_class.specs.declared.class_file.ClassFile.{ClassFile}
use Rattle.jc_body.specs.BodyOf.{BodyOf, Bodiless}
use Rattle.jc_body.proofs.AnswerLaws.{bodiless_or_body, bodiless_or_fault, body_or_fault}
use Rattle.jc_kinds.specs.Checked.{Checked, FirstMissing, FirstClash}
use Rattle.jc_kinds.proofs.CheckLaws.{checked_not_missing, checked_not_clash}
use Rattle.jc_instrument.specs.Bodies.{IsListed, AreBodies}
use Rattle.jc_instrument.specs.Causes.{Never, IsFirstCause, NoCause, of_method, InMethod}
use Rattle.jc_instrument.specs.Reasons.{IsFaulty, OfBody, method_causes, frame_causes}
use Rattle.jc_instrument.specs.Steps.{InBodies, IsFrameRefusal}
use Rattle.jc_instrument.proofs.CauseLaws.{never_in_method}
use Rattle.jc_instrument.proofs.OneBodyLaws.{same_body}
use Rattle.jc_instrument_reread.proofs.SameBodyLaws.{AreSame, same_missing, same_clash}

same_item : {x y : Body} → Some x ≡ Some y → x ≡ y
same_item e = cc

-- what holds of each body of a list
pub each_at : (P : Body → Type 0) (bodies : List Body) → All P bodies → (i : ℕ) (b : Body) → slice_get bodies i ≡ Some b → P b
each_at P bodies all i b stands = subst P (get_or_from_slice_get bodies i b b stands) (all i b (slice_get_within bodies i b stands))

module _ (names : Names) (c : ClassFile) (bodies : List Body) (are : AreBodies names c bodies) where
  -- the body of a method is listed, whatever the names with which it was read
  listed : (number : ℕ) (others : Names) (b : Body) → BodyOf others c number b → IsListed bodies number
  listed number others b body = by (are.all number (slice_get_within c.methods number body.method body.at))
    where
      by : Bodiless c number ⊎ IsListed bodies number → IsListed bodies number
      by (inl none) = absurd (bodiless_or_body others c number b none body)
      by (inr l) = l

  body_at : (number : ℕ) (l : IsListed bodies number) → BodyOf names c number l.body
  body_at number l = subst (λ (n : ℕ). BodyOf names c n l.body) l.number_is (are.each l.index l.body l.stands)

  index_less : (number i : ℕ) (b : Body) (l : IsListed bodies number) → slice_get bodies i ≡ Some b → number < b.method → l.index < i
  index_less number i b l stands less = by (cases_order l.index i)
    where
      by : (l.index ≡ i) ⊎ ((l.index < i) ⊎ (i < l.index)) → l.index < i
      by (inl same) =
          let one = ap (λ (x : Body). x.method) (same_item (sym l.stands ∙ ap (slice_get bodies) same ∙ stands)) in
          let is = l.number_is in
          absurd (omega (arith, one, is, less))
      by (inr (inl before)) = before
      by (inr (inr behind)) = let more = are.rising i l.index b l.body behind stands l.stands in let is = l.number_is in absurd (omega (arith, more, is, less))

  module _ (kind : RefusalKind) (Fact : Names → Body → ℕ → Type 0)
      (moves : (others : Names) (a b : Body) → AreSame others names a b → (place : ℕ) → Fact others a place → Fact names b place) where
    holds_there : (number place : ℕ) (f : OfBody c Fact number place) → (l : IsListed bodies number) × Fact names l.body place
    holds_there number place f =
        let l = listed number f.names f.body f.is in
        (l, moves f.names f.body l.body (same_body f.names names c number f.body l.body f.is (body_at number l)) place f.holds)

    pub first_of_methods : (r : Refusal) → InBodies kind (Fact names) bodies r → InMethod kind (OfBody c Fact) r
    first_of_methods r f = record {
      number = f.body.method;
      place = f.place;
      refusal = f.refusal;
      holds = record { names = names; body = f.body; is = are.each f.index f.body f.stands; holds = f.holds };
      none_before = λ before at less earlier.
          let there = holds_there before at earlier in
          f.none_before there.0.index at there.0.body (index_less before f.index f.body there.0 f.stands less) there.0.stands there.1;
    }

    pub none_of_methods : ((i place : ℕ) (b : Body) → slice_get bodies i ≡ Some b → Fact names b place → ⊥) → Never (InMethod kind (OfBody c Fact))
    none_of_methods none = never_in_method kind (OfBody c Fact) (λ number place f.
        let there = holds_there number place f in
        none there.0.index place there.0.body there.0.stands there.1)

  moved_missing : (others : Names) (a b : Body) → AreSame others names a b → (place : ℕ) → FirstMissing a place → FirstMissing b place
  moved_missing others a b same place f = same_missing others names a b same place f

  moved_clash : (others : Names) (a b : Body) → AreSame others names a b → (place : ℕ) → FirstClash others a place → FirstClash names b place
  moved_clash others a b same place f = same_clash others names a b same place f

  pub frame_refused : (r : Refusal) → IsFrameRefusal names bodies r → IsFirstCause (frame_causes c) r
  frame_refused r (inl missing) = inl (first_of_methods kinds.FrameMissing (λ _ b place. FirstMissing b place) moved_missing r missing)
  frame_refused r (inr clash) = inr (
    none_of_methods kinds.FrameMissing (λ _ b place. FirstMissing b place) moved_missing clash.0,
    inl (first_of_methods kinds.FrameClash FirstClash moved_clash r clash.1),
  )

  pub no_frame_cause : All (Checked names) bodies → NoCause (frame_causes c)
  no_frame_cause checked = (
    none_of_methods kinds.FrameMissing (λ _ b place. FirstMissing b place) moved_missing
        (λ i place b stands f. checked_not_missing names b place (each_at (Checked names) bodies checked i b stands) f),
    (
      none_of_methods kinds.FrameClash FirstClash moved_clash (λ i place b stands f. checked_not_clash names b place (each_at (Checked names) bodies checked i b stands) f),
      tt,
    ),
  )

  no_fault : (kind : RefusalKind) (number place : ℕ) → IsFaulty c kind number place → ⊥
  no_fault kind number place fault = by (are.all number (slice_get_within c.methods number fault.method fault.at))
    where
      by : Bodiless c number ⊎ IsListed bodies number → ⊥
      by (inl none) = bodiless_or_fault c number (of_method kind number place) none fault
      by (inr l) = body_or_fault names c number l.body (of_method kind number place) (body_at number l) fault

  pub no_method_cause : NoCause (method_causes c)
  no_method_cause = (
    never_in_method kinds.Subroutine (IsFaulty c kinds.Subroutine) (no_fault kinds.Subroutine),
    (never_in_method kinds.BadCode (IsFaulty c kinds.BadCode) (no_fault kinds.BadCode), tt),
  )
