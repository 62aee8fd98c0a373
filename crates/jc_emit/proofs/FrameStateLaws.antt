-- The states before the instructions at which frames stand are those of the frames.
use Rattle.std.proofs.Common.{◌≡◌, ⊎_elim, subst, ℕ, zero, suc, ◌<◌, false, List, [], ◌∷◌, length, get_or, map, Some, refl, sym, ap, ◌∙◌, arith}
use Rattle.std.specs.Prelude.{Contains}
use Rattle.std.specs.List.{AllByRecursion, IsDistinct}
use Rattle.std.specs.Str.{bytes_eq}
use Rattle.std.proofs.lemmas.Bool.{true≢false}
use Rattle.std.proofs.lemmas.Option.{slice_get-get_or}
use Rattle.std.proofs.lemmas.Slice.Eq.{bytes_eq-Decides}
use Rattle.jc_methods.specs.declared.kind.Kind.{Kind}
use Rattle.jc_methods.specs.declared.kind.Kind.TheVariants as kinds
use Rattle.jc_methods.specs.declared.kind.State.{State}
use Rattle.jc_methods.specs.declared.body.Body.{Body}
use Rattle.jc_methods.specs.declared.body.FrameAt.{FrameAt}
use Rattle.jc_methods.specs.VerificationTypes.{Names, TypeState, verification_type, type_state, IsNumbered, IsNumberedState, AreNumberedFrames}
use Rattle.jc_methods.specs.WellMade.{IsWellMadeOfAnySize}
use Rattle.jc_bytes.proofs.BooleanLaws.{none_in, which_in}
use Rattle.jc_kinds.specs.Answers.{AreStates}
use Rattle.jc_emit.specs.TwinFrames.{no_state, state_at}
use Rattle.jc_emit.specs.Emission.{HasFrameStates}
use Rattle.jc_emit.proofs.StraddlingLaws.{frame_within}
use Rattle.jc_emit.proofs.TwinPremisesLaws.{frame_found, frames_rise}
use Rattle.jc_emit.proofs.TwinStatesLaws.{frame_state_is}

-- ---- names that differ have different numbers

unlike_at : (x : List ℕ) (xs : List (List ℕ)) (n : ℕ) → AllByRecursion (λ y. bytes_eq x y ≡ false) xs → n < length xs → x ≡ get_or xs n [] → ⊥
unlike_at x [] n all lt e = absurd (omega arith)
unlike_at x (y ∷ xs) zero all lt e = true≢false (sym ((bytes_eq-Decides x y).1 e) ∙ all.0)
unlike_at x (y ∷ xs) (suc n) all lt e = unlike_at x xs n all.1 (omega arith) e

one_number : (names : Names) (m n : ℕ) → IsDistinct bytes_eq names → m < length names → n < length names → get_or names m [] ≡ get_or names n [] → m ≡ n
unfolding IsDistinct
one_number [] m n d lm ln e = absurd (omega arith)
one_number (x ∷ names) zero zero d lm ln e = refl
one_number (x ∷ names) zero (suc n) d lm ln e = absurd (unlike_at x names n d.0 (omega arith) e)
one_number (x ∷ names) (suc m) zero d lm ln e = absurd (unlike_at x names m d.0 (omega arith) (sym e))
one_number (x ∷ names) (suc m) (suc n) d lm ln e = ap suc (one_number names m n d.1 (omega arith) (omega arith) e)

module _ (names : Names) (distinct : IsDistinct bytes_eq names) where
  one_kind : (k l : Kind) → IsNumbered (length names) k → IsNumbered (length names) l → verification_type names k ≡ verification_type names l → k ≡ l
  one_kind (kinds.Object m) (kinds.Object n) a c e = ap kinds.Object (one_number names m n distinct a c (cc))
  one_kind kinds.Top kinds.Top a c e = refl
  one_kind kinds.Int kinds.Int a c e = refl
  one_kind kinds.Float kinds.Float a c e = refl
  one_kind kinds.Double kinds.Double a c e = refl
  one_kind kinds.Long kinds.Long a c e = refl
  one_kind kinds.Null kinds.Null a c e = refl
  one_kind kinds.UninitThis kinds.UninitThis a c e = refl
  one_kind (kinds.Uninit m) (kinds.Uninit n) a c e = ap kinds.Uninit (cc)
  one_kind k l a c e = cc

  same_kinds : (ks ls : List Kind) → AllByRecursion (IsNumbered (length names)) ks → AllByRecursion (IsNumbered (length names)) ls
      → map (verification_type names) ks ≡ map (verification_type names) ls → ks ≡ ls
  same_kinds [] [] a c e = refl
  same_kinds [] (l ∷ ls) a c e = cc
  same_kinds (k ∷ ks) [] a c e = cc
  same_kinds (k ∷ ks) (l ∷ ls) a c e =
      let first : verification_type names k ≡ verification_type names l = cc in
      let rest : map (verification_type names) ks ≡ map (verification_type names) ls = cc in
      let one = one_kind k l a.0 c.0 first in
      let more = same_kinds ks ls a.1 c.1 rest in
      cc

  -- so numbered states are equal by the names of classes only where they are equal
  same_state : (s t : State) → IsNumberedState (length names) s → IsNumberedState (length names) t → type_state names s ≡ type_state names t → s ≡ t
  same_state s t a c e =
      let locals = same_kinds s.locals t.locals a.locals c.locals (ap (λ (x : TypeState). x.locals) e) in
      let stack = same_kinds s.stack t.stack a.stack c.stack (ap (λ (x : TypeState). x.stack) e) in
      λ k. record { locals = locals k; stack = stack k }

  numbered_there : (frames : List FrameAt) (f : FrameAt) → AreNumberedFrames (length names) frames → Contains frames f → IsNumberedState (length names) f.state
  numbered_there [] f all c = absurd (none_in f c)
  numbered_there (g ∷ frames) f all c =
      ⊎_elim (λ same. subst (λ (x : FrameAt). IsNumberedState (length names) x.state) same all.0) (λ later. numbered_there frames f all.1 later)
      (which_in g frames f c)

  pub frames_have_states : (b : Body) (states : List State) → IsWellMadeOfAnySize b → AreNumberedFrames (length names) b.frames
      → AreStates names b states → HasFrameStates b states
  frames_have_states b states made numbered are f c =
      let within = frame_within 0 b.code b.max_locals b.max_stack b.frames made.frames f c in
      let lt : f.at < length states = omega (arith, within, are.count) in
      let at = are.each f.at (state_at states f.at) (slice_get-get_or states f.at no_state lt) in
      let there = frame_state_is names b f.at (type_state names f.state) (frame_found names 0 b.frames f (frames_rise 0 b.code b.max_locals b.max_stack b.frames made.frames) c) in
      let both : Some (type_state names (state_at states f.at)) ≡ Some (type_state names f.state) = sym at.is ∙ there in
      let e : type_state names (state_at states f.at) ≡ type_state names f.state = cc in
      same_state (state_at states f.at) f.state at.numbered (numbered_there b.frames f numbered c) e
