-- Frames of two lists that say the same by the names of classes, put together.
use Rattle.std.proofs.Common.{◌≡◌, ℕ, zero, suc, Bool, true, false, List, [], ◌∷◌, ◌++◌, map, nat_eq, nat_lt, refl, sym, ◌∙◌, ap, ap₂, if◌then◌else◌}
use Rattle.std.proofs.lemmas.List.{map-append}
use Rattle.jc_methods.specs.VerificationTypes.{Names, TypeStateAt, type_state_at}
use Rattle.jc_bytes.specs.PlainLists.{pieces}
use Rattle.jc_methods.specs.Widened.{WideSet}
use Rattle.jc_methods.specs.declared.body.FrameAt.{FrameAt}
use Rattle.jc_layout.specs.Merged.{is_used_by, merged, used_frames, with_frame}
use Rattle.jc_instrument_reread.proofs.SameBodyLaws.{same_head, same_tail}

module _ (names others : Names) where
  -- the frames say the same by names
  abbrev pub SayTheSame : List FrameAt → List FrameAt → Type 0
  SayTheSame fs gs = map (type_state_at names) fs ≡ map (type_state_at others) gs

  pub both_same : (fs gs more last : List FrameAt) → SayTheSame fs gs → SayTheSame more last → SayTheSame (fs ++ more) (gs ++ last)
  both_same fs gs more last p q =
      map-append (type_state_at names) fs more ∙ ap₂ (λ (x : List TypeStateAt) (y : List TypeStateAt). x ++ y) p q ∙ sym (map-append (type_state_at others) gs last)

  pub pieces_same : (f g : ℕ → List FrameAt) → ((i : ℕ) → SayTheSame (f i) (g i)) → (n : ℕ) → SayTheSame (pieces f n) (pieces g n)
  pieces_same f g same zero = refl
  pieces_same f g same (suc n) = both_same (pieces f n) (pieces g n) (f n) (g n) (pieces_same f g same n) (same n)

  no_frame : {s : TypeStateAt} {ss : List TypeStateAt} → s ∷ ss ≡ [] → ⊥
  no_frame e = cc

  put_same : (f g : FrameAt) (fs gs : List FrameAt) → type_state_at names f ≡ type_state_at others g → SayTheSame fs gs → SayTheSame (with_frame f fs) (with_frame g gs)
  put_same f g [] [] same all = λ i. same i ∷ []
  put_same f g [] (y ∷ gs) same all = absurd (no_frame (sym all))
  put_same f g (x ∷ fs) [] same all = absurd (no_frame all)
  put_same f g (x ∷ fs) (y ∷ gs) same all =
      ap₂ (λ (m n : ℕ). map (type_state_at names) (if nat_lt m n then f ∷ x ∷ fs else if nat_eq m n then x ∷ fs else x ∷ with_frame f fs)) (ap (λ (s : TypeStateAt). s.at) same)
      (ap (λ (s : TypeStateAt). s.at) (same_head all)) ∙ by (nat_lt g.at y.at) (nat_eq g.at y.at) (put_same f g fs gs same (same_tail all))
    where
      by : (t u : Bool) → SayTheSame (with_frame f fs) (with_frame g gs)
          → SayTheSame (if t then f ∷ x ∷ fs else if u then x ∷ fs else x ∷ with_frame f fs) (if t then g ∷ y ∷ gs else if u then y ∷ gs else y ∷ with_frame g gs)
      by true u later = λ i. same i ∷ all i
      by false true later = all
      by false false later = ap₂ (λ (s : TypeStateAt) (ss : List TypeStateAt). s ∷ ss) (same_head all) later

  pub merged_same : (fs gs more last : List FrameAt) → SayTheSame fs gs → SayTheSame more last → SayTheSame (merged fs more) (merged gs last)
  merged_same fs gs [] [] p q = p
  merged_same fs gs [] (y ∷ last) p q = absurd (no_frame (sym q))
  merged_same fs gs (x ∷ more) [] p q = absurd (no_frame q)
  merged_same fs gs (x ∷ more) (y ∷ last) p q = put_same x y (merged fs more) (merged gs last) (same_head q) (merged_same fs gs more last p (same_tail q))

  pub used_same : (wide : WideSet) (fs gs : List FrameAt) → SayTheSame fs gs → SayTheSame (used_frames wide fs) (used_frames wide gs)
  used_same wide [] [] all = refl
  used_same wide [] (y ∷ gs) all = absurd (no_frame (sym all))
  used_same wide (x ∷ fs) [] all = absurd (no_frame all)
  used_same wide (x ∷ fs) (y ∷ gs) all =
      ap (λ (m : ℕ). map (type_state_at names) (if is_used_by wide m then x ∷ used_frames wide fs else used_frames wide fs))
      (ap (λ (s : TypeStateAt). s.at) (same_head all)) ∙ by (is_used_by wide y.at) (used_same wide fs gs (same_tail all))
    where
      by : (t : Bool) → SayTheSame (used_frames wide fs) (used_frames wide gs)
          → SayTheSame (if t then x ∷ used_frames wide fs else used_frames wide fs) (if t then y ∷ used_frames wide gs else used_frames wide gs)
      by true later = ap₂ (λ (s : TypeStateAt) (ss : List TypeStateAt). s ∷ ss) (same_head all) later
      by false later = later
