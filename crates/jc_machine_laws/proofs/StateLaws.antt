-- The states before the instructions of a body.
use Rattle.std.proofs.Common.{◌≡◌, ℕ, zero, suc, ◌+◌, Bool, true, false, cond, List, [], ◌∷◌, length, map, Option, Some, None, nat_eq, refl, ◌∙◌, subst}
use Rattle.std.specs.Prelude.{option_and_then}
use Rattle.std.proofs.lemmas.List.{length-map}
use Rattle.std.proofs.lemmas.Option.{same_Some}
use Rattle.jc_bytes.proofs.OptionLaws.{none_some, then_some}
use Rattle.jc_methods.specs.declared.insn.Insn.{Insn}
use Rattle.jc_methods.specs.declared.body.FrameAt.{FrameAt}
use Rattle.jc_methods.specs.declared.body.Body.{Body}
use Rattle.jc_methods.specs.EntryState.{entry_of}
use Rattle.jc_methods.specs.VerificationTypes.{Names, TypeState, verification_type, type_state_at}
use Rattle.jc_methods.specs.WellMade.{AreFramesFrom, IsState, IsWellMadeOfAnySize}
use Rattle.jc_methods.specs.Flow.{falls_at}
use Rattle.jc_methods.proofs.EntryLaws.{entry_count}
use Rattle.jc_kinds_after.specs.Step.{apply}
use Rattle.jc_kinds_after.specs.After.{step_of, returns_of, insn_at, ground_of, after_of}
use Rattle.jc_kinds_after.proofs.KeepLaws.{step_count}
use Rattle.jc_kinds.specs.States.{frames_of, frame_at, or_else, state_of}

-- What is true of the states of frames and of that in which the method begins, and is kept by each instruction, is true of all.
module _ (names : Names) (b : Body) (w : IsWellMadeOfAnySize b) (P : TypeState → Type 0)
    (of_frame : (f : FrameAt) → IsState b.code b.max_locals b.max_stack f.state → P (type_state_at names f).state)
    (of_entry : P (entry_of b))
    (of_step : (i : ℕ) (insn : Insn) (k t : TypeState) → P k → apply (ground_of b i) (step_of b.uses (returns_of b) insn) k ≡ Some t → P t) where
  in_frames : (first : ℕ) (frames : List FrameAt) (i : ℕ) (s : TypeState) → AreFramesFrom first b.code b.max_locals b.max_stack frames
      → frame_at (map (type_state_at names) frames) i ≡ Some s → P s
  in_frames first [] i s are e = absurd (none_some e)
  in_frames first (f ∷ frames) i s are e = by (nat_eq f.at i) (λ g. in_frames (f.at + 1) frames i s are.3 g) e
    where
      by : (z : Bool) → (frame_at (map (type_state_at names) frames) i ≡ Some s → P s)
          → cond z (Some (type_state_at names f).state) (frame_at (map (type_state_at names) frames) i) ≡ Some s → P s
      by true again g = subst P (same_Some (type_state_at names f).state s g) (of_frame f are.2)
      by false again g = again g

  pub each_state : (i : ℕ) (s : TypeState) → state_of names b i ≡ Some s → P s
  unfolding state_of after_of
  each_state zero s e = by (frame_at (frames_of names b) 0) refl e
    where
      by : (o : Option TypeState) → frame_at (frames_of names b) 0 ≡ o → or_else o (Some (entry_of b)) ≡ Some s → P s
      by None q g = subst P (same_Some (entry_of b) s g) of_entry
      by (Some k) q g = in_frames 0 b.frames 0 s w.frames (q ∙ g)
  each_state (suc i) s e = by (λ u q. each_state i u q) (frame_at (frames_of names b) (suc i)) refl e
    where
      after : ((u : TypeState) → state_of names b i ≡ Some u → P u) → (z : Bool)
          → cond z (option_and_then (after_of b i) (state_of names b i)) None ≡ Some s → P s
      after before true g =
          let p = then_some (after_of b i) (state_of names b i) s g in
          let q = then_some (λ (insn : Insn). apply (ground_of b i) (step_of b.uses (returns_of b) insn) p.0) (insn_at b i) s p.2 in
          of_step i q.0 p.0 s (before p.0 p.1) q.2
      after before false g = absurd (none_some g)

      by : ((u : TypeState) → state_of names b i ≡ Some u → P u) → (o : Option TypeState) → frame_at (frames_of names b) (suc i) ≡ o
          → or_else o (cond (falls_at (insn_at b i)) (option_and_then (after_of b i) (state_of names b i)) None) ≡ Some s → P s
      by before None q g = after before (falls_at (insn_at b i)) g
      by before (Some k) q g = in_frames 0 b.frames (suc i) s w.frames (q ∙ g)

-- each has as many local variables as the body
pub state_count : (names : Names) (b : Body) → IsWellMadeOfAnySize b → (i : ℕ) (s : TypeState) → state_of names b i ≡ Some s → length s.locals ≡ b.max_locals
state_count names b w i s e =
    each_state names b w (λ (x : TypeState). length x.locals ≡ b.max_locals)
    (λ f h. length-map f.state.locals (verification_type names) ∙ h.locals) (entry_count b w)
    (λ j insn k t h g. step_count (ground_of b j) (step_of b.uses (returns_of b) insn) k t g ∙ h) i s e
