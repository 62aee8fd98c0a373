-- The walk that builds states, and the answers of the call that reads a table.
use Rattle.std.proofs.Common.{◌≡◌, ℕ, zero, suc, List, [], ◌∷◌, ◌++◌, length, map, All, Result, Ok, Err, IfOk, IfErr, refl, sym, ◌∙◌, ap, subst, arith}
use Rattle.std.proofs.lemmas.List.{map-append}
use Rattle.std.specs.List.{AllByRecursion}
use Rattle.jc_methods.specs.declared.body.FrameAt.{FrameAt}
use Rattle.jc_bytes.specs.declared.fail.Fail.{Fail}
use Rattle.jc_bytes.specs.declared.fail.Fail.TheVariants as fails
use Rattle.jc_methods.specs.declared.kind.Kind.{Kind}
use Rattle.jc_methods.specs.declared.kind.Kind.TheVariants as kinds
use Rattle.jc_methods.specs.declared.kind.State.{State}
use Rattle.jc_bytes.specs.declared.refusal.Refusal.{Refusal}
use Rattle.jc_methods.specs.VerificationTypes.{Names, TypeState, TypeStateAt, verification_type, type_state, type_state_at, Grows, IsNumberedState, AreNumberedFrames}
use Rattle.jc_methods.specs.WellMade.{IsKind, AreFramesFrom}
use Rattle.jc_methods.proofs.NumberedLaws.{seen_grown, frames_numbered, grown_count}
use Rattle.jc_frames.specs.declared.running.Frame.{Frame}
use Rattle.jc_frames.specs.declared.running.Running.{Running}
use Rattle.jc_frames.specs.Answers.{bad_frame, IsFrameRefusal, FailsAt}
use Rattle.jc_frames.specs.Frames.{Ground, Before, is_new}
use Rattle.jc_frames.specs.Running.{found_as}
use Rattle.jc_frames.specs.Table.{StandsFor, TableFault, stands_for, at_fault, outcome_of}
use Rattle.jc_frames.specs.WellMade.{AreOffsets, HasNew}
use Rattle.jc_frames.proofs.TableLaws.{same_outcome, table_good, table_bad, table_again, table_fails, stands_fault}
use Rattle.jc_frames.proofs.WalkLaws.{Walking}
use Rattle.jc_frames.proofs.WellMadeLaws.{frames_well_made}

-- ---- lists of names that grow

pub each_of : {X : Type 0} (P : X → Type 0) (xs : List X) → AllByRecursion P xs → All P xs
each_of P [] all k d lt = absurd (omega (arith, lt))
each_of P (x ∷ xs) all zero d lt = all.0
each_of P (x ∷ xs) all (suc k) d lt = each_of P xs all.1 k d (omega (arith, lt))

pub frames_pushed : (a b : Names) (frames new : List FrameAt) (f : FrameAt) → new ≡ frames ++ f ∷ [] → Grows a b → AreNumberedFrames (length a) frames
    → IsNumberedState (length b) f.state → AreNumberedFrames (length b) new
frames_pushed a b frames new f is g all last = subst (AreNumberedFrames (length b)) (sym is) (at_end frames (frames_numbered (length a) (length b) frames (grown_count a b g) all))
  where
    at_end : (xs : List FrameAt) → AreNumberedFrames (length b) xs → AreNumberedFrames (length b) (xs ++ f ∷ [])
    at_end [] h = (last, tt)
    at_end (x ∷ xs) h = (h.0, at_end xs h.1)

-- ---- one frame more

pub built_more : (g : Ground) (later : Names) (entry : TypeState) (table : List ℕ) (count this : ℕ) (frames new : List FrameAt) (built : FrameAt)
    (running : Running) (frame : Frame) (b : Before) (rest : List ℕ)
    → new ≡ frames ++ built ∷ [] → type_state_at later built ≡ (found_as g later running frame).frame
    → Walking g entry table count this (map (type_state_at later) frames ++ (found_as g later running frame).frame ∷ []) b rest
    → Walking g entry table count this (map (type_state_at later) new) b rest
built_more g later entry table count this frames new built running frame b rest pushed same w =
    let At : List TypeStateAt → Type 0 = λ done. Walking g entry table count this done b rest in
    subst At (sym (ap (map (type_state_at later)) pushed ∙ map-append (type_state_at later) frames (built ∷ [])
    ∙ ap (λ (x : TypeStateAt). map (type_state_at later) frames ++ x ∷ []) same)) w

-- ---- the answers

pub refusal_at : (old mid : Names) (entry : State) (g : Ground) (table : List ℕ) (place : ℕ) (refusal : Refusal) → Grows old mid → IsNumberedState (length old) entry
    → refusal ≡ bad_frame place → outcome_of g (type_state mid entry) table ≡ at_fault place → FailsAt (outcome_of g (type_state old entry) table) (fails.Said refusal)
refusal_at old mid entry g table place refusal grows n is e = (place, is, ap (λ (s : TypeState). outcome_of g s table) (sym (seen_grown old mid entry grows n)) ∙ e)

module _ {X : Type 0} {m g : Ground} (is : m ≡ g) (entry : TypeState) (table : List ℕ) where
  pub refuses : (r : Result X (Fail Refusal)) → IfErr r (FailsAt (outcome_of m entry table)) → IfErr r (IsFrameRefusal g entry table)
  refuses (Ok x) h = h
  refuses (Err fails.Memory) h = h
  refuses (Err (fails.Said refusal)) h = (h.0, h.1, table_bad g entry table h.0 (sym (same_outcome is entry table) ∙ h.2))

  pub stands_memory : (r : Result X (Fail Refusal)) (frames : List TypeStateAt) → StandsFor g entry table frames → IfErr r (FailsAt (outcome_of m entry table))
      → IfErr r (λ e. e ≡ fails.Memory)
  stands_memory (Ok x) frames stands h = h
  stands_memory (Err fails.Memory) frames stands h = refl
  stands_memory (Err (fails.Said refusal)) frames stands h = absurd (stands_fault (sym (same_outcome is entry table ∙ table_again g entry table frames stands) ∙ h.2))

  pub fault_refused : (view : X → List TypeStateAt) (r : Result X (Fail Refusal)) (place : ℕ) → TableFault g entry table place
      → IfOk r (λ x. outcome_of m entry table ≡ stands_for (view x)) → IfOk r (λ x. ⊥)
  fault_refused view (Ok x) place bad h = stands_fault (sym h ∙ same_outcome is entry table ∙ table_fails g entry table place bad)
  fault_refused view (Err e) place bad h = h

  pub stands : (view : X → List TypeStateAt) (r : Result X (Fail Refusal)) → IfOk r (λ x. outcome_of m entry table ≡ stands_for (view x)) → IfOk r (λ x. StandsFor g entry table (view x))
  stands view (Ok x) h = table_good g entry table (view x) (sym (same_outcome is entry table) ∙ h)
  stands view (Err e) h = h

  pub made : (frames : X → List FrameAt) (names : Names) (r : Result X (Fail Refusal)) → AreOffsets (length g.code) g.starts → AllByRecursion (HasNew g) entry.locals
      → IfOk r (λ x. outcome_of m entry table ≡ stands_for (map (type_state_at names) (frames x))) → IfOk r (λ x. AreFramesFrom 0 g.code g.max_locals g.max_stack (frames x))
  made frames names (Ok x) o new h = frames_well_made g names entry table (frames x) o new (stands (λ y. map (type_state_at names) (frames y)) (Ok x) h)
  made frames names (Err e) o new h = h

-- the objects of the state in which the method begins that aren't initialized have a `new`
new_kind : (g : Ground) (names : Names) (k : Kind) → IsKind g.code k → HasNew g (verification_type names k)
new_kind g names (kinds.Uninit at) is = ap is_new is.1
new_kind g names k is = tt

pub new_kinds : (g : Ground) (names : Names) (ks : List Kind) → All (IsKind g.code) ks → AllByRecursion (HasNew g) (map (verification_type names) ks)
new_kinds g names [] all = tt
new_kinds g names (k ∷ ks) all = (new_kind g names k (all 0 k (omega arith)), new_kinds g names ks (λ i d lt. all (suc i) d (omega (arith, lt))))
