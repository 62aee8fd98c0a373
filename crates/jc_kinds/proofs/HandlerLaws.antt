-- Where the local variables that are kept don't fit a handler's frame, those that they stand for don't.
use Rattle.std.proofs.Common.{◌≡◌, ◌⊎◌, inl, inr, ⊎_elim, ℕ, zero, suc, ◌<◌, Bool, true, false, ◌&&◌, List, [], ◌∷◌, length, map, Option, Some, None, nat_eq, refl, sym, ◌∙◌, ap, ap₂, subst, arith, if◌then◌else◌}
use Rattle.std.specs.List.{Contains, slice_get}
use Rattle.std.proofs.lemmas.Bool.{and_left, and_right, and_cases, false_from_ne_true, true≢false}
use Rattle.std.proofs.lemmas.List.{get_or-map}
use Rattle.std.proofs.lemmas.List.Elements.{All-contains}
use Rattle.std.proofs.lemmas.Option.{get_or_from_slice_get, slice_get_within}
use Rattle.std.proofs.Math.Bool.{and-true}
use Rattle.jc_methods.specs.declared.kind.Kind.{Kind}
use Rattle.jc_methods.specs.declared.kind.Kind.TheVariants as kinds
use Rattle.jc_methods.specs.declared.kind.State.{State}
use Rattle.jc_methods.specs.declared.body.Handler.{Handler}
use Rattle.jc_methods.specs.declared.body.Body.{Body}
use Rattle.jc_methods.specs.VerificationTypes.{Names, VerificationType, object, verification_type, TypeState, type_state, AreNumberedFrames, Grows}
use Rattle.jc_bytes.specs.Least.{IsNowhere}
use Rattle.jc_methods.specs.WellMade.{IsHandler, IsWellMade}
use Rattle.jc_kinds.specs.Fits.{FitState, FitsThere, fits, fit_each}
use Rattle.jc_kinds.specs.States.{state_of}
use Rattle.jc_kinds.specs.Checked.{IsMissing, caught, at_handler, HandlerClash}
use Rattle.jc_kinds.specs.KindFits.{kind_fits, kinds_fit}
use Rattle.jc_kinds.specs.Frames.{frame_in}
use Rattle.jc_kinds.specs.Runs.{kind_at}
use Rattle.jc_kinds.specs.Guarded.{local_at, column_of, wanted_at, takes_object, catches, frame_catches, IsUnguarded}
use Rattle.jc_kinds.specs.StateSequence.{IsKeptAt}
use Rattle.jc_bytes.proofs.BooleanLaws.{fails_where}
use Rattle.jc_methods.proofs.NumberedLaws.{seen_grown}
use Rattle.jc_kinds.proofs.FitsLaws.{state_decided}
use Rattle.jc_kinds.proofs.KindFitsLaws.{each_held_fits}
use Rattle.jc_kinds.proofs.FrameLaws.{frame_made, frame_numbered}
use Rattle.jc_kinds.proofs.WalkLaws.{frame_is, frame_needed}

-- ---- one local variable

misfit_at : (ks ws : List Kind) (k : ℕ) → k < length ks → length ks ≡ length ws → kind_fits (kind_at ks k) (kind_at ws k) ≡ false → kinds_fit ks ws ≡ false
misfit_at [] ws k lt same e = absurd (omega (arith, lt))
misfit_at (x ∷ ks) [] k lt same e = refl
misfit_at (x ∷ ks) (w ∷ ws) zero lt same e = and_left (kind_fits x w) (kinds_fit ks ws) e
misfit_at (x ∷ ks) (w ∷ ws) (suc k) lt same e = and_right (kind_fits x w) (kinds_fit ks ws) (misfit_at ks ws k (omega (arith, lt)) (let l : length ks ≡ length ws = omega (arith, same) in l) e)

misfit_found : (ks ws : List Kind) → length ks ≡ length ws → kinds_fit ks ws ≡ false → (k : ℕ) × (k < length ks) × (kind_fits (kind_at ks k) (kind_at ws k) ≡ false)
misfit_found [] [] same e = absurd (true≢false e)
misfit_found [] (w ∷ ws) same e = absurd (omega (arith, same))
misfit_found (x ∷ ks) [] same e = absurd (omega (arith, same))
misfit_found (x ∷ ks) (w ∷ ws) same e =
    ⊎_elim
    (λ here. (0, omega arith, here))
    (λ more. let m = misfit_found ks ws (let l : length ks ≡ length ws = omega (arith, same) in l) more in let lt = m.1 in (suc m.0, omega (arith, lt), m.2))
    (and_cases (kind_fits x w) (kinds_fit ks ws) e)

-- ---- the stack

caught_object : (b : Body) (h : Handler) → (name : List ℕ) × (caught b h ≡ object name)
caught_object b h = by (nat_eq h.class 0) _ _
  where
    by : (c : Bool) (one other : List ℕ) → (name : List ℕ) × ((if c then object one else object other) ≡ object name)
    by true one other = (one, refl)
    by false one other = (other, refl)

takes_fits : (names : Names) (name : List ℕ) (k : Kind) → fits (object name) (verification_type names k) ≡ takes_object k
takes_fits names name kinds.Top = refl
takes_fits names name k = refl

catches_fits : (names : Names) (name : List ℕ) (stack : List Kind) → fit_each (object name ∷ []) (map (verification_type names) stack) ≡ catches stack
catches_fits names name [] = refl
catches_fits names name (k ∷ []) = and-true (fits (object name) (verification_type names k)) ∙ takes_fits names name k
catches_fits names name (k ∷ l ∷ more) = and_right (fits (object name) (verification_type names k)) false refl

-- ---- both

module _ (old now : Names) (b : Body) (states : List State) (i : ℕ) (s : State) (made : IsWellMade b) (missing : IsNowhere (IsMissing b)) (grown : Grows old now)
    (frames : AreNumberedFrames (length old) b.frames) (there : slice_get states i ≡ Some s) (kept : IsKeptAt old now b i s) where
  -- the state with what is caught, and the handler's frame
  tested : (h : Handler) (f : State) → Bool
  tested h f = kinds_fit s.locals f.locals && catches f.stack

  guarded_decides : (h : Handler) (f : State) → frame_in b.frames h.target ≡ Some f → tested h f ≡ false → FitsThere (at_handler b h (state_of old b i)) (state_of old b h.target) → ⊥
  unfolding tested
  guarded_decides h f e misses fit =
      let c = caught_object b h in
      let left : at_handler b h (state_of old b i) ≡ Some (record { locals = map (verification_type now) s.locals; stack = object c.0 ∷ [] }) =
      ap (at_handler b h) kept.is ∙ ap (λ (x : VerificationType). Some (record { locals = map (verification_type now) s.locals; stack = x ∷ [] })) c.1 in
      let right : state_of old b h.target ≡ Some (type_state now f) =
      frame_is old b h.target f e ∙ ap Some (sym (seen_grown old now f grown (frame_numbered (length old) b.frames frames h.target f e))) in
      let both : FitState (record { locals = map (verification_type now) s.locals; stack = object c.0 ∷ [] }) (type_state now f) =
      subst (FitsThere (Some (record { locals = map (verification_type now) s.locals; stack = object c.0 ∷ [] }))) right
      (subst (λ (t : Option TypeState). FitsThere t (state_of old b h.target)) left fit) in
      fails_where (state_decided (record { locals = map (verification_type now) s.locals; stack = object c.0 ∷ [] }) (type_state now f))
      (ap₂ (λ x y. x && y) (sym (each_held_fits now s.locals f.locals)) (catches_fits now c.0 f.stack) ∙ misses) both

  guarded_fits : (h : Handler) (f : State) → frame_in b.frames h.target ≡ Some f → tested h f ≡ true → FitsThere (at_handler b h (state_of old b i)) (state_of old b h.target)
  unfolding tested
  guarded_fits h f e holds =
      let c = caught_object b h in
      let left : at_handler b h (state_of old b i) ≡ Some (record { locals = map (verification_type now) s.locals; stack = object c.0 ∷ [] }) =
      ap (at_handler b h) kept.is ∙ ap (λ (x : VerificationType). Some (record { locals = map (verification_type now) s.locals; stack = x ∷ [] })) c.1 in
      let right : state_of old b h.target ≡ Some (type_state now f) =
      frame_is old b h.target f e ∙ ap Some (sym (seen_grown old now f grown (frame_numbered (length old) b.frames frames h.target f e))) in
      subst (λ (t : Option TypeState). FitsThere t (state_of old b h.target)) (sym left)
      (subst (FitsThere (Some (record { locals = map (verification_type now) s.locals; stack = object c.0 ∷ [] }))) (sym right)
      ((state_decided (record { locals = map (verification_type now) s.locals; stack = object c.0 ∷ [] }) (type_state now f)).to
      (ap₂ (λ x y. x && y) (sym (each_held_fits now s.locals f.locals)) (catches_fits now c.0 f.stack) ∙ holds)))

  handler_framed : (h : Handler) → Contains b.handlers h → frame_in b.frames h.target ≡ None → ⊥
  handler_framed h row e =
      let inside = All-contains (IsHandler (length b.code)) b.handlers h made.of_any_size.handlers row in
      frame_needed b h.target missing inside.target (inr (inl (h, row, refl))) e

  same_locals : (f : State) (j : ℕ) → frame_in b.frames j ≡ Some f → length s.locals ≡ length f.locals
  same_locals f j e = kept.well_made.locals ∙ sym (frame_made 0 b.code b.max_locals b.max_stack b.frames made.of_any_size.frames j f e).locals

  column_is : (slot : ℕ) → kind_at (column_of states slot) i ≡ kind_at s.locals slot
  column_is slot = get_or-map (local_at slot) states i s kinds.Top (slice_get_within states i s there) ∙ ap (local_at slot) (get_or_from_slice_get states i s s there)

  pub unguarded_clashes : IsUnguarded states b.frames b.handlers b.max_locals i → HandlerClash old b i
  unfolding tested
  unguarded_clashes (inl u) = by (frame_in b.frames u.handler.target) refl u.uncaught
    where
      by : (o : Option State) → frame_in b.frames u.handler.target ≡ o → frame_catches o ≡ false → HandlerClash old b i
      by None e misses = absurd (true≢false misses)
      by (Some f) e misses = (
        u.handler,
        record { row = u.row; start = u.guarded.start; end = u.guarded.end },
        guarded_decides u.handler f e (and_right (kinds_fit s.locals f.locals) (catches f.stack) misses),
      )
  unguarded_clashes (inr (slot, lt, u)) = by (frame_in b.frames u.handler.target) refl
      (sym (ap (λ (k : Kind). kind_fits k (wanted_at slot (frame_in b.frames u.handler.target))) (column_is slot)) ∙ u.unfit)
    where
      by : (o : Option State) → frame_in b.frames u.handler.target ≡ o → kind_fits (kind_at s.locals slot) (wanted_at slot o) ≡ false → HandlerClash old b i
      by None e misses = absurd (true≢false misses)
      by (Some f) e misses = (
        u.handler,
        record { row = u.row; start = u.guarded.start; end = u.guarded.end },
        guarded_decides u.handler f e (and_left (kinds_fit s.locals f.locals) (catches f.stack)
            (misfit_at s.locals f.locals slot (let n = kept.well_made.locals in omega (arith, lt, n)) (same_locals f u.handler.target e) misses)),
      )

  pub clash_unguarded : HandlerClash old b i → IsUnguarded states b.frames b.handlers b.max_locals i
  unfolding tested
  clash_unguarded (h, g, unfit) = by (frame_in b.frames h.target) refl
    where
      found : (f : State) → frame_in b.frames h.target ≡ Some f → (kinds_fit s.locals f.locals ≡ false) ⊎ (catches f.stack ≡ false) → IsUnguarded states b.frames b.handlers b.max_locals i
      found f e (inr misses) = inl (record { handler = h; row = g.row; guarded = record { start = g.start; end = g.end }; uncaught = ap frame_catches e ∙ misses })
      found f e (inl misses) =
          let m = misfit_found s.locals f.locals (same_locals f h.target e) misses in
          let n = kept.well_made.locals in let lt = m.1 in
          inr (
            m.0,
            omega (arith, lt, n),
            record {
              handler = h;
              row = g.row;
              guarded = record { start = g.start; end = g.end };
              unfit = ap₂ (λ (k : Kind) (o : Option State). kind_fits k (wanted_at m.0 o)) (column_is m.0) e ∙ m.2;
            },
          )

      by : (o : Option State) → frame_in b.frames h.target ≡ o → IsUnguarded states b.frames b.handlers b.max_locals i
      by None e = absurd (handler_framed h g.row e)
      by (Some f) e = found f e (and_cases (kinds_fit s.locals f.locals) (catches f.stack) (false_from_ne_true (tested h f) (λ holds. unfit (guarded_fits h f e holds))))
