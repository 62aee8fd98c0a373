-- A body under several lists of names: its frames say the same by names, and so the kind check comes to the same.
use Rattle.std.proofs.Common.{◌≡◌, ◌⊎◌, inl, inr, ℕ, zero, suc, ◌<◌, List, [], ◌∷◌, length, map, get_or, Option, Some, None, if◌then◌else◌, refl, sym, ◌∙◌, ap, ap₂, subst, arith}
use Rattle.std.specs.Option.{option_and_then, IsSome}
use Rattle.jc_methods.specs.VerificationTypes.{Names, TypeState, TypeStateAt, type_state_at, AreNumberedFrames, Grows}
use Rattle.jc_methods.specs.EntryState.{entry_of}
use Rattle.jc_methods.specs.declared.body.Body.{Body}
use Rattle.jc_methods.specs.declared.body.FrameAt.{FrameAt}
use Rattle.jc_methods.specs.declared.body.Handler.{Handler}
use Rattle.jc_methods.specs.Flow.{GoesOnFrom, FallsInto, falls_at}
use Rattle.jc_methods.proofs.SeenLaws.{frames_stay}
use Rattle.jc_kinds_after.specs.After.{insn_at, after_of}
use Rattle.jc_kinds.specs.Checked.{JumpsTo, LeadsTo, Guards, NeedsFrame, IsMissing, at_handler, EntryClash, NoAfter, BranchClash, HandlerClash, IsClash, Checked, FirstMissing, FirstClash}
use Rattle.jc_kinds.specs.Fits.{FitsThere}
use Rattle.jc_kinds.specs.States.{frame_at, or_else, state_of, after_at}

-- the bodies are equal but for how their frames number classes, and their frames say the same by names
pub record AreSame (names others : Names) (a b : Body) : Type 0 where
  pub rest : a ≡ record b { frames = a.frames }
  pub seen : map (type_state_at names) a.frames ≡ map (type_state_at others) b.frames

pub turned : (names others : Names) (a b : Body) → AreSame names others a b → AreSame others names b a
turned names others a b same = record { rest = sym (ap (λ (x : Body). record x { frames = b.frames }) same.rest); seen = sym same.seen }

-- more names change nothing of what frames say
pub grown_same : (old new : Names) (b : Body) → Grows old new → AreNumberedFrames (length old) b.frames → AreSame old new b b
grown_same old new b grows numbered = record {
  rest = refl;
  seen = sym (ap (λ (names : Names). map (type_state_at names) b.frames) grows.1 ∙ frames_stay old grows.0 b.frames numbered);
}

-- ---- frames

pub same_head : {s t : TypeStateAt} {ss ts : List TypeStateAt} → s ∷ ss ≡ t ∷ ts → s ≡ t
same_head e = cc

pub same_tail : {s t : TypeStateAt} {ss ts : List TypeStateAt} → s ∷ ss ≡ t ∷ ts → ss ≡ ts
same_tail e = cc

-- a frame of the one list has one of the other at its instruction
frame_there : (names others : Names) (fs gs : List FrameAt) → map (type_state_at names) fs ≡ map (type_state_at others) gs → (k : ℕ) (f : FrameAt) → k < length fs → get_or fs k f ≡ f
    → (g : FrameAt) × ((j : ℕ) × (j < length gs) × (get_or gs j g ≡ g)) × (g.at ≡ f.at)
frame_there names others [] gs same k f less is = absurd (omega (arith, less))
frame_there names others (x ∷ fs) [] same k f less is = absurd (no_frame same)
  where
    no_frame : {s : TypeStateAt} {ss : List TypeStateAt} → s ∷ ss ≡ [] → ⊥
    no_frame e = cc
frame_there names others (x ∷ fs) (y ∷ gs) same zero f less is = (y, (0, omega arith, refl), sym (ap (λ (s : TypeStateAt). s.at) (same_head same)) ∙ ap (λ (g : FrameAt). g.at) is)
frame_there names others (x ∷ fs) (y ∷ gs) same (suc k) f less is =
    let found = frame_there names others fs gs (same_tail same) k f (omega (arith, less)) is in
    let within = found.1.1 in
    (found.0, (suc found.1.0, omega (arith, within), found.1.2), found.2)

fit_as : (x y s t : Option TypeState) → x ≡ s → y ≡ t → FitsThere x y → FitsThere s t
fit_as x y s t xs yt fits = subst (λ (o : Option TypeState). FitsThere s o) yt (subst (λ (o : Option TypeState). FitsThere o y) xs fits)

-- ---- where control goes doesn't depend on the frames

module _ (b : Body) (fs gs : List FrameAt) where
  abbrev one : Body
  one = record b { frames = fs }

  abbrev other : Body
  other = record b { frames = gs }

  jumps : (i j : ℕ) → JumpsTo one i j → JumpsTo other i j
  jumps i j jump = record { insn = jump.insn; stands = jump.stands; target = jump.target }

  pub goes : (i : ℕ) → GoesOnFrom one i → GoesOnFrom other i
  goes i go = record { insn = go.insn; stands = go.stands; falls = go.falls }

  pub leads : (i j : ℕ) → LeadsTo one i j → LeadsTo other i j
  leads i j (inl next) = inl (goes i next.0, next.1)
  leads i j (inr jump) = inr (jumps i j jump)

  falls : (j : ℕ) → FallsInto one j → FallsInto other j
  falls j fall = (fall.0, fall.1, goes fall.0 fall.2)

  pub guarded : (h : Handler) (i : ℕ) → Guards one h i → Guards other h i
  guarded h i guard = record { row = guard.row; start = guard.start; end = guard.end }

needs : (b : Body) (fs gs : List FrameAt) (j : ℕ) → NeedsFrame (record b { frames = fs }) j → NeedsFrame (record b { frames = gs }) j
needs b fs gs j (inl jump) = inl (jump.0, jumps b fs gs jump.0 j jump.1)
needs b fs gs j (inr (inl handler)) = inr (inl handler)
needs b fs gs j (inr (inr behind)) = inr (inr (behind.0, λ fall. behind.1 (falls b gs fs j fall)))

-- ---- the kind check

module _ (names others : Names) (b : Body) (fs gs : List FrameAt) (same : map (type_state_at names) fs ≡ map (type_state_at others) gs) where
  missing : (i : ℕ) → IsMissing (record b { frames = fs }) i → IsMissing (record b { frames = gs }) i
  missing i m = record {
    within = m.within;
    needs = needs b fs gs i m.needs;
    none = λ frame.
        let found = frame_there others names gs fs (sym same) frame.1.0 frame.0 frame.1.1 frame.1.2 in
        m.none (found.0, found.1, found.2 ∙ frame.2);
  }

  states : (i : ℕ) → state_of names (record b { frames = fs }) i ≡ state_of others (record b { frames = gs }) i
  unfolding state_of after_of
  states zero = ap (λ (l : List TypeStateAt). or_else (frame_at l 0) (Some (entry_of b))) same
  states (suc i) =
      ap₂ (λ (l : List TypeStateAt) (s : Option TypeState). or_else (frame_at l (suc i)) (if falls_at (insn_at b i) then option_and_then (after_of b i) s else None))
      same (states i)

  afters : (i : ℕ) → after_at names (record b { frames = fs }) i ≡ after_at others (record b { frames = gs }) i
  unfolding after_of
  afters i = ap (λ (s : Option TypeState). option_and_then (after_of b i) s) (states i)

-- each part of the check, from the one list of frames to the other
module _ (names others : Names) (b : Body) (fs gs : List FrameAt) (same : map (type_state_at names) fs ≡ map (type_state_at others) gs) where
  fits_back : (x : Option TypeState) (i : ℕ) → (FitsThere x (state_of names (record b { frames = fs }) i) → ⊥) → FitsThere x (state_of others (record b { frames = gs }) i) → ⊥
  fits_back x i bad fits = bad (subst (λ (o : Option TypeState). FitsThere x o) (sym (states names others b fs gs same i)) fits)

  clash : (i : ℕ) → IsClash names (record b { frames = fs }) i → IsClash others (record b { frames = gs }) i
  clash i c = record { within = c.within; cause = by c.cause }
    where
      one : Body
      one = record b { frames = fs }

      other : Body
      other = record b { frames = gs }

      by : EntryClash names one i ⊎ (NoAfter names one i ⊎ (BranchClash names one i ⊎ HandlerClash names one i))
          → EntryClash others other i ⊎ (NoAfter others other i ⊎ (BranchClash others other i ⊎ HandlerClash others other i))
      by (inl entry) = inl (entry.0, fits_back (Some (entry_of b)) 0 entry.1)
      by (inr (inl none)) = inr (inl (sym (afters names others b fs gs same i) ∙ none))
      by (inr (inr (inl branch))) = inr (inr (inl (
        branch.0,
        leads b fs gs i branch.0 branch.1,
        λ fits. branch.2
            (fit_as _ _ _ _ (sym (afters names others b fs gs same i)) (sym (states names others b fs gs same branch.0)) fits),
      )))
      by (inr (inr (inr handler))) = inr (inr (inr (
        handler.0,
        guarded b fs gs handler.0 i handler.1,
        λ fits. handler.2
            (fit_as _ _ _ _ (sym (ap (at_handler b handler.0) (states names others b fs gs same i))) (sym (states names others b fs gs same handler.0.target)) fits),
      )))

  check : Checked names (record b { frames = fs }) → Checked others (record b { frames = gs })
  check c = record {
    none_missing = λ i m. c.none_missing i (missing others names b gs fs (sym same) i m);
    entry = subst (λ (o : Option TypeState). FitsThere (Some (entry_of b)) o) (states names others b fs gs same 0) c.entry;
    after = λ i less. subst IsSome (afters names others b fs gs same i) (c.after i less);
    branches = λ i j way. fit_as _ _ _ _ (afters names others b fs gs same i) (states names others b fs gs same j) (c.branches i j (leads b gs fs i j way));
    handlers = λ h i guard less. fit_as _ _ _ _ (ap (at_handler b h) (states names others b fs gs same i)) (states names others b fs gs same h.target)
        (c.handlers h i (guarded b gs fs h i guard) less);
  }

  first_missing : (i : ℕ) → FirstMissing (record b { frames = fs }) i → FirstMissing (record b { frames = gs }) i
  first_missing i f = record {
    there = missing names others b fs gs same i f.there;
    first = λ before less m. f.first before less (missing others names b gs fs (sym same) before m);
  }

module _ (names others : Names) (b : Body) (fs gs : List FrameAt) (same : map (type_state_at names) fs ≡ map (type_state_at others) gs) where
  first_clash : (i : ℕ) → FirstClash names (record b { frames = fs }) i → FirstClash others (record b { frames = gs }) i
  first_clash i f = (
    λ place m. f.0 place (missing others names b gs fs (sym same) place m),
    record {
      there = clash names others b fs gs same i f.1.there;
      first = λ before less c. f.1.first before less (clash others names b gs fs (sym same) before c);
    },
  )

module _ (names others : Names) (a b : Body) (same : AreSame names others a b) where
  pub same_state : (i : ℕ) → state_of names a i ≡ state_of others b i
  same_state i = ap (λ (x : Body). state_of names x i) same.rest ∙ states names others b a.frames b.frames same.seen i

  pub same_missing : (i : ℕ) → FirstMissing a i → FirstMissing b i
  same_missing i f = first_missing names others b a.frames b.frames same.seen i (subst (λ (x : Body). FirstMissing x i) same.rest f)

  pub same_clash : (i : ℕ) → FirstClash names a i → FirstClash others b i
  same_clash i f = first_clash names others b a.frames b.frames same.seen i (subst (λ (x : Body). FirstClash names x i) same.rest f)

  pub same_check : Checked names a → Checked others b
  same_check c = check names others b a.frames b.frames same.seen (subst (Checked names) same.rest c)
