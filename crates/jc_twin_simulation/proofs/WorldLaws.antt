-- One turn of the world of the twin, beside that of the original.
use Rattle.std.proofs.Common.{◌≡◌, inl, inr, ℕ, zero, suc, Bool, true, false, not, ◌&&◌, List, [], ◌∷◌, map, Option, Some, None, refl, sym, ap, ◌∙◌, subst}
use Rattle.std.specs.Prelude.{⊤, slice_get, slice_set, slice_index_or}
use Rattle.std.proofs.lemmas.Option.{get_or_from_slice_get}
use Rattle.jc_programs.specs.declared.program.Program.{Program}
use Rattle.jc_programs.specs.declared.run_end.Entry.{Entry}
use Rattle.jc_emit.specs.Items.{Item, image, own_of}
use Rattle.jc_emit.specs.Marks.{Marks}
use Rattle.jc_emit.proofs.ToldLaws.{mapped}
use Rattle.jc_machine_model.specs.World.{Frame, Thread, running, returned, threw, stuck, Shared, World}
use Rattle.jc_machine_model.specs.Step.{turn_of, with_after, step_of, step}
use Rattle.jc_twin_simulation.specs.Kept.{is_running, is_own, keeps, keeps_at, is_kept, step_if}
use Rattle.jc_twin_simulation.specs.Sides.{Side, AreSides, AreMarksOf}
use Rattle.jc_twin_simulation.specs.Beside.{SameFrame, SameWaits, Inside, SameShared, SameThread, SameThreads, Beside}
use Rattle.jc_twin_simulation.proofs.ThrowLaws.{SameAfter}
use Rattle.jc_twin_simulation.proofs.OwnTurnLaws.{new_no_init}
use Rattle.jc_twin_simulation.proofs.TurnLaws.{AsideTurned, aside_turned, inside_turned, inside_named, own_turned}

module _ (p p' : Program) (sides : Entry → Side) (marks : Entry → Marks) (are : AreSides p p' sides) (told : AreMarksOf p p' marks sides) where
  own_is : (f f' : Frame) (h : SameFrame p p' sides f f') → is_own p' marks f'.method f'.place ≡ own_of h.item
  own_is f f' h =
      ap (λ m. is_own p' marks m f'.place) h.one.method
      ∙ ap (λ l. slice_index_or l f'.place false) (told f.method h.one.side).own
      ∙ get_or_from_slice_get (map own_of (sides f.method).items) f'.place (own_of h.item) false (mapped own_of (sides f.method).items f'.place h.item h.here)

  pub keeps_top : (f f' : Frame) (fs' : List Frame) (h : SameFrame p p' sides f f') → keeps p' marks (running f' fs') ≡ own_of h.item
  keeps_top f f' fs' h = ap (λ b. not b && is_own p' marks f'.method f'.place) (new_no_init p p' sides f f' h.one) ∙ own_is f f' h

  module _ (s s' : Shared) (ss : SameShared p p' sides s s') where
    pub keeps_inside : (f f' : Frame) (fs fs' : List Frame) → Inside p p' sides f fs f' fs' → keeps p' marks (running f' fs') ≡ false
    keeps_inside f f' fs fs' i = ap (λ b. not b && is_own p' marks f'.method f'.place) (inside_named p p' sides are s s' ss f f' fs fs' i)

    -- ---- a turn of one thread

    abbrev pub ThreadTurned : Bool → Thread → Thread → Type 0
    ThreadTurned true x x' = SameAfter p p' sides (turn_of p s x) (turn_of p' s' x')
    ThreadTurned false x x' = SameShared p p' sides s (turn_of p' s' x').shared × SameThread p p' sides x (turn_of p' s' x').thread

    frame_turned : (f f' : Frame) (fs fs' : List Frame) (h : SameFrame p p' sides f f') → SameWaits p p' sides fs fs' → (x : Item) → h.item ≡ x
        → (b : Bool) → own_of x ≡ b
        → ThreadTurned b (running f fs) (running f' fs')
    frame_turned f f' fs fs' h w (image insn at early) e true own = own_turned p p' sides are s s' ss f f' fs fs' h w insn at early e
    frame_turned f f' fs fs' h w x e true own = cc
    frame_turned f f' fs fs' h w x e false own = let a = aside_turned p p' sides are s s' ss f f' fs fs' h w x e own in (a.shared, a.thread)

    running_turned : (f f' : Frame) (fs fs' : List Frame) → SameThread p p' sides (running f fs) (running f' fs')
        → ThreadTurned (keeps p' marks (running f' fs')) (running f fs) (running f' fs')
    running_turned f f' fs fs' (inl h) =
        subst (λ b. ThreadTurned b (running f fs) (running f' fs')) (sym (keeps_top f f' fs' h.0))
        (frame_turned f f' fs fs' h.0 h.1 h.0.item refl (own_of h.0.item) refl)
    running_turned f f' fs fs' (inr i) =
        let a = inside_turned p p' sides are s s' ss f f' fs fs' i in
        subst (λ b. ThreadTurned b (running f fs) (running f' fs')) (sym (keeps_inside f f' fs fs' i)) (a.shared, a.thread)

    pub thread_turned : (x x' : Thread) → SameThread p p' sides x x' → ThreadTurned (keeps p' marks x') x x'
    thread_turned (running f fs) (running f' fs') h = running_turned f f' fs fs' h
    thread_turned (returned v) (returned v') h = (ss, h)
    thread_turned (threw c) (threw c') h = (ss, h)
    thread_turned (stuck m q) (stuck m' q') h = (ss, h)
    thread_turned x y h = absurd h

    -- a turn of a running thread that isn't kept
    aside_frame : (f f' : Frame) (fs fs' : List Frame) → SameThread p p' sides (running f fs) (running f' fs') → keeps p' marks (running f' fs') ≡ false
        → AsideTurned p p' sides are s s' ss (running f fs) (running f' fs') (turn_of p' s' (running f' fs'))
    aside_frame f f' fs fs' (inl h) aside = aside_turned p p' sides are s s' ss f f' fs fs' h.0 h.1 h.0.item refl (sym (keeps_top f f' fs' h.0) ∙ aside)
    aside_frame f f' fs fs' (inr i) aside = inside_turned p p' sides are s s' ss f f' fs fs' i

    pub aside_thread : (x x' : Thread) → SameThread p p' sides x x' → is_running x' ≡ true → keeps p' marks x' ≡ false
        → AsideTurned p p' sides are s s' ss x x' (turn_of p' s' x')
    aside_thread (running f fs) (running f' fs') h r k = aside_frame f f' fs fs' h k
    aside_thread (returned v) (running f' fs') h r k = absurd h
    aside_thread (threw c) (running f' fs') h r k = absurd h
    aside_thread (stuck m q) (running f' fs') h r k = absurd h
    aside_thread x other h r k = cc

  -- ---- the threads of a world

  abbrev pub SameOption : Option Thread → Option Thread → Type 0
  SameOption None None = ⊤
  SameOption (Some x) (Some x') = SameThread p p' sides x x'
  SameOption None (Some x') = ⊥
  SameOption (Some x) None = ⊥

  pub same_get : (xs xs' : List Thread) → SameThreads p p' sides xs xs' → (k : ℕ) → SameOption (slice_get xs k) (slice_get xs' k)
  same_get [] [] h k = tt
  same_get (x ∷ xs) (x' ∷ xs') h zero = h.0
  same_get (x ∷ xs) (x' ∷ xs') h (suc k) = same_get xs xs' h.1 k
  same_get [] (x' ∷ xs') h k = absurd h
  same_get (x ∷ xs) [] h k = absurd h

  pub same_set : (xs xs' : List Thread) → SameThreads p p' sides xs xs' → (k : ℕ) (y y' : Thread) → SameThread p p' sides y y'
      → SameThreads p p' sides (slice_set xs k y) (slice_set xs' k y')
  same_set [] [] h k y y' s = tt
  same_set (x ∷ xs) (x' ∷ xs') h zero y y' s = (s, h.1)
  same_set (x ∷ xs) (x' ∷ xs') h (suc k) y y' s = (h.0, same_set xs xs' h.1 k y y' s)
  same_set [] (x' ∷ xs') h k y y' s = absurd h
  same_set (x ∷ xs) [] h k y y' s = absurd h

  same_set_right : (xs xs' : List Thread) → SameThreads p p' sides xs xs' → (k : ℕ) (x y' : Thread) → slice_get xs k ≡ Some x → SameThread p p' sides x y'
      → SameThreads p p' sides xs (slice_set xs' k y')
  same_set_right [] [] h k x y' e s = tt
  same_set_right (z ∷ xs) (z' ∷ xs') h zero x y' e s = let same : z ≡ x = cc in (subst (λ q. SameThread p p' sides q y') (sym same) s, h.1)
  same_set_right (z ∷ xs) (z' ∷ xs') h (suc k) x y' e s = (h.0, same_set_right xs xs' h.1 k x y' e s)
  same_set_right [] (z' ∷ xs') h k x y' e s = absurd h
  same_set_right (z ∷ xs) [] h k x y' e s = absurd h

  module _ (t : ℕ) (w w' : World) (h : Beside p p' sides w w') where
    turned_by : (b : Bool) (x x' : Thread) → slice_get w.threads t ≡ Some x → ThreadTurned w.shared w'.shared h.shared b x x'
        → Beside p p' sides (step_if b p w t) (with_after t w' (turn_of p' w'.shared x'))
    unfolding step
    turned_by true x x' e a =
        subst (λ v. Beside p p' sides v (with_after t w' (turn_of p' w'.shared x'))) (sym (ap (step_of p w t) e))
        (record {
          shared = a.shared;
          threads = same_set w.threads w'.threads h.threads t (turn_of p w.shared x).thread
              (turn_of p' w'.shared x').thread a.thread;
        })
    turned_by false x x' e a = record { shared = a.0; threads = same_set_right w.threads w'.threads h.threads t x (turn_of p' w'.shared x').thread e a.1 }

    none_turned : (b : Bool) → slice_get w.threads t ≡ None → Beside p p' sides (step_if b p w t) w'
    unfolding step
    none_turned true e = subst (λ v. Beside p p' sides v w') (sym (ap (step_of p w t) e)) h
    none_turned false e = h

    turned_at : (o o' : Option Thread) → slice_get w.threads t ≡ o → SameOption o o'
        → Beside p p' sides (step_if (keeps_at p' marks o') p w t) (step_of p' w' t o')
    turned_at None None e same = none_turned false e
    turned_at (Some x) (Some x') e same = turned_by (keeps p' marks x') x x' e (thread_turned w.shared w'.shared h.shared x x' same)
    turned_at None (Some x') e same = absurd same
    turned_at (Some x) None e same = absurd same

    -- a kept turn steps both worlds, and another one the twin's alone
    pub one_turn : Beside p p' sides (step_if (is_kept p' marks w' t) p w t) (step p' w' t)
    unfolding step
    one_turn = turned_at (slice_get w.threads t) (slice_get w'.threads t) refl (same_get w.threads w'.threads h.threads t)
