-- What hits of a twin's run have to do with the edges of the original's run under the kept turns.
use Rattle.std.proofs.Common.{◌≡◌, inl, inr, ℕ, Bool, true, false, List, [], ◌∷◌, ◌++◌, Option, Some, None, option_map, refl, sym, ap, ◌∙◌, subst, append_assoc}
use Rattle.std.specs.Prelude.{slice_get}
use Rattle.std.proofs.lemmas.Bool.{true≢false}
use Rattle.std.proofs.lemmas.List.{append-nil}
use Rattle.jc_bytes.proofs.ListLaws.{all_at}
use Rattle.jc_programs.specs.declared.program.Program.{Program}
use Rattle.jc_programs.specs.declared.run_end.Entry.{Entry}
use Rattle.jc_plan.specs.ClassEdges.{ProgramEdge}
use Rattle.jc_emit.specs.Items.{Item, image, at_of, own_of}
use Rattle.jc_emit.specs.Local.{due_of, early_of}
use Rattle.jc_emit.specs.Marks.{Marks}
use Rattle.jc_machine_model.specs.World.{Frame, Thread, running, returned, threw, stuck, Shared, World}
use Rattle.jc_machine_model.specs.Step.{result_of, after_result, turn_of, step_of, step}
use Rattle.jc_machine_model.specs.Run.{run_from}
use Rattle.jc_machine_model.specs.Taken.{thread_edges, turn_edges, taken_from}
use Rattle.jc_twin_simulation.specs.Kept.{is_running, keeps, keeps_at, is_kept, kept, step_if}
use Rattle.jc_twin_simulation.specs.Schedules.{turn_when}
use Rattle.jc_twin_simulation.specs.Sides.{Side, array_of, AreSides, AreMarksOf}
use Rattle.jc_twin_simulation.specs.Beside.{pushed_of, SameLocals, SameFrame, SameWaits, SameShared, SameThread, Beside}
use Rattle.jc_twin_simulation.specs.Probes.{hit_of, nothing, due_in, early_in}
use Rattle.jc_twin_simulation.proofs.OwnLaws.{AtImage}
use Rattle.jc_twin_simulation.proofs.TurnLaws.{hit_top}
use Rattle.jc_twin_simulation.proofs.WorldLaws.{keeps_top, keeps_inside, aside_thread, SameOption, same_get, one_turn}
use Rattle.jc_twin_exact.proofs.ValueLaws.{InStatics}
use Rattle.jc_twin_exact.proofs.GoodLaws.{IsOther, HasNoInit, IsGood, IsGoodWorld, step_good}
use Rattle.jc_twin_exact.proofs.MarkLaws.{Moves, passes_move, owes_move, AreMarked, turn_marked}
use Rattle.jc_twin_exact.proofs.OwnMoveLaws.{own_moves}

module _ (p p' : Program) (sides : Entry → Side) (marks : Entry → Marks) (are : AreSides p p' sides) (told : AreMarksOf p p' marks sides)
    (no_init : HasNoInit p) where
  abbrev edges_if : Bool → List ProgramEdge → List ProgramEdge
  edges_if true edges = edges
  edges_if false edges = []

  -- ---- one thread

  module _ (s s' : Shared) (ss : SameShared p p' sides s s') (statics : InStatics IsOther s.statics) where
    -- a turn of this thread
    abbrev Moved : Bool → Thread → Thread → Type 0
    Moved b x x' =
        Moves p' sides (due_in p' sides x') (early_in p' sides x') (turn_of p' s' x').hits (edges_if b (thread_edges p s (Some x)))
        (due_in p' sides (turn_of p' s' x').thread) (early_in p' sides (turn_of p' s' x').thread)

    own_moved : (f f' : Frame) (fs fs' : List Frame) (h : SameFrame p p' sides f f') → SameWaits p p' sides fs fs' → IsGood p (running f fs)
        → (x : Item) → h.item ≡ x → own_of x ≡ true → Moved true (running f fs) (running f' fs')
    own_moved f f' fs fs' h w g (image insn at early) e own =
        let t = sides f.method in
        let place : at ≡ f.place = ap at_of (sym e) ∙ h.at in
        let is : h.item ≡ image insn f.place early = e ∙ ap (λ k. image insn k early) place in
        let o : AtImage p p' sides f f' insn early = record {
          one = h.one;
          here = h.here ∙ ap Some is;
          stack = h.stack ∙ ap (λ y. pushed_of (array_of t f.method.class) y ++ f.stack) is;
          locals = subst (λ y. SameLocals (array_of t f.method.class) t.slot f.locals f'.locals y) is h.locals;
        } in
        let m = own_moves p p' sides no_init are s s' ss statics f f' fs fs' insn early o w g.0 g.1 in
        let none : due_in p' sides (running f' fs') ≡ None = hit_top p p' sides due_of f f' h ∙ ap (λ y. option_map (hit_of f.method.class) (due_of y)) is in
        let was : early_in p' sides (running f' fs') ≡ option_map (hit_of f.method.class) early =
        hit_top p p' sides early_of f f' h ∙ ap (λ y. option_map (hit_of f.method.class) (early_of y)) is in
        let a = after_result p' (result_of p' s' f') s' f' fs' in
        subst (λ y. Moves p' sides (due_in p' sides (running f' fs')) y a.hits (thread_edges p s (Some (running f fs))) (due_in p' sides a.thread) (early_in p' sides a.thread))
        (sym was) (owes_move p' sides _ _ a.hits _ _ _ none m.none_hit m.owes)
    own_moved f f' fs fs' h w g other e own = absurd (true≢false (sym own))

    aside_moved : (x x' : Thread) → SameThread p p' sides x x' → is_running x' ≡ true → keeps p' marks x' ≡ false → Moved false x x'
    aside_moved x x' h r k = passes_move p' sides _ _ _ _ _ (aside_thread p p' sides marks are told s s' ss x x' h r k).passes

    running_moved : (f f' : Frame) (fs fs' : List Frame) → SameThread p p' sides (running f fs) (running f' fs') → IsGood p (running f fs)
        → (b : Bool) → keeps p' marks (running f' fs') ≡ b → Moved b (running f fs) (running f' fs')
    running_moved f f' fs fs' h g false k = aside_moved (running f fs) (running f' fs') h refl k
    running_moved f f' fs fs' (inl h) g true k =
        own_moved f f' fs fs' h.0 h.1 g h.0.item refl (sym (keeps_top p p' sides marks are told f f' fs' h.0) ∙ k)
    running_moved f f' fs fs' (inr i) g true k = absurd (true≢false (sym k ∙ keeps_inside p p' sides marks are told s s' ss f f' fs fs' i))

    still : (x : Thread) (x' : Thread) → (turn_of p' s' x').hits ≡ [] → due_in p' sides (turn_of p' s' x').thread ≡ due_in p' sides x'
        → early_in p' sides (turn_of p' s' x').thread ≡ early_in p' sides x' → Moved false x x'
    still x x' none d e = passes_move p' sides _ _ _ _ _ (nothing none d e)

    pub thread_moved : (x x' : Thread) → SameThread p p' sides x x' → IsGood p x → (b : Bool) → keeps p' marks x' ≡ b → Moved b x x'
    thread_moved (running f fs) (running f' fs') h g b k = running_moved f f' fs fs' h g b k
    thread_moved x (returned v) h g false k = still x (returned v) refl refl refl
    thread_moved x (threw c) h g false k = still x (threw c) refl refl refl
    thread_moved x (stuck m q) h g false k = still x (stuck m q) refl refl refl
    thread_moved x (returned v) h g true k = absurd (true≢false (sym k))
    thread_moved x (threw c) h g true k = absurd (true≢false (sym k))
    thread_moved x (stuck m q) h g true k = absurd (true≢false (sym k))
    thread_moved x y h g b k = absurd h

  -- ---- the world

  module _ (w w' : World) (t : ℕ) (beside : Beside p p' sides w w') (good : IsGoodWorld p w) (edges : List ProgramEdge) (marked : AreMarked p' sides edges w') where
    step_by : (b : Bool) (o o' : Option Thread) → slice_get w.threads t ≡ o → slice_get w'.threads t ≡ o' → SameOption p p' sides marks are told o o'
        → keeps_at p' marks o' ≡ b → AreMarked p' sides (edges ++ edges_if b (thread_edges p w.shared o)) (step_of p' w' t o')
    step_by b None None e e' h k = subst (λ l. AreMarked p' sides l w') (sym (ap (λ c. edges ++ c) (none_if b) ∙ append-nil edges)) marked
      where
        none_if : (b : Bool) → edges_if b [] ≡ []
        none_if true = refl
        none_if false = refl
    step_by b (Some x) (Some x') e e' h k =
        turn_marked p' sides edges (edges_if b (thread_edges p w.shared (Some x))) w' t x' (turn_of p' w'.shared x') e'
        (thread_moved w.shared w'.shared beside.shared good.statics x x' h (all_at (IsGood p) w.threads t x good.threads e) b k) marked
    step_by b None (Some x') e e' h k = absurd h
    step_by b (Some x) None e e' h k = absurd h

    pub step_marked : (b : Bool) → is_kept p' marks w' t ≡ b → AreMarked p' sides (edges ++ edges_if b (turn_edges p w t)) (step p' w' t)
    unfolding step
    step_marked b k =
        step_by b (slice_get w.threads t) (slice_get w'.threads t) refl refl (same_get p p' sides marks are told w.threads w'.threads beside.threads t) k

  if_good : (b : Bool) (w : World) (t : ℕ) → IsGoodWorld p w → IsGoodWorld p (step_if b p w t)
  if_good true w t g = step_good p no_init w t g
  if_good false w t g = g

  pub run_marked : (turns : List ℕ) (w w' : World) → Beside p p' sides w w' → IsGoodWorld p w → (edges : List ProgramEdge) → AreMarked p' sides edges w'
      → AreMarked p' sides (edges ++ taken_from p w (kept p' marks w' turns)) (run_from p' w' turns)
  run_marked [] w w' m g edges h = subst (λ l. AreMarked p' sides l w') (sym (append-nil edges)) h
  run_marked (t ∷ turns) w w' m g edges h =
      by (λ v k u l j. run_marked turns v (step p' w' t) k u l j)
      (is_kept p' marks w' t) (one_turn p p' sides marks are told t w w' m) (if_good (is_kept p' marks w' t) w t g)
      (step_marked w w' t m g edges h (is_kept p' marks w' t) refl)
    where
      by : ((v : World) → Beside p p' sides v (step p' w' t) → IsGoodWorld p v → (l : List ProgramEdge) → AreMarked p' sides l (step p' w' t)
          → AreMarked p' sides (l ++ taken_from p v (kept p' marks (step p' w' t) turns)) (run_from p' (step p' w' t) turns))
          → (b : Bool) → Beside p p' sides (step_if b p w t) (step p' w' t) → IsGoodWorld p (step_if b p w t)
          → AreMarked p' sides (edges ++ edges_if b (turn_edges p w t)) (step p' w' t)
          → AreMarked p' sides (edges ++ taken_from p w (turn_when b t (kept p' marks (step p' w' t) turns))) (run_from p' (step p' w' t) turns)
      by again true m g h =
          subst (λ l. AreMarked p' sides l (run_from p' (step p' w' t) turns))
          (append_assoc edges (turn_edges p w t) (taken_from p (step p w t) (kept p' marks (step p' w' t) turns)))
          (again (step p w t) m g (edges ++ turn_edges p w t) h)
      by again false m g h = again w m g edges (subst (λ l. AreMarked p' sides l (step p' w' t)) (append-nil edges) h)
