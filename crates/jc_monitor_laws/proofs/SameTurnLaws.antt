-- Turns of a kept turn's thread in which the frames on top come to the same in both worlds.
use Rattle.std.proofs.Common.{◌≡◌, inl, inr, ℕ, true, List, Option, Some, None, refl, sym, ap, ap₂, ◌∙◌, subst, subst₂}
use Rattle.std.specs.Prelude.{slice_get}
use Rattle.std.proofs.lemmas.Bool.{true≢false}
use Rattle.jc_methods.specs.declared.insn.Insn.{Insn}
use Rattle.jc_programs.specs.declared.program.Program.{Program}
use Rattle.jc_programs.specs.declared.run_end.Entry.{Entry}
use Rattle.jc_emit.specs.Items.{Item, image, own_of}
use Rattle.jc_emit.specs.Marks.{Marks}
use Rattle.jc_machine_model.specs.World.{Frame, Thread, running, returned, threw, stuck, Shared, World}
use Rattle.jc_machine_model.specs.Results.{Result}
use Rattle.jc_machine_model.specs.Step.{after_result, step}
use Rattle.jc_machine_model.specs.Locked.{turn_by_of, turn_by}
use Rattle.jc_monitor_model.specs.Locks.{Held}
use Rattle.jc_monitor_model.specs.MonitorTurns.{MonitorTurn, turn_on}
use Rattle.jc_machine_model.specs.Standings.{top_of}
use Rattle.jc_machine_model.specs.Locked.{monitor_of_frame, callee_of_frame}
use Rattle.jc_twin_simulation.specs.Kept.{keeps, keeps_at, is_kept, step_if}
use Rattle.jc_twin_simulation.specs.Sides.{Side, AreSides, AreMarksOf}
use Rattle.jc_twin_simulation.specs.Beside.{SameFrame, SameWaits, SameThread, Beside}
use Rattle.jc_twin_simulation.proofs.OwnLaws.{SameResult, AtImage}
use Rattle.jc_twin_simulation.proofs.OwnTurnLaws.{after_same}
use Rattle.jc_twin_simulation.proofs.TurnLaws.{at_image}
use Rattle.jc_twin_simulation.proofs.WorldLaws.{keeps_top, keeps_inside, SameOption, same_get, same_set, one_turn}
use Rattle.jc_monitor_laws.proofs.ImageLaws.{monitor_same, callee_same}
use Rattle.jc_monitor_laws.proofs.ProbeTurnLaws.{turn_at}

module _ (p p' : Program) (sides : Entry → Side) (marks : Entry → Marks) (are : AreSides p p' sides) (told : AreMarksOf p p' marks sides) where
  -- The thread runs in both worlds, and stands at an own instruction and at its image.
  pub record StandsAtImage (w w' : World) (t : ℕ) : Type 0 where
    pub top : Frame
    pub waiting : List Frame
    pub top' : Frame
    pub waiting' : List Frame
    pub here : slice_get w.threads t ≡ Some (running top waiting)
    pub there : slice_get w'.threads t ≡ Some (running top' waiting')
    pub waits : SameWaits p p' sides waiting waiting'
    pub new : Insn
    pub early : Option ℕ
    pub same : AtImage p p' sides top top' new early

  module _ (w w' : World) (h : Beside p p' sides w w') (t : ℕ) where
    of_item : (f f' : Frame) (fs fs' : List Frame) → slice_get w.threads t ≡ Some (running f fs) → slice_get w'.threads t ≡ Some (running f' fs')
        → (x : SameFrame p p' sides f f') → SameWaits p p' sides fs fs' → (item : Item) → x.item ≡ item → own_of item ≡ true → StandsAtImage w w' t
    of_item f f' fs fs' e e' x waits (image new at early) is own = record {
      top = f;
      waiting = fs;
      top' = f';
      waiting' = fs';
      here = e;
      there = e';
      waits = waits;
      new = new;
      early = early;
      same = at_image p p' sides are w.shared w'.shared h.shared f f' x new at early is;
    }
    of_item f f' fs fs' e e' x waits item is own = absurd (true≢false (sym own))

    of_running : (f f' : Frame) (fs fs' : List Frame) → slice_get w.threads t ≡ Some (running f fs) → slice_get w'.threads t ≡ Some (running f' fs')
        → SameThread p p' sides (running f fs) (running f' fs') → keeps p' marks (running f' fs') ≡ true → StandsAtImage w w' t
    of_running f f' fs fs' e e' (inl x) k =
        of_item f f' fs fs' e e' x.0 x.1 (x.0).item refl (sym (keeps_top p p' sides marks are told f f' fs' x.0) ∙ k)
    of_running f f' fs fs' e e' (inr i) k =
        absurd (true≢false (sym k ∙ keeps_inside p p' sides marks are told w.shared w'.shared h.shared f f' fs fs' i))

    of_thread : (x x' : Thread) → slice_get w.threads t ≡ Some x → slice_get w'.threads t ≡ Some x' → SameThread p p' sides x x'
        → keeps p' marks x' ≡ true → StandsAtImage w w' t
    of_thread (running f fs) (running f' fs') e e' s k = of_running f f' fs fs' e e' s k
    of_thread (returned v) (running f' fs') e e' s k = absurd s
    of_thread (threw c) (running f' fs') e e' s k = absurd s
    of_thread (stuck m q) (running f' fs') e e' s k = absurd s
    of_thread x x' e e' s k = absurd (true≢false (sym k))

    pub stands_at_image : is_kept p' marks w' t ≡ true → StandsAtImage w w' t
    stands_at_image k =
        by (slice_get w.threads t) (slice_get w'.threads t) refl refl (same_get p p' sides marks are told w.threads w'.threads h.threads t) k
      where
        by : (o o' : Option Thread) → slice_get w.threads t ≡ o → slice_get w'.threads t ≡ o' → SameOption p p' sides marks are told o o'
            → keeps_at p' marks o' ≡ true → StandsAtImage w w' t
        by (Some x) (Some x') e e' s k = of_thread x x' e e' s k
        by None (Some x') e e' s k = absurd s
        by o None e e' s k = absurd (true≢false (sym k))

    -- the machine's own turn
    pub step_beside : is_kept p' marks w' t ≡ true → Beside p p' sides (step p w t) (step p' w' t)
    step_beside k = subst (λ b. Beside p p' sides (step_if b p w t) (step p' w' t)) k (one_turn p p' sides marks are told t w w' h)

    module _ (i : StandsAtImage w w' t) where
      -- the turn that both come to
      pub turns_beside : (act act' : Shared → Frame → Result) → SameResult p p' sides (act w.shared i.top) (act' w'.shared i.top')
          → Beside p p' sides (turn_by p act w t) (turn_by p' act' w' t)
      turns_beside act act' same =
          let a =
          after_same p p' sides w.shared w'.shared h.shared i.top i.top' i.waiting i.waiting' i.new i.early i.same i.waits
          (act w.shared i.top) (act' w'.shared i.top') same in
          subst₂ (λ v v'. Beside p p' sides v v') (sym (ap (turn_by_of p act w t) i.here)) (sym (ap (turn_by_of p' act' w' t) i.there))
          (record {
            shared = a.shared;
            threads = same_set p p' sides marks are told w.threads w'.threads h.threads t
                (after_result p (act w.shared i.top) w.shared i.top i.waiting).thread
                (after_result p' (act' w'.shared i.top') w'.shared i.top' i.waiting').thread a.thread;
          })

      -- the turn is of one kind in both worlds
      abbrev kind : List Held → MonitorTurn
      kind held = turn_on t (monitor_of_frame p i.top) (top_of w.shared.heap (i.top).stack) (callee_of_frame p i.top) held

      pub kind_here : (held : List Held) → turn_at p t w.shared held (slice_get w.threads t) ≡ kind held
      kind_here held = ap (turn_at p t w.shared held) i.here

      pub kind_there : (held : List Held) → turn_at p' t w'.shared held (slice_get w'.threads t) ≡ kind held
      kind_there held =
          ap (turn_at p' t w'.shared held) i.there
          ∙ ap (λ x. turn_on t x (top_of w'.shared.heap (i.top').stack) (callee_of_frame p' i.top') held)
          (monitor_same p p' sides are i.top i.top' i.new i.early i.same)
          ∙ ap₂ (λ heap stack. turn_on t (monitor_of_frame p i.top) (top_of heap stack) (callee_of_frame p' i.top') held) h.shared.heap i.same.stack
          ∙ ap (λ c. turn_on t (monitor_of_frame p i.top) (top_of w.shared.heap (i.top).stack) c held)
          (callee_same p p' sides are i.top i.top' i.new i.early i.same)
