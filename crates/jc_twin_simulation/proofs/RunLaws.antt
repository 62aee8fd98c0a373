-- Runs of a twin and of its original.
use Rattle.std.proofs.Common.{◌≡◌, inl, inr, ℕ, zero, suc, ◌*◌, ◌<◌, ◌≤◌, true, false, List, [], ◌∷◌, ◌++◌, length, Option, Some, None, refl, sym, ap, ◌∙◌, subst, arith}
use Rattle.std.specs.Prelude.{slice_get, slice_set}
use Rattle.std.proofs.lemmas.Bool.{eqb-false, true≢false}
use Rattle.std.proofs.lemmas.Option.{none-some}
use Rattle.jc_programs.specs.declared.program.Program.{Program}
use Rattle.jc_programs.specs.declared.run_end.Entry.{Entry}
use Rattle.jc_methods.specs.declared.probe_members.Fetch.{Fetch}
use Rattle.jc_methods.specs.declared.probe_members.Fetch.TheVariants as fetches
use Rattle.jc_methods.specs.Flow.{flow_of}
use Rattle.jc_emit.specs.Sizes.{insn_at, early_by, probe_size}
use Rattle.jc_emit.specs.Items.{Item, image, own_of}
use Rattle.jc_emit.specs.Marks.{Marks}
use Rattle.jc_emit.specs.Ranks.{most_row}
use Rattle.jc_emit.specs.Seen.{IsPlain}
use Rattle.jc_machine_model.specs.World.{Frame, Thread, running, returned, threw, stuck, Shared, World}
use Rattle.jc_machine_model.specs.Step.{turn_of, with_after, step_of, step}
use Rattle.jc_machine_model.specs.Run.{run_from}
use Rattle.jc_twin_simulation.specs.Kept.{is_running, runs_at, runs, keeps_at, is_kept, kept, row, step_if}
use Rattle.jc_twin_simulation.specs.Schedules.{run_by, IsSimulated}
use Rattle.jc_twin_simulation.specs.Spread.{IsSpread}
use Rattle.jc_twin_simulation.specs.Sides.{Side, way_of, IsSide, AreSides, AreMarksOf}
use Rattle.jc_twin_simulation.specs.Beside.{SameFrame, SameShared, SameThread, Beside}
use Rattle.jc_twin_simulation.proofs.FrameLaws.{start_way}
use Rattle.jc_twin_simulation.proofs.TurnLaws.{item_rank, inside_rank, frames_rank, thread_rank, rank_top, inside_named}
use Rattle.jc_twin_simulation.proofs.WorldLaws.{aside_thread, SameOption, same_get, one_turn}
use Rattle.jc_twin_simulation.proofs.ScheduleLaws as schedules

-- ---- one thread among others

set_back : (ts : List Thread) (k : ℕ) (x : Thread) → slice_get ts k ≡ Some x → slice_set ts k x ≡ ts
set_back [] k x e = refl
set_back (z ∷ ts) zero x e = let same : z ≡ x = cc in ap (λ y. y ∷ ts) (sym same)
set_back (z ∷ ts) (suc k) x e = ap (λ l. z ∷ l) (set_back ts k x e)

pub get_set : (ts : List Thread) (k : ℕ) (x y : Thread) → slice_get ts k ≡ Some x → slice_get (slice_set ts k y) k ≡ Some y
get_set [] k x y e = absurd (none-some x e)
get_set (z ∷ ts) zero x y e = refl
get_set (z ∷ ts) (suc k) x y e = get_set ts k x y e

pub get_other : (ts : List Thread) (k t : ℕ) (y : Thread) → (k ≡ t → ⊥) → slice_get (slice_set ts k y) t ≡ slice_get ts t
get_other [] k t y apart = refl
get_other (z ∷ ts) zero zero y apart = absurd (apart refl)
get_other (z ∷ ts) zero (suc t) y apart = refl
get_other (z ∷ ts) (suc k) zero y apart = refl
get_other (z ∷ ts) (suc k) (suc t) y apart = get_other ts k t y (λ e. apart (ap suc e))

-- a turn of a thread that doesn't run changes nothing
idle_thread : (r : Program) (w : World) (t : ℕ) (x : Thread) → slice_get w.threads t ≡ Some x → is_running x ≡ false → with_after t w (turn_of r w.shared x) ≡ w
idle_thread r w t (running f fs) e h = absurd (true≢false h)
idle_thread r w t (returned v) e h = ap (λ l. record { threads = l; shared = w.shared; hits = w.hits }) (set_back w.threads t (returned v) e)
idle_thread r w t (threw c) e h = ap (λ l. record { threads = l; shared = w.shared; hits = w.hits }) (set_back w.threads t (threw c) e)
idle_thread r w t (stuck m q) e h = ap (λ l. record { threads = l; shared = w.shared; hits = w.hits }) (set_back w.threads t (stuck m q) e)

idle_at : (r : Program) (w : World) (t : ℕ) (o : Option Thread) → slice_get w.threads t ≡ o → runs_at o ≡ false → step_of r w t o ≡ w
idle_at r w t None e h = refl
idle_at r w t (Some x) e h = idle_thread r w t x e h

pub idle : (r : Program) (w : World) (t : ℕ) → runs w t ≡ false → step r w t ≡ w
unfolding step
idle r w t h = idle_at r w t (slice_get w.threads t) refl h

pub step_at : (r : Program) (w : World) (t : ℕ) (x : Thread) → slice_get w.threads t ≡ Some x
    → slice_get (step r w t).threads t ≡ Some (turn_of r w.shared x).thread
unfolding step
step_at r w t x e = ap (λ o. slice_get (step_of r w t o).threads t) e ∙ get_set w.threads t x (turn_of r w.shared x).thread e

pub step_other : (r : Program) (w : World) (k t : ℕ) → (k ≡ t → ⊥) → slice_get (step r w k).threads t ≡ slice_get w.threads t
unfolding step
step_other r w k t apart = by (slice_get w.threads k)
  where
    by : (o : Option Thread) → slice_get (step_of r w k o).threads t ≡ slice_get w.threads t
    by None = refl
    by (Some x) = get_other w.threads k t (turn_of r w.shared x).thread apart

-- ---- turns in two parts

pub run_append : (r : Program) (xs ys : List ℕ) (w : World) → run_from r w (xs ++ ys) ≡ run_from r (run_from r w xs) ys
run_append r [] ys w = refl
run_append r (k ∷ xs) ys w = run_append r xs ys (step r w k)

-- a run is one of the system whose turns are those of the program
run_is : (r : Program) (turns : List ℕ) (w : World) → run_by (step r) w turns ≡ run_from r w turns
run_is r [] w = refl
run_is r (t ∷ turns) w = run_is r turns (step r w t)

module _ (p p' : Program) (sides : Entry → Side) (marks : Entry → Marks) (are : AreSides p p' sides) (told : AreMarksOf p p' marks sides) where
  abbrev Pair : World → World → Type 0
  Pair w w' = Beside p p' sides w w'

  one : (w w' : World) (t : ℕ) → Pair w w' → Pair (step_if (is_kept p' marks w' t) p w t) (step p' w' t)
  one w w' t h = one_turn p p' sides marks are told t w w' h

  -- ---- threads run in both worlds

  both_run : (x x' : Thread) → SameThread p p' sides x x' → is_running x' ≡ is_running x
  both_run (running f fs) (running f' fs') h = refl
  both_run (returned v) (returned v') h = refl
  both_run (threw c) (threw c') h = refl
  both_run (stuck m q) (stuck m' q') h = refl
  both_run (running f fs) (returned v) h = absurd h
  both_run (running f fs) (threw c) h = absurd h
  both_run (running f fs) (stuck m q) h = absurd h
  both_run (returned v) (running f fs) h = absurd h
  both_run (returned v) (threw c) h = refl
  both_run (returned v) (stuck m q) h = refl
  both_run (threw c) (running f fs) h = absurd h
  both_run (threw c) (returned v) h = refl
  both_run (threw c) (stuck m q) h = refl
  both_run (stuck m q) (running f fs) h = absurd h
  both_run (stuck m q) (returned v) h = refl
  both_run (stuck m q) (threw c) h = refl

  abbrev SameOne : Option Thread → Option Thread → Type 0
  SameOne o o' = SameOption p p' sides marks are told o o'

  option_run : (o o' : Option Thread) → SameOne o o' → runs_at o' ≡ runs_at o
  option_run None None h = refl
  option_run (Some x) (Some x') h = both_run x x' h
  option_run None (Some x') h = absurd h
  option_run (Some x) None h = absurd h

  there : (w w' : World) (t : ℕ) → Pair w w' → SameOne (slice_get w.threads t) (slice_get w'.threads t)
  there w w' t h = same_get p p' sides marks are told w.threads w'.threads h.threads t

  worlds_run : (w w' : World) (t : ℕ) → Pair w w' → runs w' t ≡ runs w t
  worlds_run w w' t h = option_run (slice_get w.threads t) (slice_get w'.threads t) (there w w' t h)

  -- ---- a turn that isn't kept brings its thread nearer to one that is

  abbrev pub option_rank : Option Thread → ℕ
  option_rank None = 0
  option_rank (Some x) = thread_rank p p' sides x

  abbrev pub rank_of : World → ℕ → ℕ
  rank_of w t = option_rank (slice_get w.threads t)

  record Nearer (w' : World) (t : ℕ) : Type 0 where
    runs_on : runs (step p' w' t) t ≡ true
    falls : rank_of (step p' w' t) t < rank_of w' t

  nearer_at : (w w' : World) (t : ℕ) → Pair w w' → (o o' : Option Thread) → slice_get w'.threads t ≡ o' → SameOne o o' → runs_at o' ≡ true
      → keeps_at p' marks o' ≡ false → Nearer w' t
  nearer_at w w' t h None None e s r n = absurd (true≢false (sym r))
  nearer_at w w' t h (Some x) (Some x') e s r n =
      let a = aside_thread p p' sides marks are told w.shared w'.shared h.shared x x' s r n in
      let y = (turn_of p' w'.shared x').thread in
      let to : slice_get (step p' w' t).threads t ≡ Some y = step_at p' w' t x' e in
      let behind : rank_of (step p' w' t) t ≡ thread_rank p p' sides y = ap option_rank to in
      let before : rank_of w' t ≡ thread_rank p p' sides x' = ap option_rank e in
      let lower = a.falls in
      record {
        runs_on = ap runs_at to ∙ both_run x y a.thread ∙ sym (both_run x x' s) ∙ r;
        falls = omega (arith, behind, before, lower);
      }
  nearer_at w w' t h None (Some x') e s r n = absurd s
  nearer_at w w' t h (Some x) None e s r n = absurd s

  nearer : (w w' : World) (t : ℕ) → Pair w w' → runs w' t ≡ true → is_kept p' marks w' t ≡ false → Nearer w' t
  nearer w w' t h r n = nearer_at w w' t h (slice_get w.threads t) (slice_get w'.threads t) refl (there w w' t h) r n

  -- ---- the rank is small

  probe_small : (o : Option ℕ) → probe_size o ≤ 4
  probe_small None = omega arith
  probe_small (Some id) = omega arith

  inside_small : (place : ℕ) (fs : List Frame) → inside_rank p p' sides place fs ≤ 17
  inside_small place [] = omega arith
  inside_small place (g ∷ fs) =
      let t = sides g.method in
      let small = probe_small (early_by t.ids 0 (insn_at t.body.code 0) (flow_of (insn_at t.body.code 0))) in
      omega (arith, small)

  -- a body that gets no array has images alone
  own_small : (t : Side) (q : ℕ) (x : Item) → own_of x ≡ true → item_rank p p' sides t q x ≡ 0
  own_small t q (image insn at early) own = refl
  own_small t q x own = absurd (true≢false (sym own))

  -- each method that gets its array has at most so many turns in a row that aren't kept
  abbrev pub AreBelow : ℕ → Type 0
  AreBelow most = (m : Entry) → IsSide p p' m (sides m) → (v : ℕ) → (sides m).slot ≡ Some v → most_row (way_of (sides m)) ≤ most

  module _ (most : ℕ) (below : AreBelow most) where
    item_small : (f f' : Frame) (h : SameFrame p p' sides f f') → item_rank p p' sides (sides f.method) f'.place h.item ≤ most
    item_small f f' h = by (sides f.method).slot refl
      where
        by : (o : Option ℕ) → (sides f.method).slot ≡ o → item_rank p p' sides (sides f.method) f'.place h.item ≤ most
        by None e =
            let none = own_small (sides f.method) f'.place h.item (subst (λ s. IsPlain s (sides f.method).items) e h.one.side.plain f'.place h.item h.here) in
            omega (arith, none)
        by (Some v) e =
            let small = h.one.side.ranked.small (way_of (sides f.method)) (h.one.side.changed v e).gets.starts f'.place h.item h.here in
            let bound = below f.method h.one.side v e in
            omega (arith, small, bound)

    thread_small : (s s' : Shared) → SameShared p p' sides s s' → (x x' : Thread) → SameThread p p' sides x x' → thread_rank p p' sides x' ≤ most
    thread_small s s' ss (running f fs) (running f' fs') (inl h) =
        let small = item_small f f' h.0 in
        let is = rank_top p p' sides f f' fs' h.0 in
        omega (arith, small, is)
    thread_small s s' ss (running f fs) (running f' fs') (inr i) =
        let is : thread_rank p p' sides (running f' fs') ≡ inside_rank p p' sides f'.place fs' =
        ap (λ b. frames_rank p p' sides b f' fs') (inside_named p p' sides are s s' ss f f' fs fs' i) in
        let small = inside_small f'.place fs' in
        let way = start_way p p' sides f.method i.base.one.side 0 i.below.place fetches.Member (i.base.here ∙ ap Some i.at_call) in
        let bound : 17 ≤ most = subst (λ fetch. most_row fetch ≤ most) (sym way.2) (below f.method i.base.one.side way.0 way.1) in
        omega (arith, is, small, bound)
    thread_small s s' ss x (returned v) h = omega arith
    thread_small s s' ss x (threw c) h = omega arith
    thread_small s s' ss x (stuck m q) h = omega arith
    thread_small s s' ss x y h = absurd h

    option_small : (s s' : Shared) → SameShared p p' sides s s' → (o o' : Option Thread) → SameOne o o' → option_rank o' ≤ most
    option_small s s' ss None None h = omega arith
    option_small s s' ss (Some x) (Some x') h = thread_small s s' ss x x' h
    option_small s s' ss None (Some x') h = absurd h
    option_small s s' ss (Some x) None h = absurd h

    rank_small : (w w' : World) (t : ℕ) → Pair w w' → rank_of w' t ≤ most
    rank_small w w' t h = option_small w.shared w'.shared h.shared (slice_get w.threads t) (slice_get w'.threads t) (there w w' t h)

    simulated_by : IsSimulated (step p) (step p') (is_kept p' marks) runs runs Pair rank_of most
    simulated_by = record {
      one = one;
      both_run = worlds_run;
      idle = idle p;
      idle_twin = idle p';
      runs_on = λ w w' t h r n. (nearer w w' t h r n).runs_on;
      falls = λ w w' t h r n. (nearer w w' t h r n).falls;
      small = rank_small;
      others = λ w' k t apart. ap option_rank (step_other p' w' k t (eqb-false k t apart));
    }

  -- ---- what follows for runs

  each_row : (fetch : Fetch) → most_row fetch ≤ 17
  each_row fetches.Member = omega arith
  each_row fetches.Constant = omega arith

  pub is_simulated : IsSimulated (step p) (step p') (is_kept p' marks) runs runs Pair rank_of 17
  is_simulated = simulated_by 17 (λ m side v e. each_row (way_of (sides m)))

  pub same_run : (turns : List ℕ) (w w' : World) → Pair w w' → Pair (run_from p w (kept p' marks w' turns)) (run_from p' w' turns)
  same_run turns w w' h =
      subst (λ v. Pair v (run_from p' w' turns)) (run_is p (kept p' marks w' turns) w)
      (subst (Pair (run_by (step p) w (kept p' marks w' turns))) (run_is p' turns w')
      (schedules.same_run (step p) (step p') (is_kept p' marks) runs runs Pair rank_of 17 is_simulated turns w w' h))

  pub spread_there : (q : List ℕ) (w w' : World) → Pair w w' → (turns : List ℕ) × IsSpread p' marks w' q turns
  spread_there = schedules.spread_there (step p) (step p') (is_kept p' marks) runs runs Pair rank_of 17 is_simulated

  -- no schedule is lost, and each is at most 18 times as long
  pub record Spreads (q turns : List ℕ) (w w' : World) : Type 0 where
    pub same : run_from p w (kept p' marks w' turns) ≡ run_from p w q
    pub short : length turns ≤ 18 * length q

  pub spread_same : (q turns : List ℕ) (w w' : World) → Pair w w' → IsSpread p' marks w' q turns → Spreads q turns w w'
  spread_same q turns w w' h s =
      let k = schedules.spread_same (step p) (step p') (is_kept p' marks) runs runs Pair rank_of 17 is_simulated q turns w w' h s in
      record { same = sym (run_is p (kept p' marks w' turns) w) ∙ k.same ∙ run_is p q w; short = k.short }

  pub few_probe_turns : (t : ℕ) (turns : List ℕ) (w w' : World) → Pair w w' → row p' marks w' t turns 0 ≤ 17
  few_probe_turns = schedules.few_probe_turns (step p) (step p') (is_kept p' marks) runs runs Pair rank_of 17 is_simulated

  -- ---- where each class gets its array by a constant

  abbrev pub EachByConstant : Type 0
  EachByConstant = (m : Entry) → IsSide p p' m (sides m) → (v : ℕ) → (sides m).slot ≡ Some v → way_of (sides m) ≡ fetches.Constant

  pub is_simulated_by_constant : EachByConstant → IsSimulated (step p) (step p') (is_kept p' marks) runs runs Pair rank_of 9
  is_simulated_by_constant each = simulated_by 9 (λ m side v e. subst (λ fetch. most_row fetch ≤ 9) (sym (each m side v e)) (omega arith))

  -- there are fewer
  pub fewer_probe_turns : EachByConstant → (t : ℕ) (turns : List ℕ) (w w' : World) → Pair w w' → row p' marks w' t turns 0 ≤ 9
  fewer_probe_turns each = schedules.few_probe_turns (step p) (step p') (is_kept p' marks) runs runs Pair rank_of 9 (is_simulated_by_constant each)
