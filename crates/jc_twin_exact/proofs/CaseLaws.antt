-- The hits of one case, and the edges of the original's run under its kept turns.
use Rattle.std.proofs.Common.{◌≡◌, inl, inr, ⊎_elim, ℕ, false, List, [], ◌∷◌, Option, Some, None, option_map, refl, sym, ap, ◌∙◌, subst}
use Rattle.std.specs.Prelude.{slice_get, Contains}
use Rattle.std.specs.List.{flat_map}
use Rattle.std.proofs.lemmas.Bool.{true≢false}
use Rattle.std.proofs.lemmas.Option.{none-some, same_Some, slice_get-get_or}
use Rattle.jc_bytes.proofs.BooleanLaws.{first_in, stands_in}
use Rattle.jc_bytes.proofs.ListLaws.{flat_in, all_at}
use Rattle.jc_methods.specs.Flow.{flow_of, jump_target}
use Rattle.jc_methods.specs.declared.insn.Insn.{Insn}
use Rattle.jc_methods.specs.declared.insn.Insn.TheVariants as insns
use Rattle.jc_methods.specs.declared.insn.Flow.{Flow}
use Rattle.jc_methods.specs.declared.insn.Flow.TheVariants as flows
use Rattle.jc_methods.specs.declared.body.Body.{Body}
use Rattle.jc_programs.specs.declared.program.Program.{Program}
use Rattle.jc_programs.specs.declared.program.Linked.{Linked}
use Rattle.jc_programs.specs.declared.run_plan.Case.{Case}
use Rattle.jc_programs.specs.declared.run_end.Entry.{Entry}
use Rattle.jc_programs.specs.Entries.{AreEntries}
use Rattle.jc_plan.specs.Edges.{jump, exit}
use Rattle.jc_plan.specs.Probed.{first_id, probe_of}
use Rattle.jc_plan.specs.Chosen.{one_way, chosen_by}
use Rattle.jc_plan.specs.ClassEdges.{ProgramEdge}
use Rattle.jc_emit.specs.Items.{Item, image, at_of}
use Rattle.jc_emit.specs.Local.{early_of}
use Rattle.jc_emit.specs.Marks.{Marks}
use Rattle.jc_emit.specs.Sizes.{insn_at, early_by}
use Rattle.jc_machine_model.specs.World.{Thread, running, returned, threw, stuck, Hit, World}
use Rattle.jc_machine_model.specs.Methods.{is_init_name, declares_init}
use Rattle.jc_machine_model.specs.Begin.{begin_case}
use Rattle.jc_machine_model.specs.Run.{run}
use Rattle.jc_machine_model.specs.Step.{located}
use Rattle.jc_machine_model.specs.Taken.{edge_of, edges_of, one_edge, edge_stood, edges_stood, taken_from, reached_from}
use Rattle.jc_twin_simulation.specs.Laws.{kept_of}
use Rattle.jc_twin_simulation.specs.Sides.{Side, IsSide, AreSides, AreMarksOf}
use Rattle.jc_twin_simulation.specs.Beside.{SameThread, SameThreads, Beside}
use Rattle.jc_twin_simulation.specs.Probes.{hit_of, item_hit, place_hit, due_in, early_in}
use Rattle.jc_twin_simulation.proofs.BeginLaws.{case_beside}
use Rattle.jc_twin_simulation.proofs.FrameLaws.{located_is}
use Rattle.jc_twin_simulation.proofs.RunLaws.{same_run}
use Rattle.jc_twin_simulation.proofs.TurnLaws.{hit_top, inside_none}
use Rattle.jc_twin_simulation.proofs.WorldLaws.{SameOption, same_get}
use Rattle.jc_twin_exact.specs.Exact.{HasReturned, HaveReturned, IsChangedAt, EndsWell}
use Rattle.jc_twin_exact.proofs.GoodLaws.{HasNoInit}
use Rattle.jc_twin_exact.proofs.CameLaws.{EdgeCame, run_came, taken_came, stood_came, reached_parts, taken_reached, stood_reached}
use Rattle.jc_twin_exact.proofs.MarkLaws.{IsIn, probe_in, IsProbeOf, AreMarked}
use Rattle.jc_twin_exact.proofs.RunMarkLaws.{run_marked}
use Rattle.jc_twin_exact.proofs.BeginLaws.{begin_good, begin_came, begin_marked}

module _ (p p' : Program) (sides : Entry → Side) (marks : Entry → Marks) (are : AreSides p p' sides) (told : AreMarksOf p p' marks sides) where
  -- ---- methods

  class_of : (m : Entry) (c : Linked) → IsSide p p' m (sides m) → slice_get p.classes m.class ≡ Some c → (sides m).class ≡ c
  class_of m c side h = same_Some (sides m).class c (sym side.class_is ∙ h)

  body_of_side : (m : Entry) (c : Linked) (b : Body) → IsSide p p' m (sides m) → slice_get p.classes m.class ≡ Some c → slice_get c.bodies m.method ≡ Some b
      → (sides m).body ≡ b
  body_of_side m c b side h k =
      same_Some (sides m).body b (sym side.body_is ∙ ap (λ (x : Linked). slice_get x.bodies m.method) (class_of m c side h) ∙ k)

  pub no_init : HasNoInit p
  no_init m c b h k =
      let side = are.side m c b h k in (
        ap (λ (x : Body). is_init_name x.name) (sym (body_of_side m c b side h k)) ∙ side.named,
        ap declares_init (sym (class_of m c side h)) ∙ side.declares,
      )

  -- in a class with probes the ids are those of its probed edges
  pub ids_are : (m : Entry) → IsChangedAt p' m.class → (c : Linked) (b : Body) → slice_get p.classes m.class ≡ Some c → slice_get c.bodies m.method ≡ Some b
      → (sides m).ids ≡ probe_of b (first_id c.bodies m.method)
  ids_are m changed c b h k = by (sides m).slot refl
    where
      side : IsSide p p' m (sides m)
      side = are.side m c b h k

      by : (o : Option ℕ) → (sides m).slot ≡ o → (sides m).ids ≡ probe_of b (first_id c.bodies m.method)
      by None e =
          let same : (sides m).new ≡ changed.0 = same_Some (sides m).new changed.0 (sym (are.side m c b h k).new_is ∙ changed.1) in
          absurd (true≢false (sym changed.2 ∙ ap declares_init (sym same) ∙ ((are.side m c b h k).unchanged e).declares))
      by (Some v) e =
          (are.side m c b h k).ids_are v e
          ∙ ap (λ x. probe_of x (first_id (sides m).class.bodies m.method)) (body_of_side m c b (are.side m c b h k) h k)
          ∙ ap (λ (x : Linked). probe_of b (first_id x.bodies m.method)) (class_of m c (are.side m c b h k) h)

  -- ---- a thread that has hit a probe beforehand stands at its edge

  early_edge : (m : Entry) (i id : ℕ) (insn : Insn) (flow : Flow) → flow_of insn ≡ flow → early_by (sides m).ids i insn flow ≡ Some id
      → (e : ProgramEdge) × Contains (one_edge m i insn flow) e × (probe_in p' sides e ≡ Some (hit_of m.class id))
  early_edge m i id insn flows.Jumps e h =
      let x = jump i (jump_target insn) in (
        edge_of m x,
        subst (λ o. Contains (edges_of m o) (edge_of m x)) (sym (ap (λ w. chosen_by w i insn one_way) e)) (first_in (edge_of m x) []),
        ap (option_map (hit_of m.class)) h,
      )
  early_edge m i id insn flows.Returns e h =
      let x = exit i in (
        edge_of m x,
        subst (λ o. Contains (edges_of m o) (edge_of m x)) (sym (ap (λ w. chosen_by w i insn one_way) e)) (first_in (edge_of m x) []),
        ap (option_map (hit_of m.class)) h,
      )
  early_edge m i id insn flows.Throws e h =
      let x = exit i in (
        edge_of m x,
        subst (λ o. Contains (edges_of m o) (edge_of m x)) (sym (ap (λ w. chosen_by w i insn one_way) e)) (first_in (edge_of m x) []),
        ap (option_map (hit_of m.class)) h,
      )
  early_edge m i id insn other e h = absurd (none-some id h)

  abbrev IsStoodAt : Entry → ℕ → Hit → Type 0
  IsStoodAt m q h = (e : ProgramEdge) × Contains (edge_stood m q (located p m q)) e × (probe_in p' sides e ≡ Some h)

  item_stood : (m : Entry) → IsSide p p' m (sides m) → (q q' : ℕ) (x : Item) → slice_get (sides m).items q' ≡ Some x → at_of x ≡ q → (h : Hit)
      → option_map (hit_of m.class) (early_of x) ≡ Some h → IsStoodAt m q h
  item_stood m side q q' (image new at (Some id)) here e h k =
      let t = sides m in
      let ok = side.ok.ok q' (image new at (Some id)) here in
      let insn = insn_at t.body.code at in
      let s = early_edge m at id insn (flow_of insn) refl (sym ok.1) in
      let there = located_is p m at t.class t.body insn side.class_is side.body_is (slice_get-get_or t.body.code at (insns.Simple 0) ok.0) in (
        s.0,
        subst (λ n. Contains (edge_stood m n (located p m n)) s.0) e (subst (λ o. Contains (edge_stood m at o) s.0) (sym there) s.1),
        s.2 ∙ k,
      )
  item_stood m side q q' other here e h k = absurd (none-some h k)

  abbrev IsStood : Thread → Hit → Type 0
  IsStood x h = (e : ProgramEdge) × Contains (edges_stood p x) e × (probe_in p' sides e ≡ Some h)

  thread_stood : (w w' : World) → Beside p p' sides w w' → (x x' : Thread) → SameThread p p' sides x x' → (h : Hit) → early_in p' sides x' ≡ Some h → IsStood x h
  thread_stood w w' m (running f fs) (running f' fs') (inl s) h k =
      item_stood f.method s.0.one.side f.place f'.place s.0.item s.0.here s.0.at h (sym (hit_top p p' sides early_of f f' s.0) ∙ k)
  thread_stood w w' m (running f fs) (running f' fs') (inr i) h k =
      absurd (none-some h (sym (inside_none p p' sides are w.shared w'.shared m.shared f f' fs fs' i early_of f' refl) ∙ k))
  thread_stood w w' m (stuck n q) (stuck n' q') s h k =
      item_stood n s.side q q' s.item s.here s.at h
      (sym (ap (λ z. place_hit p' sides early_of z q') s.same ∙ ap (item_hit early_of n.class) s.here) ∙ k)
  thread_stood w w' m x (returned v) s h k = absurd (none-some h k)
  thread_stood w w' m x (threw c) s h k = absurd (none-some h k)
  thread_stood w w' m x y s h k = absurd s

  world_stood : (w w' : World) → Beside p p' sides w w' → (h : Hit) → IsIn (early_in p' sides) w'.threads h
      → (e : ProgramEdge) × Contains (flat_map (edges_stood p) w.threads) e × (probe_in p' sides e ≡ Some h)
  world_stood w w' m h i = by (slice_get w.threads i.0) refl (same_get p p' sides marks are told w.threads w'.threads m.threads i.0)
    where
      by : (o : Option Thread) → slice_get w.threads i.0 ≡ o → SameOption p p' sides marks are told o (slice_get w'.threads i.0)
          → (e : ProgramEdge) × Contains (flat_map (edges_stood p) w.threads) e × (probe_in p' sides e ≡ Some h)
      by None e s = absurd (subst (SameOption p p' sides marks are told None) i.2 s)
      by (Some x) e s =
          let a = thread_stood w w' m x i.1 (subst (SameOption p p' sides marks are told (Some x)) i.2 s) h i.3 in
          (a.0, flat_in (edges_stood p) w.threads x a.0 (stands_in w.threads i.0 x e) a.1, a.2)

  -- ---- where each thread returned

  none_of : (of : Thread → Option Hit) → ((x : Thread) → HasReturned x → of x ≡ None) → (threads : List Thread) → HaveReturned threads → (h : Hit)
      → IsIn of threads h → ⊥
  none_of of quiet threads r h i = none-some h (sym (quiet i.1 (all_at HasReturned threads i.0 i.1 r i.2)) ∙ i.3)

  no_due : (x : Thread) → HasReturned x → due_in p' sides x ≡ None
  no_due (returned v) r = refl
  no_due other r = absurd r

  no_early : (x : Thread) → HasReturned x → early_in p' sides x ≡ None
  no_early (returned v) r = refl
  no_early other r = absurd r

  one_returned : (x x' : Thread) → SameThread p p' sides x x' → HasReturned x' → HasReturned x
  one_returned (returned v) (returned v') s r = tt
  one_returned (running f fs) (returned v') s r = s
  one_returned (threw c) (returned v') s r = s
  one_returned (stuck m q) (returned v') s r = s
  one_returned x other s r = absurd r

  all_returned : (xs xs' : List Thread) → SameThreads p p' sides xs xs' → HaveReturned xs' → HaveReturned xs
  all_returned [] [] s r = tt
  all_returned (x ∷ xs) (x' ∷ xs') s r = (one_returned x x' s.0 r.0, all_returned xs xs' s.1 r.1)
  all_returned [] (x' ∷ xs') s r = absurd s
  all_returned (x ∷ xs) [] s r = absurd s

  -- ---- one case

  module _ (case : Case) (entries : List Entry) (have : AreEntries p case.threads entries) (turns : List ℕ) where
    abbrev before : World
    before = begin_case p case

    abbrev before' : World
    before' = begin_case p' case

    abbrev pub own_turns : List ℕ
    own_turns = kept_of p' marks case turns

    begin_beside : Beside p p' sides (begin_case p case) (begin_case p' case)
    begin_beside = case_beside p p' sides are case entries have

    end_beside : Beside p p' sides (run p case own_turns) (run p' case turns)
    end_beside = same_run p p' sides marks are told turns before before' begin_beside

    marked : AreMarked p' sides (taken_from p before own_turns) (run p' case turns)
    marked = run_marked p p' sides marks are told no_init turns before before' begin_beside (begin_good p no_init case) [] (begin_marked p p' sides case begin_beside)

    -- each hit is the probe of a reached edge
    pub hit_reached : (h : Hit) → Contains (run p' case turns).hits h → (e : ProgramEdge) × Contains (reached_from p before own_turns) e × (probe_in p' sides e ≡ Some h)
    hit_reached h c =
        ⊎_elim
        (λ took. (took.0, taken_reached p own_turns before took.0 took.1, took.2))
        (λ early. let s = world_stood (run p case own_turns) (run p' case turns) end_beside h early in (s.0, stood_reached p own_turns before s.0 s.1, s.2))
        (marked.hit h c)

    -- where the case ends well, each hit is the probe of a taken edge, and each such probe is hit
    pub hit_taken : EndsWell p' case turns → (h : Hit) → Contains (run p' case turns).hits h → IsProbeOf p' sides (taken_from p before own_turns) h
    hit_taken ends h c =
        ⊎_elim (λ took. took) (λ early. absurd (none_of (early_in p' sides) no_early (run p' case turns).threads ends.returned h early)) (marked.hit h c)

    pub taken_hit : EndsWell p' case turns → (e : ProgramEdge) (h : Hit) → Contains (taken_from p before own_turns) e → probe_in p' sides e ≡ Some h
        → Contains (run p' case turns).hits h
    taken_hit ends e h c k =
        ⊎_elim (λ hit. hit) (λ due. absurd (none_of (due_in p' sides) no_due (run p' case turns).threads ends.returned h due)) (marked.taken e h c k)

    -- the original's run ends well too
    pub both_returned : EndsWell p' case turns → HaveReturned (run p case own_turns).threads
    both_returned ends = all_returned (run p case own_turns).threads (run p' case turns).threads end_beside.threads ends.returned

    pub both_calm : EndsWell p' case turns → (run p case own_turns).shared.raised ≡ false
    both_calm ends = sym end_beside.shared.raised ∙ ends.calm

    -- something came to each reached edge
    pub reached_came : (Took : ProgramEdge → Type 0) → ((e : ProgramEdge) → Contains (taken_from p before own_turns) e → Took e)
        → (e : ProgramEdge) → Contains (reached_from p before own_turns) e → EdgeCame p no_init Took e
    reached_came Took sub e c =
        ⊎_elim
        (λ took. taken_came p no_init Took own_turns before (begin_good p no_init case) (begin_came p no_init Took case) sub e took)
        (λ stood. stood_came p no_init Took (run p case own_turns)
        (run_came p no_init Took own_turns before (begin_good p no_init case) (begin_came p no_init Took case) sub) e stood)
        (reached_parts p own_turns before e c)
