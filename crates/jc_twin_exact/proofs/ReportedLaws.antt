-- Counted instructions and branches, by the law of covered edges.
use Rattle.std.proofs.Common.{◌≡◌, ◌⊎◌, inl, inr, ⊎_elim, ◌↔◌, ℕ, ◌≤◌, Bool, List, [], ◌∷◌, ◌++◌, length, map, Option, Some, None, refl, sym, ap, ◌∙◌, subst, arith}
use Rattle.std.specs.Prelude.{slice_get, slice_index_or, Contains, IsTrue}
use Rattle.std.specs.List.{flat_map}
use Rattle.std.proofs.lemmas.List.Elements.{Contains-append_right}
use Rattle.std.proofs.lemmas.Option.{same_Some}
use Rattle.jc_bytes.proofs.BooleanLaws.{first_in, none_in, stands_in}
use Rattle.jc_bytes.proofs.FirstSeenLaws.{contains_one}
use Rattle.jc_bytes.proofs.ListLaws.{flat_cases, stands_at}
use Rattle.jc_methods.specs.Flow.{flow_of, targets_of}
use Rattle.jc_methods.specs.declared.insn.Insn.{Insn}
use Rattle.jc_methods.specs.declared.insn.Flow.{Flow}
use Rattle.jc_methods.specs.declared.insn.Flow.TheVariants as flows
use Rattle.jc_methods.specs.declared.body.Body.{Body}
use Rattle.jc_programs.specs.declared.program.Program.{Program}
use Rattle.jc_programs.specs.declared.program.Linked.{Linked}
use Rattle.jc_programs.specs.declared.run_plan.Case.{Case}
use Rattle.jc_programs.specs.declared.run_plan.RunPlan.{RunPlan}
use Rattle.jc_programs.specs.declared.run_end.Entry.{Entry}
use Rattle.jc_programs.specs.Turns.{turns_in}
use Rattle.jc_plan.specs.declared.branch.Branch.{Branch}
use Rattle.jc_plan.specs.Edges.{jump, branches_by, branches_of}
use Rattle.jc_plan.specs.Probed.{first_id}
use Rattle.jc_plan.specs.Chosen.{one_way, chosen}
use Rattle.jc_plan.specs.ClassEdges.{ProgramEdge, in_its_class}
use Rattle.jc_plan.proofs.ChosenLaws.{chosen_leads}
use Rattle.jc_plan.proofs.OneWayLaws.{jumps_one, begins_at}
use Rattle.jc_emit.specs.Marks.{Marks}
use Rattle.jc_twin_programs.specs.TwinProgram.{TwinProgram}
use Rattle.jc_cover.specs.declared.coverage.Coverage.{Coverage}
use Rattle.jc_cover.specs.Covered.{values_of, value_at, Covered, IsCovered, IsProgramCovered, TellsCovered}
use Rattle.jc_cover.specs.Counters.{is_covered, counters_of}
use Rattle.jc_cover.proofs.OneCoverageLaws.{one_coverage, insn_told}
use Rattle.jc_machine_model.specs.World.{Thread, running, returned, threw, stuck, World}
use Rattle.jc_machine_model.specs.Begin.{begin_case}
use Rattle.jc_machine_model.specs.Run.{run_from, run, IsHit}
use Rattle.jc_machine_model.specs.Step.{LocatedInsn, located, step}
use Rattle.jc_machine_model.specs.Taken.{edge_of, edges_of, one_edge, edge_stood, edges_stood, turn_edges, taken_from}
use Rattle.jc_twin_simulation.specs.Marking.{AreMarks}
use Rattle.jc_twin_simulation.proofs.ProgramRunLaws.{have_sides}
use Rattle.jc_twin_simulation.proofs.RunLaws.{run_append}
use Rattle.jc_twin_exact.specs.Exact.{HaveReturned, IsChangedAt, HaveEntries, OfSomeCase, OfEachCase, Took, Reached, HasHit, EndsWell, TellHits, IsExact}
use Rattle.jc_twin_exact.specs.Reported.{branch_edge, kept_in, WasTaken, IsNext, WasExecuted, IsNextInsn, HadTurn, AllEndWell, TellsTaken, IsReported, ReportedEdges}
use Rattle.jc_twin_exact.proofs.GoodLaws.{run_good}
use Rattle.jc_twin_exact.proofs.CameLaws.{insn_there, reached_parts}
use Rattle.jc_twin_exact.proofs.StayLaws.{taken_with, each_leaves}
use Rattle.jc_twin_exact.proofs.BeginLaws.{begin_good}
use Rattle.jc_twin_exact.proofs.CaseLaws.{no_init, both_returned, both_calm}
use Rattle.jc_twin_exact.proofs.ExactLaws.{plan_exact}

-- ---- the turns of a run plan's own schedules

abbrev turns_if : Option Case → List ℕ
turns_if None = []
turns_if (Some case) = turns_in case

abbrev own_turns : RunPlan → ℕ → List ℕ
own_turns plan number = turns_if (slice_get plan.cases number)

module _ (plan : RunPlan) (Fact : Case → List ℕ → Type 0) where
  to_some : (case : Case) → Contains plan.cases case → Fact case (turns_in case) → OfSomeCase plan (own_turns plan) Fact
  to_some case c h =
      let n = stands_at plan.cases case c in
      record { number = n.0; case = case; listed = n.1; holds = subst (λ o. Fact case (turns_if o)) (sym n.1) h }

  from_some : OfSomeCase plan (own_turns plan) Fact → (case : Case) × Contains plan.cases case × Fact case (turns_in case)
  from_some s = (s.case, stands_in plan.cases s.number s.case s.listed, subst (λ o. Fact s.case (turns_if o)) s.listed s.holds)

  to_each : ((case : Case) → Contains plan.cases case → Fact case (turns_in case)) → OfEachCase plan (own_turns plan) Fact
  to_each h number case e = subst (λ o. Fact case (turns_if o)) (sym e) (h case (stands_in plan.cases number case e))

-- ---- where threads stand

-- the flow of an instruction with one edge
abbrev IsLone : Flow → Type 0
IsLone flow = (flow ≡ flows.Jumps) ⊎ ((flow ≡ flows.Returns) ⊎ (flow ≡ flows.Throws))

lone_length : (i : ℕ) (insn : Insn) → IsLone (flow_of insn) → length (branches_of i insn) ≡ 1
lone_length i insn (inl e) =
    let one = jumps_one insn e in
    ap (λ w. length (branches_by w i (targets_of insn))) e ∙ ap (λ l. length (map (jump i) l)) one.1
lone_length i insn (inr (inl e)) = ap (λ w. length (branches_by w i (targets_of insn))) e
lone_length i insn (inr (inr e)) = ap (λ w. length (branches_by w i (targets_of insn))) e

-- a thread stands at the instruction of an edge, which is the only one of its instruction
record IsLoneEdge (p : Program) (e : ProgramEdge) : Type 0 where
  insn : LocatedInsn
  here : located p (record { class = e.class; method = e.body }) e.branch.at ≡ Some insn
  lone : IsLone (flow_of insn.insn)

module _ (p : Program) where
  stood_lone : (m : Entry) (q : ℕ) (e : ProgramEdge) → Contains (edge_stood m q (located p m q)) e → IsLoneEdge p e
  stood_lone m q e c = by (located p m q) refl c
    where
      by_branch : (i : LocatedInsn) → located p m q ≡ Some i → IsLone (flow_of i.insn) → (o : Option Branch) → chosen q i.insn one_way ≡ o
          → Contains (edges_of m o) e → IsLoneEdge p e
      by_branch i l lone None h c = absurd (none_in e c)
      by_branch i l lone (Some x) h c =
          subst (IsLoneEdge p) (contains_one (edge_of m x) e c)
          (record { insn = i; here = ap (located p m) (chosen_leads q i.insn one_way x h).0 ∙ l; lone = lone })

      by_flow : (i : LocatedInsn) → located p m q ≡ Some i → (flow : Flow) → flow_of i.insn ≡ flow → Contains (one_edge m q i.insn flow) e → IsLoneEdge p e
      by_flow i l flows.Jumps f c = by_branch i l (inl f) (chosen q i.insn one_way) refl c
      by_flow i l flows.Returns f c = by_branch i l (inr (inl f)) (chosen q i.insn one_way) refl c
      by_flow i l flows.Throws f c = by_branch i l (inr (inr f)) (chosen q i.insn one_way) refl c
      by_flow i l other f c = absurd (none_in e c)

      by : (o : Option LocatedInsn) → located p m q ≡ o → Contains (edge_stood m q o) e → IsLoneEdge p e
      by None l c = absurd (none_in e c)
      by (Some i) l c = by_flow i l (flow_of i.insn) refl c

  thread_lone : (x : Thread) (e : ProgramEdge) → Contains (edges_stood p x) e → IsLoneEdge p e
  thread_lone (running f fs) e c = stood_lone f.method f.place e c
  thread_lone (stuck m q) e c = stood_lone m q e c
  thread_lone (returned v) e c = absurd (none_in e c)
  thread_lone (threw d) e c = absurd (none_in e c)

  threads_lone : (threads : List Thread) (e : ProgramEdge) → Contains (flat_map (edges_stood p) threads) e → IsLoneEdge p e
  threads_lone threads e c = let f = flat_cases (edges_stood p) threads e c in thread_lone f.0 e f.2

  -- ---- turns in two parts

  taken_behind : (front back : List ℕ) (w : World) (e : ProgramEdge) → Contains (taken_from p (run_from p w front) back) e
      → Contains (taken_from p w (front ++ back)) e
  taken_behind [] back w e c = c
  taken_behind (t ∷ front) back w e c =
      Contains-append_right (turn_edges p w t) (taken_from p (step p w t) (front ++ back)) e (taken_behind front back (step p w t) e c)

module _ (p p' : Program) (marks : Entry → Marks) (twin : TwinProgram p p') (are : AreMarks p p' marks) (plan : RunPlan) (have : HaveEntries p plan)
    (hits : List (List Bool)) (tell : TellHits (IsHit p' plan) hits) where
  tells : TellHits (λ hit. OfSomeCase plan (own_turns plan) (HasHit p' hit)) hits
  tells class id = (
    λ h. let s = (tell class id).0 h in to_some plan (HasHit p' (record { class = class; id = id })) s.0 s.1 s.2,
    λ o. (tell class id).1 (from_some plan (HasHit p' (record { class = class; id = id })) o),
  )

  exact : IsExact p p' marks plan (own_turns plan) hits
  exact = let s = have_sides p p' marks twin are in plan_exact p p' s.0 marks s.1 s.2 plan have (own_turns plan) hits tells

  abbrev Taken : ProgramEdge → Type 0
  Taken e = WasTaken p p' marks plan e

  abbrev Next : ProgramEdge → Type 0
  Next e = IsNext p p' marks plan e

  module _ (class : ℕ) (c : Linked) (class_is : slice_get p.classes class ≡ Some c) (changed : IsChangedAt p' class) (coverage : Coverage)
      (told : TellsCovered c.bodies (slice_index_or hits class []) coverage) where
    abbrev bits : List Bool
    bits = slice_index_or hits class []

    covered_edge : (n : ℕ) (b : Body) (x : Branch) → slice_get c.bodies n ≡ Some b → Covered b (first_id c.bodies n) bits x
        → IsProgramCovered p hits (branch_edge class n x)
    covered_edge n b x e h = record { class = c; stands = class_is; covered = record { body = b; stands = e; covered = h } }

    edge_covered : (n : ℕ) (b : Body) (x : Branch) → slice_get c.bodies n ≡ Some b → IsProgramCovered p hits (branch_edge class n x)
        → Covered b (first_id c.bodies n) bits x
    edge_covered n b x e h =
        let same : h.class ≡ c = same_Some h.class c (sym h.stands ∙ class_is) in
        let k = subst (λ (d : Linked). IsCovered d.bodies bits (in_its_class (branch_edge class n x))) same h.covered in
        subst (λ z. Covered z (first_id c.bodies n) bits x) (same_Some k.body b (sym k.stands ∙ e)) k.covered

    reached_edge : (e : ProgramEdge) → IsProgramCovered p hits e → e.class ≡ class → Taken e ⊎ Next e
    reached_edge e h same =
        let r = exact.reached e (subst (IsChangedAt p') (sym same) changed) h in
        let s = from_some plan (Reached p p' marks e) r in
        ⊎_elim (λ t. inl (s.0, s.1, t)) (λ n. inr (s.0, s.1, n)) (reached_parts p (kept_in p p' marks plan s.0) (begin_case p s.0) e s.2)

    insn_sound : (n i : ℕ) (b : Body) (insn : Insn) (values : List Bool) → slice_get c.bodies n ≡ Some b → slice_get b.code i ≡ Some insn
        → values_of coverage n i ≡ Some values → IsTrue (is_covered values) → WasExecuted p p' marks plan class n i ⊎ IsNextInsn p p' marks plan class n i
    insn_sound n i b insn values e h v t =
        let k = (insn_told c.bodies bits coverage n i b insn values told e h v).0 t in
        ⊎_elim (λ taken. inl (k.0, k.1, taken)) (λ next. inr (k.0, k.1, next)) (reached_edge (branch_edge class n k.0) (covered_edge n b k.0 e k.2) refl)

    -- the value of a branch
    value_told : (n i k : ℕ) (b : Body) (insn : Insn) (x : Branch) (value : Bool) → slice_get c.bodies n ≡ Some b → slice_get b.code i ≡ Some insn
        → slice_get (branches_of i insn) k ≡ Some x → value_at coverage n i k ≡ Some value → IsTrue value ↔ Covered b (first_id c.bodies n) bits x
    value_told n i k b insn x value e h j v =
        let o = told.values n i k b insn x e h j in
        subst (λ z. IsTrue z ↔ Covered b (first_id c.bodies n) bits x) (same_Some o.0 value (sym o.1 ∙ v)) o.2

    branch_sound : (n i k : ℕ) (b : Body) (insn : Insn) (x : Branch) (value : Bool) → slice_get c.bodies n ≡ Some b → slice_get b.code i ≡ Some insn
        → slice_get (branches_of i insn) k ≡ Some x → 2 ≤ length (branches_of i insn) → value_at coverage n i k ≡ Some value → IsTrue value
        → Taken (branch_edge class n x)
    branch_sound n i k b insn x value e h j two v t =
        ⊎_elim
        (λ taken. taken)
        (λ next.
        let l = threads_lone p (run p next.0 (kept_in p p' marks plan next.0)).threads (branch_edge class n x) next.2 in
        let at : i ≡ x.at = begins_at insn i x (stands_in (branches_of i insn) k x j) in
        let is : l.insn.insn ≡ insn =
        same_Some l.insn.insn insn (sym (insn_there p (record { class = class; method = n }) x.at l.insn l.here c b class_is e)
        ∙ ap (slice_get b.code) (sym at) ∙ h) in
        let one = lone_length i insn (subst (λ z. IsLone (flow_of z)) is l.lone) in
        absurd (omega (arith, two, one)))
        (reached_edge (branch_edge class n x) (covered_edge n b x e ((value_told n i k b insn x value e h j v).0 t)) refl)

    -- ---- where all cases ended well

    module _ (ends : AllEndWell p p' marks plan) where
      taken_covered : (e : ProgramEdge) → e.class ≡ class → IsProgramCovered p hits e ↔ Taken e
      taken_covered e same =
          let law = exact.taken (to_each plan (EndsWell p') ends) e (subst (IsChangedAt p') (sym same) changed) in
          (λ h. from_some plan (Took p p' marks e) (law.0 h), λ t. law.1 (to_some plan (Took p p' marks e) t.0 t.1 t.2))

      branch_taken : (n : ℕ) (b : Body) (x : Branch) → slice_get c.bodies n ≡ Some b → Covered b (first_id c.bodies n) bits x ↔ Taken (branch_edge class n x)
      branch_taken n b x e = (
        λ h. (taken_covered (branch_edge class n x) refl).0 (covered_edge n b x e h),
        λ t. edge_covered n b x e ((taken_covered (branch_edge class n x) refl).1 t),
      )

      insn_exact : (n i : ℕ) (b : Body) (insn : Insn) (values : List Bool) → slice_get c.bodies n ≡ Some b → slice_get b.code i ≡ Some insn
          → values_of coverage n i ≡ Some values → IsTrue (is_covered values) ↔ WasExecuted p p' marks plan class n i
      insn_exact n i b insn values e h v =
          let law = insn_told c.bodies bits coverage n i b insn values told e h v in (
            λ t. let k = law.0 t in (k.0, k.1, (branch_taken n b k.0 e).0 k.2),
            λ w. law.1 (w.0, w.1, (branch_taken n b w.0 e).1 w.2),
          )

      branch_exact : (n i k : ℕ) (b : Body) (insn : Insn) (x : Branch) (value : Bool) → slice_get c.bodies n ≡ Some b → slice_get b.code i ≡ Some insn
          → slice_get (branches_of i insn) k ≡ Some x → value_at coverage n i k ≡ Some value → IsTrue value ↔ Taken (branch_edge class n x)
      branch_exact n i k b insn x value e h j v =
          let law = value_told n i k b insn x value e h j v in
          let taken = branch_taken n b x e in
          (λ t. taken.0 (law.0 t), λ w. law.1 (taken.1 w))

      turn_executed : (n i : ℕ) → HadTurn p p' marks plan class n i → WasExecuted p p' marks plan class n i
      turn_executed n i h =
          let s = have_sides p p' marks twin are in
          let none = no_init p p' s.0 marks s.1 s.2 in
          let have_it = have h.case h.listed in
          let well = ends h.case h.listed in
          let w = begin_case p h.case in
          let back = h.thread ∷ h.back in
          let whole : run p h.case (kept_in p p' marks plan h.case) ≡ run_from p (run_from p w h.front) back =
          ap (run_from p w) h.turns ∙ run_append p h.front back w in
          let l = each_leaves p none back (run_from p w h.front) (run_good p none h.front w (begin_good p none h.case))
          (subst (λ (z : World). HaveReturned z.threads) whole (both_returned p p' s.0 marks s.1 s.2 h.case have_it.0 have_it.1 (turns_in h.case) well))
          (ap (λ (z : World). z.shared.raised) (sym whole) ∙ both_calm p p' s.0 marks s.1 s.2 h.case have_it.0 have_it.1 (turns_in h.case) well)
          h.thread (running h.frame h.waiting) h.runs h.frame (first_in h.frame h.waiting) in
          let edge : edge_of h.frame.method l.branch ≡ branch_edge class n l.branch = ap (λ m. edge_of m l.branch) h.method in
          let took = taken_behind p h.front back w (edge_of h.frame.method l.branch)
          (taken_with p back (run_from p w h.front) (edge_of h.frame.method l.branch) l.later l.taken) in (
            l.branch,
            l.at ∙ h.at,
            (
              h.case,
              h.listed,
              subst (λ z. Contains (taken_from p w (kept_in p p' marks plan h.case)) z) edge
                  (subst (λ z. Contains (taken_from p w z) (edge_of h.frame.method l.branch)) (sym h.turns) took),
            ),
          )

      same_counters : (other : Coverage) → TellsTaken p p' marks plan class c.bodies other → counters_of c.bodies coverage ≡ counters_of c.bodies other
      same_counters other t =
          ap (counters_of c.bodies)
          (one_coverage c.bodies bits coverage other told
          (record {
            shape = t.shape;
            values = λ n i k b insn x e h j.
                let v = t.values n i k b insn x e h j in
                let law = branch_taken n b x e in
                (v.0, v.1, (λ q. law.1 (v.2.0 q), λ q. v.2.1 (law.0 q)));
          }))

    pub reported : IsReported p p' marks plan class c.bodies coverage
    reported = record {
      insns = insn_sound;
      branches = branch_sound;
      exact_insns = insn_exact;
      exact_branches = branch_exact;
      had_turn = turn_executed;
      counters = same_counters;
    }

pub reported_edges : (p p' : Program) (plan : RunPlan) → ReportedEdges p p' plan
reported_edges p p' plan marks twin are have hits tell class c class_is changed coverage told =
    reported p p' marks twin are plan have hits tell class c class_is changed coverage told
