-- Covered edges of a run plan: sound, and exact where each case ended well.
use Rattle.std.proofs.Common.{◌≡◌, ◌↔◌, ℕ, Bool, false, List, [], Option, Some, None, option_map, sym, ap, ◌∙◌, subst}
use Rattle.std.specs.Prelude.{slice_get, slice_index_or, Contains, IsTrue}
use Rattle.std.proofs.lemmas.Bool.{true≢false}
use Rattle.std.proofs.lemmas.Option.{none-some, same_Some}
use Rattle.jc_bytes.proofs.BooleanLaws.{stands_in}
use Rattle.jc_methods.specs.declared.body.Body.{Body}
use Rattle.jc_programs.specs.declared.program.Program.{Program}
use Rattle.jc_programs.specs.declared.program.Linked.{Linked}
use Rattle.jc_programs.specs.declared.run_plan.Case.{Case}
use Rattle.jc_programs.specs.declared.run_plan.RunPlan.{RunPlan}
use Rattle.jc_programs.specs.declared.run_end.Entry.{Entry}
use Rattle.jc_plan.specs.declared.branch.Branch.{Branch}
use Rattle.jc_plan.specs.Edges.{branches}
use Rattle.jc_plan.specs.Probed.{is_probed_way, is_probed}
use Rattle.jc_plan.specs.ClassEdges.{ClassEdge, edge_in, IsClassEdge, ProgramEdge, in_its_class, edge_of_class, IsProgramEdge}
use Rattle.jc_emit.specs.Marks.{Marks}
use Rattle.jc_cover.specs.Covered.{is_hit, IsCovered, IsProgramCovered}
use Rattle.jc_cover.specs.Followed.{AreEnteredInClass, AreFollowedInClass, TookSometime, IsIdOf}
use Rattle.jc_cover.proofs.FollowedLaws.{class_reached, class_taken}
use Rattle.jc_machine_model.specs.World.{Hit}
use Rattle.jc_machine_model.specs.Begin.{begin_case}
use Rattle.jc_twin_simulation.specs.Laws.{kept_of}
use Rattle.jc_twin_simulation.specs.Sides.{Side, AreSides, AreMarksOf}
use Rattle.jc_twin_simulation.specs.Probes.{hit_of}
use Rattle.jc_twin_simulation.proofs.ProgramRunLaws.{have_sides}
use Rattle.jc_twin_exact.specs.Exact.{IsChangedAt, HaveEntries, OfSomeCase, OfEachCase, Took, Reached, HasHit, EndsWell, TellHits, IsExact, ExactEdges}
use Rattle.jc_twin_exact.proofs.CameLaws.{EdgeCame, taken_reached}
use Rattle.jc_twin_exact.proofs.StayLaws.{TakenWith, with_taken, taken_with, IsFollowed, followed}
use Rattle.jc_twin_exact.proofs.MarkLaws.{probe_in}
use Rattle.jc_twin_exact.proofs.BeginLaws.{begin_good}
use Rattle.jc_twin_exact.proofs.CaseLaws.{no_init, ids_are, hit_reached, hit_taken, taken_hit, both_returned, both_calm, reached_came}

-- the parts of a probe that is known
probe_parts : (class id : ℕ) (o : Option ℕ) (k : ℕ) → option_map (hit_of k) o ≡ Some (hit_of class id) → (k ≡ class) × (o ≡ Some id)
probe_parts class id None k e = absurd (none-some (hit_of class id) e)
probe_parts class id (Some x) k e =
    let same = same_Some (hit_of k x) (hit_of class id) e in (ap (λ (h : Hit). h.class) same, ap (λ (h : Hit). Some h.id) same)

module _ (p p' : Program) (sides : Entry → Side) (marks : Entry → Marks) (are : AreSides p p' sides) (told : AreMarksOf p p' marks sides)
    (plan : RunPlan) (have : HaveEntries p plan) (turns : ℕ → List ℕ) (hits : List (List Bool))
    (tell : TellHits (λ hit. OfSomeCase plan turns (HasHit p' hit)) hits) where
  abbrev TookOne : ProgramEdge → Type 0
  TookOne e = OfSomeCase plan turns (Took p p' marks e)

  abbrev ReachedOne : ProgramEdge → Type 0
  ReachedOne e = OfSomeCase plan turns (Reached p p' marks e)

  -- taken when so many turns were left
  abbrev TookThen : ProgramEdge → ℕ → Type 0
  TookThen e left = OfSomeCase plan turns (λ case s. TakenWith p (begin_case p case) (kept_of p' marks case s) e left)

  abbrev entries_at : (number : ℕ) (case : Case) → slice_get plan.cases number ≡ Some case → List Entry
  entries_at number case e = (have case (stands_in plan.cases number case e)).0

  sometime : (e : ProgramEdge) → TookOne e → (left : ℕ) × TookThen e left
  sometime e t =
      let w = with_taken p (kept_of p' marks t.case (turns t.number)) (begin_case p t.case) e t.holds in
      (w.0, record { number = t.number; case = t.case; listed = t.listed; holds = w.1 })

  took_then : (e : ProgramEdge) (left : ℕ) → TookThen e left → TookOne e
  took_then e left t = record {
    number = t.number;
    case = t.case;
    listed = t.listed;
    holds = taken_with p (kept_of p' marks t.case (turns t.number)) (begin_case p t.case) e left t.holds;
  }

  took_reached : (e : ProgramEdge) → TookOne e → ReachedOne e
  took_reached e t = record {
    number = t.number;
    case = t.case;
    listed = t.listed;
    holds = taken_reached p (kept_of p' marks t.case (turns t.number)) (begin_case p t.case) e t.holds;
  }

  -- something came to each reached edge, by edges that are so
  came : (Fact : ProgramEdge → Type 0) → ((e : ProgramEdge) → TookOne e → Fact e) → (e : ProgramEdge) → ReachedOne e
      → EdgeCame p (no_init p p' sides marks are told) Fact e
  came Fact sub e r =
      let h = have r.case (stands_in plan.cases r.number r.case r.listed) in
      reached_came p p' sides marks are told r.case h.0 h.1 (turns r.number) Fact
      (λ x c. sub x (record { number = r.number; case = r.case; listed = r.listed; holds = c })) e r.holds

  -- ---- a class with probes

  module _ (k : ℕ) (c : Linked) (class_is : slice_get p.classes k ≡ Some c) (changed : IsChangedAt p' k) where
    abbrev bits : List Bool
    bits = slice_index_or hits k []

    -- what is so of an edge of the class
    abbrev Here : (ProgramEdge → Type 0) → ClassEdge → Type 0
    Here Fact e = Fact (edge_of_class k e)

    -- an edge of the class whose probe is known
    found : (Fact : ProgramEdge → Type 0) (id : ℕ) (e : ProgramEdge) → IsProgramEdge p e → probe_in p' sides e ≡ Some (hit_of k id) → Fact e
        → IsIdOf c.bodies (Here Fact) id
    found Fact id e is probe fact =
        let m : Entry = record { class = e.class; method = e.body } in
        let parts = probe_parts k id ((sides m).ids e.branch) e.class probe in
        let same : is.class ≡ c = same_Some is.class c (sym is.stands ∙ ap (slice_get p.classes) parts.0 ∙ class_is) in
        let body = is.edge.body in
        let stands : slice_get c.bodies e.body ≡ Some body = ap (λ (x : Linked). slice_get x.bodies e.body) (sym same) ∙ is.edge.stands in
        let there = ap (slice_get p.classes) parts.0 ∙ class_is in
        let ids = ids_are p p' sides marks are told m (subst (IsChangedAt p') (sym parts.0) changed) c body there stands in (
          in_its_class e,
          record { body = body; stands = stands; listed = is.edge.listed; probe = ap (λ (f : Branch → Option ℕ). f e.branch) (sym ids) ∙ parts.1 },
          subst (λ j. Fact (record { class = j; body = e.body; branch = e.branch })) parts.0 fact,
        )

    entered : (Fact : ProgramEdge → Type 0) → ((e : ProgramEdge) → TookOne e → Fact e) → (Come : ProgramEdge → Type 0)
        → ((e : ProgramEdge) → Come e → ReachedOne e) → ((e : ProgramEdge) → Fact e → Come e) → AreEnteredInClass c.bodies (Here Fact) (Here Come)
    entered Fact sub Come reached more n b stands = record {
      came = λ x listed r. (came Fact sub (edge_of_class k (edge_in n x)) (reached (edge_of_class k (edge_in n x)) r)).came c b class_is stands;
      reached = λ x t. more (edge_of_class k (edge_in n x)) t;
    }

    sound : (e : ClassEdge) → IsCovered c.bodies bits e → Here ReachedOne e
    sound e covered =
        class_reached c.bodies bits (Here TookOne) (Here ReachedOne)
        (entered TookOne (λ x t. t) ReachedOne (λ x r. r) took_reached)
        (λ id hit.
        let s = (tell k id).0 hit in
        let h = have s.case (stands_in plan.cases s.number s.case s.listed) in
        let r = hit_reached p p' sides marks are told s.case h.0 h.1 (turns s.number) (hit_of k id) s.holds in
        let reached : ReachedOne r.0 = record { number = s.number; case = s.case; listed = s.listed; holds = r.1 } in
        found ReachedOne id r.0 (came TookOne (λ x t. t) r.0 reached).edge r.2 reached)
        e covered

    -- ---- where each case ended well

    module _ (ends : OfEachCase plan turns (EndsWell p')) where
      abbrev Then : ClassEdge → ℕ → Type 0
      Then e left = TookThen (edge_of_class k e) left

      is_edge : (e : ClassEdge) → TookSometime Then e → IsClassEdge c.bodies e
      is_edge e t =
          let is = (came TookOne (λ x u. u) (edge_of_class k e) (took_reached (edge_of_class k e) (took_then (edge_of_class k e) t.0 t.1))).edge in
          let same : is.class ≡ c = same_Some is.class c (sym is.stands ∙ class_is) in
          subst (λ (x : Linked). IsClassEdge x.bodies e) same is.edge

      then_followed : (n : ℕ) (b : Body) (x : Branch) (left : ℕ) → (t : Then (edge_in n x) left) → is_probed b x ≡ false
          → IsFollowed p (begin_case p t.case) (kept_of p' marks t.case (turns t.number)) (edge_of_class k (edge_in n x)) left
      then_followed n b x left t none =
          let h = have t.case (stands_in plan.cases t.number t.case t.listed) in
          let well = ends t.number t.case t.listed in
          followed p (no_init p p' sides marks are told) (kept_of p' marks t.case (turns t.number)) (begin_case p t.case)
          (begin_good p (no_init p p' sides marks are told) t.case)
          (both_returned p p' sides marks are told t.case h.0 h.1 (turns t.number) well)
          (both_calm p p' sides marks are told t.case h.0 h.1 (turns t.number) well)
          (edge_of_class k (edge_in n x)) left (λ out. true≢false (sym (ap (is_probed_way b) out) ∙ none)) t.holds

      followed_in : AreFollowedInClass c.bodies Then
      followed_in n b stands = record {
        listed = λ x left t.
            let e = is_edge (edge_in n x) (left, t) in
            subst (λ (z : Body). Contains (branches z.code) x) (same_Some e.body b (sym e.stands ∙ stands)) e.listed;
        next = λ x left t none.
            let f = then_followed n b x left t none in
            (f.branch, f.later, f.fewer, f.leads, record { number = t.number; case = t.case; listed = t.listed; holds = f.taken });
      }

      abbrev Sometime : ProgramEdge → Type 0
      Sometime e = (left : ℕ) × TookThen e left

      hit_is : (id : ℕ) → IsTrue (is_hit bits id) → IsIdOf c.bodies (TookSometime Then) id
      hit_is id hit =
          let s = (tell k id).0 hit in
          let h = have s.case (stands_in plan.cases s.number s.case s.listed) in
          let b = hit_taken p p' sides marks are told s.case h.0 h.1 (turns s.number) (ends s.number s.case s.listed) (hit_of k id) s.holds in
          let took : TookOne b.0 = record { number = s.number; case = s.case; listed = s.listed; holds = b.1 } in
          found Sometime id b.0 (came TookOne (λ x t. t) b.0 (took_reached b.0 took)).edge b.2 (sometime b.0 took)

      is_hit_of : (id : ℕ) → IsIdOf c.bodies (TookSometime Then) id → IsTrue (is_hit bits id)
      is_hit_of id f =
          let e = edge_of_class k f.0 in
          let t = f.2.1 in
          let h = have t.case (stands_in plan.cases t.number t.case t.listed) in
          let m : Entry = record { class = k; method = f.0.body } in
          let ids = ids_are p p' sides marks are told m changed c f.1.body class_is f.1.stands in
          let probe : probe_in p' sides e ≡ Some (hit_of k id) =
          ap (λ (g : Branch → Option ℕ). option_map (hit_of k) (g f.0.branch)) ids ∙ ap (option_map (hit_of k)) f.1.probe in
          (tell k id).1
          (record {
            number = t.number;
            case = t.case;
            listed = t.listed;
            holds = taken_hit p p' sides marks are told t.case h.0 h.1 (turns t.number) (ends t.number t.case t.listed) e (hit_of k id)
                (taken_with p (kept_of p' marks t.case (turns t.number)) (begin_case p t.case) e f.2.0 t.holds) probe;
          })

      exact : (e : ClassEdge) → IsCovered c.bodies bits e ↔ TookSometime Then e
      exact e =
          class_taken c.bodies bits Then
          (entered Sometime sometime Sometime (λ x f. took_reached x (took_then x f.0 f.1)) (λ x f. f))
          followed_in is_edge (λ id. (hit_is id, is_hit_of id)) e

  -- ---- the run plan

  reached_by : (e : ProgramEdge) → IsChangedAt p' e.class → IsProgramCovered p hits e → ReachedOne e
  reached_by e changed c = sound e.class c.class c.stands changed (in_its_class e) c.covered

  taken_by : OfEachCase plan turns (EndsWell p') → (e : ProgramEdge) → IsChangedAt p' e.class → IsProgramCovered p hits e ↔ TookOne e
  taken_by ends e changed = (
    λ c. let t = (exact e.class c.class c.stands changed ends (in_its_class e)).0 c.covered in took_then e t.0 t.1,
    λ t.
        let is = (came TookOne (λ x u. u) e (took_reached e t)).edge in
        record { class = is.class; stands = is.stands; covered = (exact e.class is.class is.stands changed ends (in_its_class e)).1 (sometime e t) },
  )

  pub plan_exact : IsExact p p' marks plan turns hits
  plan_exact = record { reached = reached_by; taken = taken_by }

pub exact_edges : (p p' : Program) (plan : RunPlan) → ExactEdges p p' plan
exact_edges p p' plan marks twin are have turns hits tell =
    let s = have_sides p p' marks twin are in
    plan_exact p p' s.0 marks s.1 s.2 plan have turns hits tell
