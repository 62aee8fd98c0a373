-- The bits of the execution data say which probes were passed, and no case passes what is no probe.
use Rattle.std.proofs.Common.{◌≡◌, ◌⊎◌, inl, inr, ◌↔◌, ℕ, zero, suc, ◌+◌, ◌<◌, ◌≤◌, Bool, true, false, List, [], ◌∷◌, Option, None, Some, option_map, Contains, refl, sym, ◌∙◌, ap, subst, arith}
use Rattle.std.specs.Prelude.{slice_get, slice_index_or, IsTrue}
use Rattle.std.specs.List.{sum_by}
use Rattle.std.proofs.lemmas.Bool.{cases_lt, true≢false}
use Rattle.std.proofs.lemmas.Option.{none-some, same_Some}
use Rattle.jc_methods.specs.declared.body.Body.{Body}
use Rattle.jc_programs.specs.declared.program.Program.{Program}
use Rattle.jc_programs.specs.declared.program.Linked.{Linked}
use Rattle.jc_programs.specs.declared.program.ProbeInit.{ProbeInit}
use Rattle.jc_programs.specs.declared.run_plan.Case.{Case}
use Rattle.jc_programs.specs.declared.run_plan.RunPlan.{RunPlan}
use Rattle.jc_programs.specs.declared.run_end.Entry.{Entry}
use Rattle.jc_programs.specs.Entries.{AreEntries}
use Rattle.jc_programs.specs.Members.{class_at}
use Rattle.jc_programs.specs.Turns.{turns_in}
use Rattle.jc_plan.specs.declared.branch.Branch.{Branch}
use Rattle.jc_plan.specs.Edges.{branches}
use Rattle.jc_plan.specs.ClassEdges.{ProgramEdge, IsProgramEdge}
use Rattle.jc_plan.specs.Probed.{is_probed, id_if, id_of, first_id, probe_count}
use Rattle.jc_emit.specs.Marks.{Marks}
use Rattle.jc_twin_programs.specs.TwinProgram.{TwinProgram}
use Rattle.jc_cover.specs.Covered.{is_hit}
use Rattle.jc_machine_model.specs.Begin.{begin_case}
use Rattle.jc_machine_model.specs.Fits.{IsProbe, HasProbe}
use Rattle.jc_machine_model.specs.Run.{run, IsHit, hits_of}
use Rattle.jc_machine_model.specs.Taken.{taken_from}
use Rattle.jc_machine_model.specs.World.{Hit}
use Rattle.jc_twin_simulation.specs.Laws.{kept_of}
use Rattle.jc_twin_simulation.specs.Marking.{AreMarks}
use Rattle.jc_twin_simulation.specs.Probes.{hit_of}
use Rattle.jc_twin_simulation.specs.Sides.{Side, IsSide, AreSides, AreMarksOf}
use Rattle.jc_twin_simulation.proofs.ProgramRunLaws.{have_sides}
use Rattle.jc_twin_exact.specs.Exact.{HaveEntries}
use Rattle.jc_twin_exact.proofs.CaseLaws.{hit_reached, reached_came}
use Rattle.jc_twin_exact.proofs.MarkLaws.{probe_in}
use Rattle.jc_command_run.specs.RunStore.{is_hit_in}
use Rattle.jc_command_run.proofs.HitLaws.{probe}
use Rattle.jc_headline.specs.Headline.{bits_with, bits_from, bits_of}
use Rattle.jc_headline.proofs.HitLaws.{class_bits, record_tells, range_behind}
use Rattle.jc_headline.proofs.RowLaws.{ids_below}

-- ---- each hit is a probe

told_id : (k : ℕ) (o : Option ℕ) (h : Hit) → option_map (hit_of k) o ≡ Some h → (k ≡ h.class) × (o ≡ Some h.id)
told_id k None h e = absurd (none-some h e)
told_id k (Some x) h e =
    let same = same_Some (hit_of k x) h e in (ap (λ (y : Hit). y.class) same, ap (λ (y : Hit). Some y.id) same)

chosen_id : (t : Bool) (i id : ℕ) → id_if t i ≡ Some id → (t ≡ true) × (i ≡ id)
chosen_id true i id e = (refl, same_Some i id e)
chosen_id false i id e = absurd (none-some id e)

module _ (p p' : Program) (sides : Entry → Side) (marks : Entry → Marks) (are : AreSides p p' sides) (told : AreMarksOf p p' marks sides) where
  -- the probe of an edge of the program is one of its class
  edge_probe : (e : ProgramEdge) (h : Hit) → IsProgramEdge p e → probe_in p' sides e ≡ Some h → IsProbe p' h
  edge_probe e h is named = by t.slot refl
    where
      m : Entry
      m = record { class = e.class; method = e.body }

      t : Side
      t = sides m

      side : IsSide p p' m t
      side = are.side m is.class is.edge.body is.stands is.edge.stands

      body_is : t.body ≡ is.edge.body
      body_is =
          same_Some t.body is.edge.body
          (sym side.body_is ∙ ap (λ (x : Linked). slice_get x.bodies e.body) (same_Some t.class is.class (sym side.class_is ∙ is.stands)) ∙ is.edge.stands)

      parts : (e.class ≡ h.class) × (t.ids e.branch ≡ Some h.id)
      parts = told_id e.class (t.ids e.branch) h named

      by : (o : Option ℕ) → t.slot ≡ o → IsProbe p' h
      by None q = absurd (none-some h.id (sym (ap (λ (f : Branch → Option ℕ). f e.branch) (side.no_ids_are q)) ∙ parts.1))
      by (Some v) q =
          let pair = (side.changed v q).pair in
          let first = first_id t.class.bodies e.body in
          let chosen = chosen_id (is_probed t.body e.branch) (id_of t.body first e.branch) h.id
          (sym (ap (λ (f : Branch → Option ℕ). f e.branch) (side.ids_are v q)) ∙ parts.1) in
          let below = ids_below t.class.bodies e.body t.body e.branch side.body_is
          (subst (λ (b : Body). Contains (branches b.code) e.branch) (sym body_is) is.edge.listed) chosen.0 in
          let same = chosen.1 in
          subst (λ (o : Option Linked). HasProbe o h.id) (sym (ap (class_at p') (sym parts.0) ∙ side.new_is))
          (record { id = pair.id; count = sum_by probe_count t.class.bodies; bootstrap = _ }, pair.probes, omega (arith, below, same))

  case_probe : (case : Case) (entries : List Entry) → AreEntries p case.threads entries → (turns : List ℕ) (h : Hit) → Contains (run p' case turns).hits h → IsProbe p' h
  case_probe case entries have turns h there =
      let r = hit_reached p p' sides marks are told case entries have turns h there in
      let came = reached_came p p' sides marks are told case entries have turns
      (λ e. Contains (taken_from p (begin_case p case) (kept_of p' marks case turns)) e) (λ e took. took) r.0 r.1 in
      edge_probe r.0 h came.edge r.2

-- ---- bits

-- a class without probes, or none, has no bits
abbrev probes_at : Option Linked → Option ProbeInit
probes_at None = None
probes_at (Some n) = n.probes

no_bits : (hits : List Hit) (k : ℕ) (classes : List Linked) (i : ℕ) → probes_at (slice_get classes i) ≡ None → slice_index_or (bits_from hits k classes) i [] ≡ []
no_bits hits k [] i none = refl
no_bits hits k (c ∷ classes) zero none = ap (bits_with hits k c) none
no_bits hits k (c ∷ classes) (suc i) none = no_bits hits (k + 1) classes i none

module _ (before after : Program) (marks : Entry → Marks) (plan : RunPlan) (twins : TwinProgram before after) (are_marks : AreMarks before after marks)
    (entries : HaveEntries before plan) where
  -- no case passes what is no probe
  is_probe : (h : Hit) → IsHit after plan h → IsProbe after h
  is_probe h (case, listed, there) =
      let s = have_sides before after marks twins are_marks in
      let es = entries case listed in
      case_probe before after s.0 marks s.1 s.2 case es.0 es.1 (turns_in case) h there

  module _ (class id : ℕ) where
    abbrev Bit : Type 0
    Bit = IsTrue (is_hit (slice_index_or (bits_of after plan) class []) id)

    -- no bit is true of a class without probes, nor one behind the last
    no_bit : probes_at (slice_get after.classes class) ≡ None → Bit → ⊥
    no_bit none bit = true≢false (sym bit ∙ ap (λ (b : List Bool). is_hit b id) (no_bits (hits_of after plan) 0 after.classes class none))

    past_bit : (n : Linked) (init : ProbeInit) → slice_get after.classes class ≡ Some n → n.probes ≡ Some init → init.count ≤ id → Bit → ⊥
    past_bit n init at probes past bit =
        true≢false
        (sym bit ∙ ap (λ (b : List Bool). is_hit b id) (class_bits after plan class n init at probes)
        ∙ range_behind (is_hit_in (hits_of after plan) class) 0 init.count id false past)

    set : Bit → IsHit after plan (probe class id)
    set bit = by (slice_get after.classes class) refl
      where
        with_probes : (n : Linked) → slice_get after.classes class ≡ Some n → (o : Option ProbeInit) → n.probes ≡ o → IsHit after plan (probe class id)
        with_probes n at None none = absurd (no_bit (ap probes_at at ∙ none) bit)
        with_probes n at (Some init) probes = within (cases_lt id init.count)
          where
            within : (id < init.count) ⊎ (init.count ≤ id) → IsHit after plan (probe class id)
            within (inl less) = (record_tells after plan class id n init at probes less).0 bit
            within (inr past) = absurd (past_bit n init at probes past bit)

        by : (o : Option Linked) → slice_get after.classes class ≡ o → IsHit after plan (probe class id)
        by None none = absurd (no_bit (ap probes_at none) bit)
        by (Some n) at = with_probes n at n.probes refl

    hit : IsHit after plan (probe class id) → Bit
    hit h = by (slice_get after.classes class) refl (is_probe (probe class id) h)
      where
        by : (o : Option Linked) → slice_get after.classes class ≡ o → HasProbe o id → Bit
        by None none there = absurd there
        by (Some n) at (init, probes, less) = (record_tells after plan class id n init at probes less).1 h

  pub passes : (class id : ℕ) → IsTrue (is_hit (slice_index_or (bits_of after plan) class []) id) ↔ IsHit after plan (probe class id)
  passes class id = (set class id, hit class id)
