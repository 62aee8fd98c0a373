-- The code of a twin depends on no frame of the body: it is that of a twin of the body with other frames.
use Rattle.std.proofs.Common.{◌≡◌, ◌⊎◌, inl, inr, ℕ, ◌+◌, ◌-◌, ◌<◌, Bool, true, false, List, [], ◌∷◌, map, Option, Some, None, refl, sym, ◌∙◌, ap, ap₂, subst}
use Rattle.std.specs.Prelude.{slice_get}
use Rattle.jc_methods.specs.Flow.{flow_of}
use Rattle.jc_methods.specs.Insn.{with_places}
use Rattle.jc_methods.specs.declared.body.Body.{Body}
use Rattle.jc_methods.specs.declared.body.FrameAt.{FrameAt}
use Rattle.jc_methods.specs.declared.body.Handler.{Handler}
use Rattle.jc_methods.specs.declared.body.LineAt.{LineAt}
use Rattle.jc_methods.specs.declared.body.VarAt.{VarAt}
use Rattle.jc_methods.specs.declared.insn.Insn.{Insn}
use Rattle.jc_methods.specs.declared.insn.Flow.{Flow}
use Rattle.jc_methods.specs.declared.insn.Flow.TheVariants as flows
use Rattle.jc_plan.specs.declared.branch.Branch.{Branch}
use Rattle.jc_plan.specs.declared.branch.Way.{Way}
use Rattle.jc_plan.specs.declared.branch.Way.TheVariants as ways
use Rattle.jc_plan.specs.Plan.{lead_probe}
use Rattle.jc_plan.specs.Probed.{probe_of}
use Rattle.jc_emit.specs.Marks.{TwinPlaces, Marks, HasInsn, IsProbe, image_place, land_place, lead_place, prelude_size}
use Rattle.jc_emit.specs.Sizes.{TwinForm, insn_at, early_by, late_by, early_probe, late_probe, probe_size, hop_size, arm_sizes, arms_at, is_wide, wide_size, behind_size}
use Rattle.jc_emit.specs.TwinCode.{arm_place, to_of, arm, probe_place_by, probe_place, probe_owner_by, probe_owner, HasGotoBehind, HasTest, HasArm, HasArms, ProbedEdge, InProbe, IsHop, IsWideGoto, IsAdded, Sentences, IsTwinCode}
use Rattle.jc_emit.specs.TwinTables.{AreMovedTables, moved_row, moved_line, moved_var}
use Rattle.jc_instrument.proofs.SameAnalysisLaws.{same_lead}
use Rattle.jc_instrument.proofs.SameItemsLaws.{same_probe}

module _ (b : Body) (fs gs : List FrameAt) (first : ℕ) where
  abbrev pub one : Body
  one = record b { frames = fs }

  abbrev pub other : Body
  other = record b { frames = gs }

  -- ---- the probes of branches

  probes_same : probe_of one first ≡ probe_of other first
  probes_same = λ k x. (same_probe one first x ∙ sym (same_probe other first x)) k

  probe_same : (x : Branch) → probe_of one first x ≡ probe_of other first x
  probe_same x = same_probe one first x ∙ sym (same_probe other first x)

  early_same : (i : ℕ) → early_probe one first i ≡ early_probe other first i
  early_same i = ap (λ (f : Branch → Option ℕ). early_by f i (insn_at b.code i) (flow_of (insn_at b.code i))) probes_same

  pub late_same : (i : ℕ) → late_probe one first i ≡ late_probe other first i
  late_same i = ap (λ (f : Branch → Option ℕ). late_by f i (insn_at b.code i) (flow_of (insn_at b.code i))) probes_same

  lead_same : (i : ℕ) → lead_probe one first i ≡ lead_probe other first i
  lead_same i = same_lead one first i ∙ sym (same_lead other first i)

  pub land_place_same : (own : List Bool) → land_place one first own ≡ land_place other first own
  land_place_same own = λ k i. image_place own i - probe_size (early_same i k)

  pub lead_place_same : (own : List Bool) → lead_place one first own ≡ lead_place other first own
  lead_place_same own = λ k i. land_place_same own k i - probe_size (lead_same i k)

  behind_same : (form : TwinForm) (i : ℕ) → behind_size one first form i ≡ behind_size other first form i
  behind_same form i = λ k. wide_size b form i + hop_size (late_same i k) + arm_sizes (probes_same k) (arms_at b.code i)

  -- ---- the sentences

  module _ (form : TwinForm) (named : TwinPlaces) (code : List Insn) (m : Marks) (image land lead : ℕ → ℕ) where
    arm_same : (i : ℕ) → arm one first form named code m image land lead i ≡ arm other first form named code m image land lead i
    arm_same i = λ k to. arm_place (probes_same k) land (image i + 1) (arms_at b.code i) to

    place_by_same : (way : Way) (flow : Flow) (i : ℕ)
        → probe_place_by one first form named code m image land lead way flow i ≡ probe_place_by other first form named code m image land lead way flow i
    place_by_same (ways.Falls to) flow i = refl
    place_by_same ways.Exits flow i = refl
    place_by_same (ways.Switches to) flow i = ap (λ (f : ℕ → ℕ). f to) (arm_same i)
    place_by_same x y i = refl

    place_same : (x : Branch) → probe_place one first form named code m image land lead x ≡ probe_place other first form named code m image land lead x
    place_same x = place_by_same x.way (flow_of (insn_at b.code x.at)) x.at

    owner_by_same : (way : Way) (flow : Flow) (i : ℕ)
        → probe_owner_by one first form named code m image land lead way flow i ≡ probe_owner_by other first form named code m image land lead way flow i
    owner_by_same (ways.Falls to) flow i = refl
    owner_by_same ways.Exits flow i = refl
    owner_by_same (ways.Switches to) flow i = refl
    owner_by_same (ways.Jumps to) flows.Jumps i = refl
    owner_by_same (ways.Jumps to) flows.GoesOn i = refl
    owner_by_same (ways.Jumps to) flows.Branches i = refl
    owner_by_same (ways.Jumps to) flows.Switches i = refl
    owner_by_same (ways.Jumps to) flows.Returns i = refl
    owner_by_same (ways.Jumps to) flows.Throws i = refl

    owner_same : (x : Branch) → probe_owner one first form named code m image land lead x ≡ probe_owner other first form named code m image land lead x
    owner_same x = owner_by_same x.way (flow_of (insn_at b.code x.at)) x.at

    goto_there : (way : Way) (flow : Flow) → HasGotoBehind one first form named code m image land lead way flow → HasGotoBehind other first form named code m image land lead way flow
    goto_there (ways.Falls to) flow h = h
    goto_there ways.Exits flow h = h
    goto_there (ways.Switches to) flow h = h
    goto_there (ways.Jumps to) flows.Branches h = h
    goto_there (ways.Jumps to) flows.Jumps h = h
    goto_there (ways.Jumps to) flows.GoesOn h = h
    goto_there (ways.Jumps to) flows.Switches h = h
    goto_there (ways.Jumps to) flows.Returns h = h
    goto_there (ways.Jumps to) flows.Throws h = h

    abbrev edge_there : ProbedEdge one first form named code m image land lead → ProbedEdge other first form named code m image land lead
    edge_there e = record { branch = e.branch; listed = e.listed; id = e.id; probed = sym (probe_same e.branch) ∙ e.probed }

    abbrev edge_back : ProbedEdge other first form named code m image land lead → ProbedEdge one first form named code m image land lead
    edge_back e = record { branch = e.branch; listed = e.listed; id = e.id; probed = probe_same e.branch ∙ e.probed }

    in_probe_there : (q : ℕ) → InProbe one first form named code m image land lead q → InProbe other first form named code m image land lead q
    in_probe_there q h = record {
      edge = edge_there h.edge;
      step = h.step;
      four = h.four;
      place = h.place ∙ ap (λ n. n + h.step) (place_same h.edge.branch);
    }

    hop_there : (q : ℕ) → IsHop one first form named code m image land lead q → IsHop other first form named code m image land lead q
    hop_there q h = record {
      edge = edge_there h.edge;
      with_goto = goto_there h.edge.branch.way (flow_of (insn_at b.code h.edge.branch.at)) h.with_goto;
      place = h.place ∙ ap (λ n. n + 4) (place_same h.edge.branch);
    }

    wide_there : (q : ℕ) → IsWideGoto one first form named code m image land lead q → IsWideGoto other first form named code m image land lead q
    wide_there q h = record { test = h.test; layout = h.layout; tests = h.tests; place = h.place }

    added_there : (q : ℕ) → IsAdded one first form named code m image land lead q → IsAdded other first form named code m image land lead q
    added_there q (inl h) = inl (in_probe_there q h)
    added_there q (inr (inl h)) = inr (inl (hop_there q h))
    added_there q (inr (inr h)) = inr (inr (wide_there q h))

    test_there : (t : Bool) (i : ℕ) (insn : Insn) (on : ℕ) → HasTest one first form named code m image land lead t i insn on → HasTest other first form named code m image land lead t i insn on
    test_there false i insn on h = h
    test_there true i insn on h = h

    arm_at_there : (here to : ℕ) (o : Option ℕ) → HasArm one first form named code m image land lead here to o → HasArm other first form named code m image land lead here to o
    arm_at_there here to None h = h
    arm_at_there here to (Some id) h = h

    arms_there : (xs : List Branch) (here : ℕ) → HasArms one first form named code m image land lead here xs → HasArms other first form named code m image land lead here xs
    arms_there [] here h = h
    arms_there (x ∷ xs) here h = (
      subst (HasArm other first form named code m image land lead here (to_of x)) (probe_same x) (arm_at_there here (to_of x) (probe_of one first x) h.0),
      subst (λ (o : Option ℕ). HasArms other first form named code m image land lead (here + hop_size o) xs) (probe_same x)
          (arms_there xs (here + hop_size (probe_of one first x)) h.1),
    )

    sentences_there : Sentences one first form named code m image land lead → Sentences other first form named code m image land lead
    sentences_there s = record {
      lengths = record { at_length = s.lengths.at_length; own_length = s.lengths.own_length; extra_length = s.lengths.extra_length };
      prelude = record { first_insns = s.prelude.first_insns };
      images = record { single = s.images.single; plain = s.images.plain; returns = s.images.returns; throws = s.images.throws };
      nothing_else = record {
        probes = λ e. by_place e (s.nothing_else.probes (edge_back e));
        others = λ q less. by_cases q (s.nothing_else.others q less);
      };
      places = record {
        early = λ i id less e. s.places.early i id less (early_same i ∙ e);
        leads = λ i id less e. s.places.leads i id less (lead_same i ∙ e);
        first_place = s.places.first_place;
        next_place = λ i less. s.places.next_place i less ∙ ap (λ n. image i + 1 + n) (behind_same form i);
      };
      jumps = record {
        gotos = s.jumps.gotos;
        tests = λ i flows none. test_there (is_wide form i) i _ _ (s.jumps.tests i flows (late_same i ∙ none));
        inverses = λ i id flows e. test_there (is_wide form i) i _ _ (s.jumps.inverses i id flows (late_same i ∙ e));
        probes = λ i id flows e. s.jumps.probes i id flows (late_same i ∙ e);
        hops = λ i id flows e. s.jumps.hops i id flows (late_same i ∙ e);
      };
      switches = record {
        images = λ i flows. by_arm i (s.switches.images i flows);
        arms = λ i flows. arms_there (arms_at b.code i) (image i + 1) (s.switches.arms i flows);
      };
    }
      where
        by_place : (e : ProbedEdge other first form named code m image land lead)
            → IsProbe code m named.integer b.arg_slots (probe_place one first form named code m image land lead e.branch) e.id (probe_owner one first form named code m image land lead e.branch)
            → IsProbe code m named.integer b.arg_slots (probe_place other first form named code m image land lead e.branch) e.id (probe_owner other first form named code m image land lead e.branch)
        by_place e h =
            subst (λ (q : ℕ). IsProbe code m named.integer b.arg_slots q e.id (probe_owner other first form named code m image land lead e.branch)) (place_same e.branch)
            (subst (λ (at : ℕ). IsProbe code m named.integer b.arg_slots (probe_place one first form named code m image land lead e.branch) e.id at) (owner_same e.branch) h)

        by_arm : (i : ℕ) → HasInsn code m (image i) (with_places (arm one first form named code m image land lead i) (insn_at b.code i)) i true 0
            → HasInsn code m (image i) (with_places (arm other first form named code m image land lead i) (insn_at b.code i)) i true 0
        by_arm i h = subst (λ (f : ℕ → ℕ). HasInsn code m (image i) (with_places f (insn_at b.code i)) i true 0) (arm_same i) h

        by_cases : (q : ℕ) → (q < prelude_size form.fetch) ⊎ ((slice_get m.own q ≡ Some true) ⊎ IsAdded one first form named code m image land lead q)
            → (q < prelude_size form.fetch) ⊎ ((slice_get m.own q ≡ Some true) ⊎ IsAdded other first form named code m image land lead q)
        by_cases q (inl prelude) = inl prelude
        by_cases q (inr (inl own)) = inr (inl own)
        by_cases q (inr (inr added)) = inr (inr (added_there q added))

  -- ---- the whole

  pub code_there : (form : TwinForm) (named : TwinPlaces) (code : List Insn) (m : Marks) → IsTwinCode one first form named code m → IsTwinCode other first form named code m
  code_there form named code m s =
      subst (λ (land : ℕ → ℕ). Sentences other first form named code m (image_place m.own) land (lead_place other first m.own)) (land_place_same m.own)
      (subst (λ (lead : ℕ → ℕ). Sentences other first form named code m (image_place m.own) (land_place one first m.own) lead) (lead_place_same m.own)
      (sentences_there form named code m (image_place m.own) (land_place one first m.own) (lead_place one first m.own) s))

  pub tables_there : (own : List Bool) (handlers : List Handler) (lines : List LineAt) (vars kind_vars : List VarAt)
      → AreMovedTables one (lead_place one first own) (land_place one first own) handlers lines vars kind_vars
      → AreMovedTables other (lead_place other first own) (land_place other first own) handlers lines vars kind_vars
  tables_there own handlers lines vars kind_vars t = record {
    handlers_are = t.handlers_are ∙ ap₂ (λ (lead land : ℕ → ℕ). map (moved_row lead land) b.handlers) (lead_place_same own) (land_place_same own);
    lines_are = t.lines_are ∙ ap (λ (land : ℕ → ℕ). map (moved_line land) b.lines) (land_place_same own);
    vars_are = t.vars_are ∙ ap (λ (land : ℕ → ℕ). map (moved_var b.arg_slots land) b.vars) (land_place_same own);
    kind_vars_are = t.kind_vars_are ∙ ap (λ (land : ℕ → ℕ). map (moved_var b.arg_slots land) b.kind_vars) (land_place_same own);
  }
