-- Where the twin lands with the image of an instruction, by the branch that the instruction takes.
use Rattle.std.proofs.Common.{◌≡◌, ◌⊎◌, inl, inr, ℕ, ◌+◌, Bool, true, false, not, List, Option, Some, None, nat_eq, refl, sym, ap, ◌∙◌, subst, if◌then◌else◌}
use Rattle.std.specs.Prelude.{slice_get, Contains}
use Rattle.std.proofs.lemmas.Option.{none-some, same_Some}
use Rattle.jc_methods.specs.Opcode as opcode
use Rattle.jc_methods.specs.Flow.{flow_of, jump_target, inverse_of}
use Rattle.jc_methods.specs.Insn.{IsWellFormed, with_places}
use Rattle.jc_methods.proofs.ByFlowLaws.{insn_by}
use Rattle.jc_methods.proofs.SlotsLaws.{flow_slots}
use Rattle.jc_methods.specs.declared.insn.Insn.{Insn}
use Rattle.jc_methods.specs.declared.insn.Insn.TheVariants as insns
use Rattle.jc_methods.specs.declared.insn.Flow.{Flow}
use Rattle.jc_methods.specs.declared.insn.Flow.TheVariants as flows
use Rattle.jc_plan.specs.declared.branch.Branch.{Branch}
use Rattle.jc_plan.specs.Edges.{sequence, jump, branches_of}
use Rattle.jc_plan.specs.Chosen.{Outcome, one_way, condition, key, chosen_by, chosen, onward_by, onward}
use Rattle.jc_plan.proofs.ChosenLaws.{chosen_listed, chosen_leads}
use Rattle.jc_plan.proofs.OneWayLaws.{standing}
use Rattle.jc_emit.specs.Items.{Item}
use Rattle.jc_emit.specs.Local.{Stands, due_of, early_of, moved_insn, TestsAlike, TestsInversely, JumpsAlike, OkImage}
use Rattle.jc_emit.specs.Sizes.{early_by}
use Rattle.jc_emit.specs.TwinCode.{to_of}
use Rattle.jc_emit.proofs.ConditionalBranchLaws.{test_op}
use Rattle.jc_machine_model.specs.Values.{Value}
use Rattle.jc_machine_model.specs.Jumps.{Tested, test_of}
use Rattle.jc_machine_model.specs.Taken.{outcome_of_test, outcome_of_key, outcome_of}
use Rattle.jc_twin_simulation.specs.Sides.{Side}
use Rattle.jc_twin_simulation.proofs.TestLaws.{negated, inverse_tests, inverse_no_goto}
use Rattle.jc_twin_simulation.proofs.ArmLaws.{index_arm, match_arm}
use Rattle.jc_twin_exact.proofs.TurnedLaws.{next_onward, test_onward, goto_onward}

-- ---- the image of an instruction that goes on

moved_flow : (slot : Option ℕ) (insn : Insn) → flow_of (moved_insn slot insn) ≡ flow_of insn
moved_flow None insn = refl
moved_flow (Some v) insn = flow_slots _ insn

-- ---- branches by flow

goes_chosen : (i : ℕ) (insn : Insn) (o : Outcome) (x : Branch) → chosen_by flows.GoesOn i insn o ≡ Some x → sequence i ≡ x
goes_chosen i insn one_way x e = same_Some (sequence i) x e
goes_chosen i insn (condition b) x e = absurd (none-some x e)
goes_chosen i insn (key k) x e = absurd (none-some x e)

jumps_chosen : (i : ℕ) (insn : Insn) (o : Outcome) (x : Branch) → chosen_by flows.Jumps i insn o ≡ Some x → jump i (jump_target insn) ≡ x
jumps_chosen i insn one_way x e = same_Some (jump i (jump_target insn)) x e
jumps_chosen i insn (condition b) x e = absurd (none-some x e)
jumps_chosen i insn (key k) x e = absurd (none-some x e)

module _ (t : Side) (q i : ℕ) where
  -- The item at q2: nothing was hit early for what comes next, and the probe of the branch is due or was hit early.
  pub record Onto (x : Branch) (early : Option ℕ) (q2 : ℕ) : Type 0 where
    pub item : Item
    pub here : slice_get t.items q2 ≡ Some item
    pub no_early : early_of item ≡ None
    pub due : ((early ≡ None) × (due_of item ≡ t.ids x)) ⊎ ((due_of item ≡ None) × (early ≡ t.ids x))

  abbrev Stood : (q at : ℕ) → Option ℕ → Type 0
  Stood q at due = Stands t.body.code t.slot t.ids t.items q at due

  late_onto : (x y : Branch) (q2 q3 at : ℕ) → y ≡ x → q2 ≡ q3 → Stood q2 at (t.ids y) → Onto x None q3
  late_onto x y q2 q3 at same to s =
      record { item = s.item; here = ap (slice_get t.items) (sym to) ∙ s.here; no_early = s.no_early; due = inl (refl, s.due_is ∙ ap t.ids same) }

  -- ---- conditional jumps

  cond_onto : (x : Branch) (b : Bool) (to target q3 : ℕ) → (if b then jump i to else sequence i) ≡ x → (if b then target else q + 1) ≡ q3
      → Stood target to (t.ids (jump i to)) → Stood (q + 1) (i + 1) (t.ids (sequence i)) → Onto x None q3
  cond_onto x true to target q3 same at s u = late_onto x (jump i to) target q3 to same at s
  cond_onto x false to target q3 same at s u = late_onto x (sequence i) (q + 1) q3 (i + 1) same at u

  turned_onto : (x : Branch) (b : Bool) (to target q3 : ℕ) → (if b then jump i to else sequence i) ≡ x → (if not b then target else q + 1) ≡ q3
      → Stood target (i + 1) (t.ids (sequence i)) → Stood (q + 1) to (t.ids (jump i to)) → Onto x None q3
  turned_onto x true to target q3 same at s u = late_onto x (jump i to) (q + 1) q3 to same at u
  turned_onto x false to target q3 same at s u = late_onto x (sequence i) target q3 (i + 1) same at s

  tests_onto : (op to : ℕ) (new : Insn) → IsWellFormed (insns.Jump op to) → nat_eq op opcode.goto ≡ false → (st : List Value) (x : Branch)
      → chosen_by flows.Branches i (insns.Jump op to) (outcome_of_test (test_of op st)) ≡ Some x → (q3 : ℕ) → onward q new (outcome_of new st) ≡ Some q3
      → TestsAlike t.body.code t.slot t.ids t.items q i (insns.Jump op to) new ⊎ TestsInversely t.body.code t.slot t.ids t.items q i (insns.Jump op to) new
      → Onto x None q3
  tests_onto op to new well apart st x c q3 on h = by (test_of op st) refl c h
    where
      by : (o : Option Tested) → test_of op st ≡ o → chosen_by flows.Branches i (insns.Jump op to) (outcome_of_test o) ≡ Some x
          → TestsAlike t.body.code t.slot t.ids t.items q i (insns.Jump op to) new ⊎ TestsInversely t.body.code t.slot t.ids t.items q i (insns.Jump op to) new
          → Onto x None q3
      by None e c h = absurd (none-some x c)
      by (Some u) e c (inl h) =
          cond_onto x u.jumps to h.target q3 (same_Some _ x c)
          (same_Some _ q3 (sym (test_onward op h.target q st u apart e) ∙ ap (λ n. onward q n (outcome_of n st)) (sym h.same) ∙ on)) h.jumped.stands h.fell
      by (Some u) e c (inr h) =
          let test = test_op op to well (ap (λ b. if b then flows.Jumps else flows.Branches) apart) in
          turned_onto x u.jumps to h.target q3 (same_Some _ x c)
          (same_Some _ q3
          (sym (test_onward (inverse_of op) h.target q st (record { jumps = not u.jumps; stack = u.stack }) (inverse_no_goto op test) (inverse_tests op test st ∙ ap negated e))
          ∙ ap (λ n. onward q n (outcome_of n st)) (sym h.inverse) ∙ on)) h.jumped.stands h.fell

  -- ---- switches

  -- where the image of a switch leads with this key
  key_place : (insn : Insn) (place : ℕ → ℕ) → flow_of insn ≡ flows.Switches → (st : List Value) (q3 : ℕ)
      → onward q (with_places place insn) (outcome_of (with_places place insn) st) ≡ Some q3 → (x : Branch) → chosen i insn (outcome_of insn st) ≡ Some x
      → place (to_of x) ≡ q3
  key_place (insns.Table low d arms) place e st q3 on x c = by (outcome_of_key st) on c
    where
      by : (o : Outcome) → onward q (with_places place (insns.Table low d arms)) o ≡ Some q3 → chosen i (insns.Table low d arms) o ≡ Some x → place (to_of x) ≡ q3
      by one_way on c = absurd (none-some x c)
      by (condition b) on c = absurd (none-some x c)
      by (key k) on c =
          ap (λ y. place (to_of y)) (sym (same_Some _ x c)) ∙ sym (index_arm low d arms k place (λ to to'. to' ≡ place to) (λ to h. refl)) ∙ same_Some _ q3 on
  key_place (insns.Lookup d arms) place e st q3 on x c = by (outcome_of_key st) on c
    where
      by : (o : Outcome) → onward q (with_places place (insns.Lookup d arms)) o ≡ Some q3 → chosen i (insns.Lookup d arms) o ≡ Some x → place (to_of x) ≡ q3
      by one_way on c = absurd (none-some x c)
      by (condition b) on c = absurd (none-some x c)
      by (key k) on c =
          ap (λ y. place (to_of y)) (sym (same_Some _ x c)) ∙ sym (match_arm d arms k place (λ to to'. to' ≡ place to) (λ to h. refl)) ∙ same_Some _ q3 on
  key_place insn place e st q3 on x c = absurd (insn_by insn e)

  -- ---- all images

  module _ (insn new : Insn) (here : slice_get t.body.code i ≡ Some insn) (well : IsWellFormed insn) (st : List Value) (x : Branch)
      (chosen_is : chosen i insn (outcome_of insn st) ≡ Some x) (q3 : ℕ) (on : onward q new (outcome_of new st) ≡ Some q3) where
    abbrev IsOk : Flow → Type 0
    IsOk flow = OkImage t.body.code t.slot t.ids t.items q i insn new flow

    branches_onto : (insn : Insn) → IsWellFormed insn → flow_of insn ≡ flows.Branches → chosen i insn (outcome_of insn st) ≡ Some x
        → OkImage t.body.code t.slot t.ids t.items q i insn new flows.Branches → Onto x None q3
    branches_onto (insns.Jump op to) well e c ok = by (nat_eq op opcode.goto) refl e c
      where
        by : (b : Bool) → nat_eq op opcode.goto ≡ b → (if b then flows.Jumps else flows.Branches) ≡ flows.Branches
            → chosen_by (if b then flows.Jumps else flows.Branches) i (insns.Jump op to) (if b then one_way else outcome_of_test (test_of op st)) ≡ Some x
            → Onto x None q3
        by true g e c = cc
        by false g e c = tests_onto op to new well g st x c q3 on ok
    branches_onto insn well e c ok = absurd (insn_by insn e)

    jumps_onto : (insn : Insn) → flow_of insn ≡ flows.Jumps → chosen i insn (outcome_of insn st) ≡ Some x → (early : Option ℕ)
        → early ≡ t.ids (jump i (jump_target insn)) → JumpsAlike t.body.code t.slot t.ids t.items insn new → Onto x early q3
    jumps_onto (insns.Jump op to) e c early is ok = by (nat_eq op opcode.goto) refl e c
      where
        by : (b : Bool) → nat_eq op opcode.goto ≡ b → (if b then flows.Jumps else flows.Branches) ≡ flows.Jumps
            → chosen_by (if b then flows.Jumps else flows.Branches) i (insns.Jump op to) (if b then one_way else outcome_of_test (test_of op st)) ≡ Some x
            → Onto x early q3
        by false g e c = cc
        by true g e c =
            let to3 : ok.target ≡ q3 = same_Some ok.target q3 (sym (goto_onward op ok.target q st g) ∙ ap (λ n. onward q n (outcome_of n st)) (sym ok.same) ∙ on) in
            let s = ok.jumped.stands in
            record {
              item = s.item;
              here = ap (slice_get t.items) (sym to3) ∙ s.here;
              no_early = s.no_early;
              due = inr (s.due_is, is ∙ ap t.ids (same_Some (jump i to) x c));
            }
    jumps_onto insn e c early is ok = absurd (insn_by insn e)

    plain_onto : flow_of insn ≡ flows.GoesOn → IsOk flows.GoesOn → Onto x None q3
    plain_onto e ok =
        let same : sequence i ≡ x = goes_chosen i insn (outcome_of insn st) x (ap (λ w. chosen_by w i insn (outcome_of insn st)) (sym e) ∙ chosen_is) in
        let to3 : q + 1 ≡ q3 = same_Some (q + 1) q3 (sym (next_onward new q st (ap flow_of ok.0 ∙ moved_flow t.slot insn ∙ e)) ∙ on) in
        late_onto x (sequence i) (q + 1) q3 (i + 1) same to3 ok.1.stands

    switches_onto : flow_of insn ≡ flows.Switches → IsOk flows.Switches → Onto x None q3
    switches_onto e ok =
        let l = chosen_leads i insn (outcome_of insn st) x chosen_is in
        let s = standing t.body.code x (chosen_listed t.body i insn (outcome_of insn st) x here chosen_is) in
        let is : s.insn ≡ insn = same_Some s.insn insn (sym s.stands ∙ ap (slice_get t.body.code) l.0 ∙ here) in
        let among : Contains (branches_of i insn) x = subst (λ n. Contains (branches_of i n) x) is (subst (λ k. Contains (branches_of k s.insn) x) l.0 s.listed) in
        let to3 : ok.place (to_of x) ≡ q3 = key_place insn ok.place e st q3 (ap (λ n. onward q n (outcome_of n st)) (sym ok.same) ∙ on) x chosen_is in
        late_onto x x (ok.place (to_of x)) q3 (to_of x) refl to3 (ok.each x among).stands

    -- the early probe of a flow
    abbrev early_of_flow : Flow → Option ℕ
    early_of_flow flow = early_by t.ids i insn flow

    flow_onto : (flow : Flow) → flow_of insn ≡ flow → IsOk flow → Onto x (early_of_flow flow) q3
    flow_onto flows.GoesOn e ok = plain_onto e ok
    flow_onto flows.Branches e ok = branches_onto insn well e chosen_is ok
    flow_onto flows.Jumps e ok = jumps_onto insn e chosen_is (t.ids (jump i (jump_target insn))) refl ok
    flow_onto flows.Switches e ok = switches_onto e ok
    flow_onto flows.Returns e ok =
        absurd (none-some q3 (sym (ap (λ w. onward_by w q insn (outcome_of insn st)) e) ∙ ap (λ n. onward q n (outcome_of n st)) (sym ok) ∙ on))
    flow_onto flows.Throws e ok =
        absurd (none-some q3 (sym (ap (λ w. onward_by w q insn (outcome_of insn st)) e) ∙ ap (λ n. onward q n (outcome_of n st)) (sym ok) ∙ on))

    pub onto : IsOk (flow_of insn) → Onto x (early_of_flow (flow_of insn)) q3
    onto ok = flow_onto (flow_of insn) refl ok
