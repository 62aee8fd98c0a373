-- A body that passes the kind check, and its twin: what the proof that the twin passes too begins with.
use Rattle.std.proofs.Common.{◌≡◌, ⊎_elim, ℕ, suc, ◌+◌, ◌-◌, ◌<◌, ◌≤◌, Bool, true, false, List, [], ◌∷◌, ◌++◌, length, map, Option, Some, None, refl, sym, ap, ◌∙◌, subst, arith, nat_eq, if◌then◌else◌}
use Rattle.std.specs.Prelude.{slice_get, option_map, Contains}
use Rattle.std.proofs.lemmas.Bool.{cases_lt, eq-eqb, ne_eqb, eqb-true}
use Rattle.std.proofs.lemmas.List.{length-map}
use Rattle.std.proofs.lemmas.Option.{slice_get-map, slice_get-get_or, slice_get_past, slice_get_within, get_or_from_slice_get, none-some}
use Rattle.jc_methods.specs.Flow.{flow_of, inverse_of, jump_target}
use Rattle.jc_methods.specs.Insn.{with_places, IsWellFormed}
use Rattle.jc_methods.specs.InsnForm.{form_of}
use Rattle.jc_methods.specs.InsnUse.{pool_place, Suits}
use Rattle.jc_methods.specs.WellMade.{IsWellMadeOfAnySize, HasUse, what_used, AreFramesFrom}
use Rattle.jc_methods.specs.Widened.{inverted as inverse_jump}
use Rattle.jc_methods.specs.declared.insn.Insn.{Insn}
use Rattle.jc_methods.specs.declared.insn.Flow.{Flow}
use Rattle.jc_methods.specs.declared.kind.State.{State}
use Rattle.jc_methods.specs.declared.body.Body.{Body}
use Rattle.jc_methods.specs.declared.body.FrameAt.{FrameAt}
use Rattle.jc_methods.specs.declared.body.What.{What}
use Rattle.jc_methods.specs.declared.probe_members.Fetch.{Fetch}
use Rattle.jc_methods.specs.VerificationTypes.{Names, VerificationType, TypeState, type_state, type_state_at}
use Rattle.jc_kinds.specs.States.{frames_of, frame_at}
use Rattle.jc_kinds.specs.Checked.{Checked, HasFrame}
use Rattle.jc_kinds.specs.Answers.{AreStates}
use Rattle.jc_kinds.proofs.StateShiftLaws.{frame_is}
use Rattle.jc_kinds_after.specs.Shift.{with_slot, shifted, IsImage, led, inverted, HasImages}
use Rattle.jc_bytes.proofs.BooleanLaws.{which_in, none_in}
use Rattle.jc_methods.specs.FrameOrder.{RiseFrom}
use Rattle.jc_plan.specs.Probed.{probe_of, probe_count}
use Rattle.jc_plan.specs.Plan.{lead_probe}
use Rattle.jc_emit.specs.Marks.{TwinPlaces}
use Rattle.jc_emit.specs.Sizes.{TwinForm, is_wide, insn_at, early_probe, late_probe, arms_at}
use Rattle.jc_emit.specs.TwinCode.{arm_place}
use Rattle.jc_emit.specs.TwinTables.{AreMovedTables}
use Rattle.jc_emit.specs.TwinFrames.{IsFrame, AreTwinFrames}
use Rattle.jc_emit.specs.Added.{giver_of}
use Rattle.jc_emit.specs.Twin.{Twin, IsSameMethod, NamesProbes, KeepsUses}
use Rattle.jc_emit.specs.Straddling.{NoneStraddles}
use Rattle.jc_emit.specs.Items.{Item, insn_of, image, segment_size, lead_of, land_of, image_of, test_part, image_part, twin_items}
use Rattle.jc_kinds.specs.Flows.{FlowsBy, IsFlow}
use Rattle.jc_emit.proofs.FlowLaws.{kind_flow, kind_flows}
use Rattle.jc_emit.proofs.PiecesLaws.{HasAt}
use Rattle.jc_emit.proofs.BuiltLaws.{length_twin}
use Rattle.jc_emit.proofs.EndsLaws.{image_past}
use Rattle.jc_emit.proofs.RowLaws.{total_grows}
use Rattle.jc_emit.proofs.ToldLaws.{main_by, plain_test, probed_test}
use Rattle.jc_emit.proofs.KnownLaws.{code_known, images_known, lands_known, leads_known}
use Rattle.jc_emit.proofs.LocalLaws.{test_is}
use Rattle.jc_emit.proofs.InverseLaws.{twice_inverse}
use Rattle.jc_emit.proofs.ConditionalBranchLaws.{test_op}
use Rattle.jc_methods.specs.declared.form.Form.TheVariants as forms
use Rattle.jc_methods.specs.declared.insn.Insn.TheVariants as insns
use Rattle.jc_methods.specs.declared.insn.Flow.TheVariants as flows
use Rattle.jc_methods.proofs.PlacedInsnLaws.{places_same}
use Rattle.jc_methods.proofs.SlotsLaws.{no_slots}
use Rattle.jc_kinds_after.specs.After as after
use Rattle.jc_emit.specs.Marks as marks

pub record Premises (names new_names : Names) (states : List State) (first : ℕ) (form : TwinForm) (named : TwinPlaces) (b b' : Body) : Type 1 where
  pub well : IsWellMadeOfAnySize b
  pub checked : Checked names b
  -- a relation that twins keep, along which the body flows
  pub passes : VerificationType → VerificationType → Type 0
  pub flow : IsFlow passes
  pub flows : FlowsBy passes names b
  pub are : AreStates names b states
  pub free : NoneStraddles b
  pub method : IsSameMethod b b'
  pub class : List ℕ
  pub bootstrap : ℕ
  pub names_probes : NamesProbes form.fetch (giver_of form.fetch class bootstrap) first (probe_count b) b'.uses named
  pub uses : KeepsUses b b'
  pub code : b'.code ≡ map (insn_of named b.arg_slots) (twin_items b first form)
  pub tables : AreMovedTables b (lead_of b first form) (land_of b first form) b'.handlers b'.lines b'.vars b'.kind_vars
  pub frames : AreTwinFrames names new_names b.arg_slots (image_of b first form) (IsFrame b first states (image_of b first form) (land_of b first form) (lead_of b first form) form) b'.frames
  pub max_stack : b'.max_stack ≡ b.max_stack + 3
  pub max_locals : b'.max_locals ≡ b.max_locals + 1

-- with the places of the function
abbrev pub premises_by : {S : VerificationType → VerificationType → Type 0} → IsFlow S → (names new_names : Names) (states : List State) (fetch : Fetch)
    (class : List ℕ) (bootstrap first : ℕ) (b b' : Body) → IsWellMadeOfAnySize b → Checked names b → FlowsBy S names b → AreStates names b states → NoneStraddles b
    → (t : Twin names new_names states fetch (giver_of fetch class bootstrap) first b b') → Premises names new_names states first t.form t.places b b'
premises_by {S} flow names new_names states fetch class bootstrap first b b' well checked flows are free t =
    let images = images_known b first t.form t.places b'.code t.marks well.code t.code in
    let lands = lands_known b first t.form t.places b'.code t.marks well.code t.code in
    let leads = leads_known b first t.form t.places b'.code t.marks well.code t.code in
    record {
      well = well;
      checked = checked;
      passes = S;
      flow = flow;
      flows = flows;
      are = are;
      free = free;
      method = t.method;
      class = class;
      bootstrap = bootstrap;
      names_probes = subst (λ f. NamesProbes f (giver_of f class bootstrap) first (probe_count b) b'.uses t.places) (sym t.fetch_is) t.names_probes;
      uses = t.uses;
      code = code_known b first t.form t.places b'.code t.marks well.code t.code;
      tables =
          subst (λ f. AreMovedTables b f (land_of b first t.form) b'.handlers b'.lines b'.vars b'.kind_vars) leads
          (subst (λ f. AreMovedTables b (marks.lead_place b first t.marks.own) f b'.handlers b'.lines b'.vars b'.kind_vars) lands t.tables);
      frames =
          subst (λ f. AreTwinFrames names new_names b.arg_slots (image_of b first t.form) (IsFrame b first states (image_of b first t.form) (land_of b first t.form) f t.form) b'.frames) leads
          (subst (λ f. AreTwinFrames names new_names b.arg_slots (image_of b first t.form)
          (IsFrame b first states (image_of b first t.form) f (marks.lead_place b first t.marks.own) t.form) b'.frames) lands
          (subst (λ f. AreTwinFrames names new_names b.arg_slots f
          (IsFrame b first states f (marks.land_place b first t.marks.own) (marks.lead_place b first t.marks.own) t.form) b'.frames) images t.frames));
      max_stack = t.max_stack;
      max_locals = t.max_locals;
    }

-- along the relation of the kind check
abbrev pub premises : (names new_names : Names) (states : List State) (fetch : Fetch) (class : List ℕ) (bootstrap first : ℕ) (b b' : Body) → IsWellMadeOfAnySize b
    → Checked names b → AreStates names b states → NoneStraddles b
    → (t : Twin names new_names states fetch (giver_of fetch class bootstrap) first b b') → Premises names new_names states first t.form t.places b b'
premises names new_names states fetch class bootstrap first b b' well checked are free t =
    premises_by kind_flow names new_names states fetch class bootstrap first b b' well checked (kind_flows names b checked) are free t

-- ---- instructions

-- only instructions that go on have local variables
no_locals : (v : ℕ) (insn : Insn) → (flow_of insn ≡ flows.GoesOn → ⊥) → with_slot v insn ≡ insn
no_locals v insn h = no_slots _ insn h

goes_not : (insn : Insn) (flow : Flow) → flow_of insn ≡ flow → (flow ≡ flows.GoesOn → ⊥) → flow_of insn ≡ flows.GoesOn → ⊥
goes_not insn flow e h g = h (sym e ∙ g)

-- ---- frames

pub frames_rise : (first : ℕ) (code : List Insn) (locals stack : ℕ) (frames : List FrameAt) → AreFramesFrom first code locals stack frames → RiseFrom first frames
frames_rise first code locals stack [] are = tt
frames_rise first code locals stack (f ∷ frames) are = (are.0, frames_rise (f.at + 1) code locals stack frames are.3)

pub risen : (from : ℕ) (frames : List FrameAt) (f : FrameAt) → RiseFrom from frames → Contains frames f → from ≤ f.at
risen from [] f r c = absurd (none_in f c)
risen from (g ∷ frames) f r c =
    ⊎_elim (λ same. let e : g.at ≡ f.at = ap (λ (x : FrameAt). x.at) same in let le = r.0 in omega (arith, e, le))
    (λ later. let more = risen (g.at + 1) frames f r.1 later in let le = r.0 in omega (arith, more, le))
    (which_in g frames f c)

pub frame_found : (names : Names) (from : ℕ) (frames : List FrameAt) (f : FrameAt) → RiseFrom from frames → Contains frames f
    → frame_at (map (type_state_at names) frames) f.at ≡ Some (type_state names f.state)
frame_found names from [] f r c = absurd (none_in f c)
frame_found names from (g ∷ frames) f r c =
    by (λ later. frame_found names (g.at + 1) frames f r.1 later) (nat_eq g.at f.at) refl
  where
    by : (Contains frames f → frame_at (map (type_state_at names) frames) f.at ≡ Some (type_state names f.state)) → (t : Bool) → nat_eq g.at f.at ≡ t
        → (if t then Some (type_state names g.state) else frame_at (map (type_state_at names) frames) f.at) ≡ Some (type_state names f.state)
    by more true is =
        let e = eqb-true g.at f.at is in
        ⊎_elim (λ same. ap (λ (x : FrameAt). Some (type_state names x.state)) same)
        (λ later. let le = risen (g.at + 1) frames f r.1 later in absurd (omega (arith, e, le)))
        (which_in g frames f c)
    by more false is =
        more (⊎_elim (λ same. absurd (differ is (eq-eqb g.at f.at (ap (λ (x : FrameAt). x.at) same)))) (λ later. later) (which_in g frames f c))
      where
        differ : nat_eq g.at f.at ≡ false → nat_eq g.at f.at ≡ true → ⊥
        differ off on = cc

module _ (names new_names : Names) (states : List State) (first : ℕ) (form : TwinForm) (named : TwinPlaces) (b b' : Body) (p : Premises names new_names states first form named b b') where
  abbrev pub v : ℕ
  v = b.arg_slots

  abbrev pub items : List Item
  items = twin_items b first form

  abbrev pub q_of : ℕ → ℕ
  q_of i = image_of b first form i

  abbrev pub land : ℕ → ℕ
  land i = land_of b first form i

  abbrev pub lead : ℕ → ℕ
  lead i = lead_of b first form i

  abbrev pub old : ℕ → Insn
  old i = insn_at b.code i

  -- the shifted form of a state
  abbrev pub moved : TypeState → TypeState
  moved s = shifted (image_of b first form) b.arg_slots s

  -- ---- instructions of the twin

  pub stands : (q : ℕ) (x : Item) → slice_get items q ≡ Some x → after.insn_at b' q ≡ Some (insn_of named v x)
  stands q x h = ap (λ (l : List Insn). slice_get l q) p.code ∙ slice_get-map (insn_of named v) items q ∙ ap (option_map (insn_of named v)) h

  pub code_long : length b'.code ≡ lead (length b.code)
  code_long = ap (λ (l : List Insn). length l) p.code ∙ length-map items (insn_of named v) ∙ length_twin b first form

  pub old_is : (i : ℕ) (insn : Insn) → after.insn_at b i ≡ Some insn → (i < length b.code) × (old i ≡ insn)
  old_is i insn e = (slice_get_within b.code i insn e, get_or_from_slice_get b.code i insn (insns.Simple 0) e)

  pub old_at : (i : ℕ) → i < length b.code → after.insn_at b i ≡ Some (old i)
  old_at i lt = slice_get-get_or b.code i (insns.Simple 0) lt

  -- ---- places

  pub leads_grow : (i j : ℕ) → i ≤ j → lead i ≤ lead j
  leads_grow i j le = omega (arith, total_grows (segment_size b first form) i j le)

  image_below : (i j : ℕ) → i < j → q_of i < q_of j
  image_below i j lt = let g = leads_grow (suc i) j (omega arith) in omega (arith, g)

  images_apart : (i j : ℕ) → nat_eq (q_of i) (q_of j) ≡ nat_eq i j
  images_apart i j =
      ⊎_elim
      (λ lt. let below = image_below i j lt in ne_eqb (q_of i) (q_of j) (λ e. omega (arith, below, e)) ∙ sym (ne_eqb i j (λ e. omega (arith, lt, e))))
      (λ ge.
      ⊎_elim
      (λ gt. let above = image_below j i gt in ne_eqb (q_of i) (q_of j) (λ e. omega (arith, above, e)) ∙ sym (ne_eqb i j (λ e. omega (arith, gt, e))))
      (λ le. let same : i ≡ j = omega (arith, ge, le) in eq-eqb (q_of i) (q_of j) (ap q_of same) ∙ sym (eq-eqb i j same))
      (cases_lt j i))
      (cases_lt i j)

  -- ---- images

  abbrev Image : ℕ → Insn → Type 0
  Image i insn = (other : Insn) × (after.insn_at b' (q_of i) ≡ Some other) × IsImage v insn other

  plain_image : (i : ℕ) (f : ℕ → ℕ) (early : Option ℕ) → (flow_of (old i) ≡ flows.GoesOn → ⊥)
      → slice_get items (q_of i) ≡ Some (image (with_places f (old i)) i early) → Image i (old i)
  plain_image i f early h at = (with_places f (old i), stands (q_of i) _ at, led f (ap (with_places f) (sym (no_locals v (old i) h))))

  same_image : (i : ℕ) (early : Option ℕ) → (flow_of (old i) ≡ flows.GoesOn → ⊥) → slice_get items (q_of i) ≡ Some (image (old i) i early)
      → Image i (old i)
  same_image i early h at = (old i, stands (q_of i) _ at, led (λ x. x) (sym (places_same (with_slot v (old i)) ∙ no_locals v (old i) h)))

  no_test : flows.Branches ≡ flows.GoesOn → ⊥
  no_test e = cc

  -- a conditional jump, by its opcode and its target
  test_good : (i : ℕ) → i < length b.code → (e : flow_of (old i) ≡ flows.Branches)
      → (form_of (test_is (old i) e).op ≡ forms.Jump) × (flow_of (insns.Jump (test_is (old i) e).op (test_is (old i) e).to) ≡ flows.Branches)
  test_good i lt e =
      let j = test_is (old i) e in
      (subst IsWellFormed j.is (p.well.code.well_formed i (insns.Simple 0) lt), subst (λ x. flow_of x ≡ flows.Branches) j.is e)

  inverse_image : (i : ℕ) → i < length b.code → flow_of (old i) ≡ flows.Branches → (new : Insn) (to : ℕ)
      → slice_get items (q_of i) ≡ Some (image new i None)
      → ((op place : ℕ) → old i ≡ insns.Jump op place → new ≡ insns.Jump (inverse_of op) to) → Image i (old i)
  inverse_image i lt e new to at is =
      let j = test_is (old i) e in let good = test_good i lt e in
      (new, stands (q_of i) _ at, inverted j.op j.to to j.is (test_op j.op j.to good.0 good.1) (is j.op j.to j.is))

  plain_by : (w : Bool) (i : ℕ) → i < length b.code → flow_of (old i) ≡ flows.Branches
      → HasAt items (q_of i) (test_part w (q_of i) (with_places land (old i)) i (jump_target (old i)) None) → Image i (old i)
  plain_by false i lt e h = plain_image i land None (goes_not (old i) flows.Branches e no_test) h.0
  plain_by true i lt e h =
      inverse_image i lt e (inverse_jump (q_of i + 2) (with_places land (old i))) (q_of i + 2) h.0 (λ op place is. ap (λ x. inverse_jump (q_of i + 2) (with_places land x)) is)

  probed_by : (w : Bool) (i : ℕ) → i < length b.code → flow_of (old i) ≡ flows.Branches → (rest : List Item)
      → HasAt items (q_of i) (test_part w (q_of i) (inverse_jump (lead (i + 1)) (old i)) i (i + 1) (lead_probe b first (i + 1)) ++ rest)
      → Image i (old i)
  probed_by false i lt e rest h =
      inverse_image i lt e (inverse_jump (lead (i + 1)) (old i)) (lead (i + 1)) h.0 (λ op place is. ap (inverse_jump (lead (i + 1))) is)
  probed_by true i lt e rest h =
      let j = test_is (old i) e in let good = test_good i lt e in
      let new = inverse_jump (q_of i + 2) (inverse_jump (lead (i + 1)) (old i)) in
      let back : new ≡ with_places (λ (x : ℕ). q_of i + 2) (with_slot v (old i)) =
      ap (λ x. inverse_jump (q_of i + 2) (inverse_jump (lead (i + 1)) x)) j.is
      ∙ ap (λ op. insns.Jump op (q_of i + 2)) (twice_inverse j.op j.to good.0 good.1)
      ∙ sym (ap (λ x. with_places (λ (y : ℕ). q_of i + 2) (with_slot v x)) j.is) in
      (new, stands (q_of i) _ h.0, led (λ (x : ℕ). q_of i + 2) back)

  test_image : (i : ℕ) → i < length b.code → flow_of (old i) ≡ flows.Branches → (o : Option ℕ) → late_probe b first i ≡ o → Image i (old i)
  test_image i lt e None none = plain_by (is_wide form i) i lt e (plain_test b first form named i lt e none)
  test_image i lt e (Some id) some = probed_by (is_wide form i) i lt e _ (probed_test b first form named i id lt e some)

  image_is : (i : ℕ) → i < length b.code → (flow : Flow) → flow_of (old i) ≡ flow
      → HasAt items (q_of i) (image_part b first form i (old i) flow) → Image i (old i)
  image_is i lt flows.GoesOn e h = (with_slot v (old i), stands (q_of i) _ h.0, led (λ x. x) (sym (places_same (with_slot v (old i)))))
  image_is i lt flows.Branches e h = test_image i lt e (late_probe b first i) refl
  image_is i lt flows.Jumps e h = plain_image i land (early_probe b first i) (goes_not (old i) flows.Jumps e (λ x. cc)) h.0
  image_is i lt flows.Switches e h =
      plain_image i (arm_place (probe_of b first) land (q_of i + 1) (arms_at b.code i)) None (goes_not (old i) flows.Switches e (λ x. cc)) h.0
  image_is i lt flows.Returns e h = same_image i (early_probe b first i) (goes_not (old i) flows.Returns e (λ x. cc)) h.0
  image_is i lt flows.Throws e h = same_image i (early_probe b first i) (goes_not (old i) flows.Throws e (λ x. cc)) h.0

  image_past_end : (i : ℕ) → after.insn_at b i ≡ None → after.insn_at b' (q_of i) ≡ None
  image_past_end i none =
      ⊎_elim (λ lt. absurd (none-some _ (sym none ∙ old_at i lt)))
      (λ ge.
      let n = length b.code in
      let e : i ≡ n + (i - n) = omega (arith, ge) in
      let at = ap q_of e ∙ image_past b first form p.well.code (i - n) in
      let long = code_long in
      slice_get_past b'.code (q_of i) (omega (arith, at, long)))
      (cases_lt i (length b.code))

  pub same_use : (place : ℕ) (Fact : What → Type 0) → HasUse b.uses place Fact → what_used b'.uses place ≡ what_used b.uses place
  same_use place Fact h = p.uses place h.what h.used ∙ sym h.used

  same_uses : (i place : ℕ) (insn : Insn) → after.insn_at b i ≡ Some insn → pool_place insn ≡ Some place
      → what_used b'.uses place ≡ what_used b.uses place
  same_uses i place insn e at =
      let o = old_is i insn e in
      same_use place (Suits (old i)) (p.well.uses.by_insns i (insns.Simple 0) o.0 place (ap pool_place o.1 ∙ at))

  pub images : HasImages v (image_of b first form) b b'
  images = record {
    owner = p.method.owner;
    desc = p.method.desc;
    room = let more = p.max_stack in omega (arith, more);
    apart = images_apart;
    images = λ i insn e.
        let o = old_is i insn e in
        subst (Image i) o.1 (image_is i o.0 (flow_of (old i)) refl (main_by b first form named i (flow_of (old i)) o.0 refl));
    past = image_past_end;
    uses = same_uses;
  }

  -- ---- frames of the twin

  abbrev pub Asked : ℕ → State → Type 0
  Asked q s = IsFrame b first states (image_of b first form) (land_of b first form) (lead_of b first form) form q s

  pub asked_frame : (q : ℕ) (s : State) → Asked q s → frame_at (frames_of new_names b') q ≡ Some (moved (type_state names s))
  asked_frame q s a =
      let f = p.frames.every q s a in
      subst (λ k. frame_at (frames_of new_names b') k ≡ Some (moved (type_state names s))) f.2
      (frame_found new_names 0 b'.frames f.0 p.frames.rising f.1 ∙ ap Some f.3)

  pub asked_has : (q : ℕ) (s : State) → Asked q s → HasFrame b' q
  asked_has q s a = let f = p.frames.every q s a in (f.0, f.1, f.2)

  pub frame_asked : (q : ℕ) (t : TypeState) → frame_at (frames_of new_names b') q ≡ Some t
      → (s : State) × Asked q s × (t ≡ moved (type_state names s))
  frame_asked q t e =
      let f = frame_is new_names b'.frames q t e in
      let g = p.frames.each f.0 f.1 in
      (g.0, subst (λ k. Asked k g.0) f.2 g.1, sym f.3 ∙ g.2)
