-- Each instruction of a twin has states before and after it, and what comes after fits where it goes on.
use Rattle.std.proofs.Common.{◌≡◌, ◌⊎◌, inl, inr, ⊎_elim, ℕ, suc, ◌+◌, ◌<◌, ◌≤◌, Bool, true, false, List, [], ◌∷◌, ◌++◌, length, Option, Some, None, refl, sym, ap, ◌∙◌, subst, arith, add-one, nat_eq, if◌then◌else◌}
use Rattle.std.specs.Prelude.{slice_get, Contains}
use Rattle.std.proofs.lemmas.Bool.{cases_lt, eqb-true}
use Rattle.jc_bytes.specs.FirstSeen.{first_seen}
use Rattle.jc_methods.specs.Flow.{flow_of, targets_of, FallsThrough, jump_target}
use Rattle.jc_methods.specs.Insn.{with_places, IsWellFormed}
use Rattle.jc_methods.specs.Widened.{goto, inverted as inverse_jump}
use Rattle.jc_methods.specs.declared.insn.Insn.{Insn}
use Rattle.jc_methods.specs.declared.insn.Flow.{Flow}
use Rattle.jc_methods.specs.declared.kind.State.{State}
use Rattle.jc_methods.specs.declared.body.Body.{Body}
use Rattle.jc_methods.specs.VerificationTypes.{Names, TypeState, type_state, slots}
use Rattle.jc_kinds_after.specs.Table.{table, forms_at}
use Rattle.jc_kinds_after.specs.After.{insn_at, ground_of, returns_of, after_of}
use Rattle.jc_kinds.specs.States.{frames_of, frame_at, state_of}
use Rattle.jc_kinds.specs.Checked.{JumpsTo, HasFrame}
use Rattle.jc_kinds_after.specs.Shift.{with_slot, shifted}
use Rattle.jc_kinds_after.proofs.ApplyLaws.{after_is}
use Rattle.jc_bytes.proofs.BooleanLaws.{which_in, none_in, first_in, later_in, of_map}
use Rattle.jc_plan.specs.declared.branch.Branch.{Branch}
use Rattle.jc_plan.specs.Edges.{branches_by}
use Rattle.jc_plan.specs.Probed.{probe_of}
use Rattle.jc_plan.specs.Plan.{lead_probe}
use Rattle.jc_bytes.proofs.FirstSeenLaws.{first_seen_listed}
use Rattle.jc_bytes.proofs.ListLaws.{each_in}
use Rattle.jc_emit.specs.Marks.{TwinPlaces}
use Rattle.jc_kinds.specs.Flows.{EachBy, ThereBy}
use Rattle.jc_emit.proofs.FlowLaws.{each_same, state_same, state_shift, fit_there}
use Rattle.jc_emit.proofs.PlacedLaws.{flow_push_by, no_fall_goto, never, only, inverse_targets, placed_targets, no_targets, goto_stops, switch_stops}
use Rattle.jc_methods.proofs.PlacedInsnLaws.{targets_placed}
use Rattle.jc_emit.proofs.StateLaws.{slots-renamed}
use Rattle.jc_emit.specs.Sizes.{TwinForm, is_wide, early_probe, late_probe, arms_at, hop_size, arm_sizes, wide_by}
use Rattle.jc_emit.specs.TwinCode.{to_of, here_or, arm_place}
use Rattle.jc_emit.specs.TwinFrames.{state_at, left_by, state_behind}
use Rattle.jc_emit.specs.Items.{Item, image, probe_array, probe_id, probe_one, probe_store, hop, insn_of, probe, hop_part, arm_parts, test_part, tests_part, lead_of, land_of, image_of, image_part, twin_items}
use Rattle.jc_emit.proofs.PiecesLaws.{HasAt, has_front, has_back, Each, each_append}
use Rattle.jc_emit.proofs.BuiltLaws.{size_is, size_switches, length-hop}
use Rattle.jc_emit.proofs.OthersLaws.{Arms, Agrees, agrees_first, agrees_rest, arms_by_list, arm_listed, tests_target}
use Rattle.jc_emit.proofs.InverseLaws.{inverse_tests_too, twice_inverse}
use Rattle.jc_emit.proofs.LocalLaws.{test_is, placed_target, inverted_target, next_within}
use Rattle.jc_emit.proofs.StepLaws.{moves_nothing}
use Rattle.jc_emit.proofs.ConditionalBranchLaws.{left_is}
use Rattle.jc_emit.proofs.TwinPremisesLaws.{Premises, stands, code_long, asked_frame, asked_has, frame_asked, old_at, leads_grow}
use Rattle.jc_emit.proofs.TwinPlacesLaws.{no_frame, narrow, tests_size, asked_piece, arms_switch, arms_are}
use Rattle.jc_emit.proofs.TwinStatesLaws.{frame_state_is, next_state, after_b, A, image_after, A_low, S_long, goes, next_is, probe_runs, with_array, with_id, with_one}
use Rattle.jc_emit.proofs.TwinLeadsLaws.{slot_flow, placed_flow, framed, fits_branch, landing_frame, stopped_frame, inverse_frame, wide_frame, all_led, all_landed, all_imaged}
use Rattle.jc_methods.specs.declared.insn.Insn.TheVariants as insns
use Rattle.jc_methods.specs.declared.insn.Flow.TheVariants as flows
use Rattle.jc_emit.specs.Sizes as sizes

module _ (names new_names : Names) (states : List State) (first : ℕ) (form : TwinForm) (named : TwinPlaces) (b b' : Body) (p : Premises names new_names states first form named b b') where
  abbrev v : ℕ
  v = b.arg_slots

  abbrev items : List Item
  items = twin_items b first form

  abbrev q_of : ℕ → ℕ
  q_of i = image_of b first form i

  abbrev land : ℕ → ℕ
  land i = land_of b first form i

  abbrev lead : ℕ → ℕ
  lead i = lead_of b first form i

  abbrev old : ℕ → Insn
  old i = sizes.insn_at b.code i

  abbrev moved : TypeState → TypeState
  moved s = shifted (image_of b first form) b.arg_slots s

  abbrev S : ℕ → TypeState
  S i = type_state names (state_at states i)

  abbrev N : ℕ → Option TypeState
  N q = state_of new_names b' q

  abbrev F : ℕ → Option TypeState
  F q = frame_at (frames_of new_names b') q

  abbrev After : (i : ℕ) → i < length b.code → TypeState
  After i lt = A names new_names states first form named b b' p i lt

  -- ---- what is shown of each place

  pub record Sound (q : ℕ) : Type 0 where
    pub insn : Insn
    pub stands : insn_at b' q ≡ Some insn
    pub before : TypeState
    pub state_is : N q ≡ Some before
    pub after : TypeState
    pub after_is : after_of b' q before ≡ Some after
    pub next : FallsThrough insn → ThereBy p.passes (Some after) (N (q + 1))
    pub stops : (FallsThrough insn → ⊥) → q + 1 < length b'.code → HasFrame b' (q + 1)
    pub jumps : (r : ℕ) → Contains (targets_of insn) r → HasFrame b' r × ThereBy p.passes (Some after) (N r)

  -- the local variables there fit those before the instruction to whose part it belongs
  abbrev pub Near : ℕ → TypeState → Type 0
  Near i s = EachBy p.passes s.locals (moved (S i)).locals

  -- the state before an item: that before the instruction, at its image, and for the rest one with what a probe has pushed
  abbrev pub IsStateOf : Item → TypeState → Type 0
  IsStateOf (image insn i early) s = s ≡ moved (S i)
  IsStateOf (probe_id id at late) s = (X : TypeState) × (s ≡ with_array names new_names states first form named b b' p X)
  IsStateOf (probe_one id at late) s = (X : TypeState) × (s ≡ with_id names new_names states first form named b b' p X)
  IsStateOf (probe_store id at late) s = (X : TypeState) × (s ≡ with_one names new_names states first form named b b' p X)
  IsStateOf x s = (X : TypeState) × (s ≡ moved X)

  abbrev pub Fine : ℕ → ℕ → Item → Type 0
  Fine i q x = (w : Sound q) × Near i w.before × IsStateOf x w.before

  pub same_fits : (o : Option TypeState) (s : TypeState) → o ≡ Some s → ThereBy p.passes (Some s) o
  same_fits o s e = fit_there p.passes o s s e (state_same p.flow s)

  -- one that goes on
  going : (i q : ℕ) (x : Item) (s t : TypeState) → slice_get items q ≡ Some x → flow_of (insn_of named v x) ≡ flows.GoesOn → N q ≡ Some s
      → after_of b' q s ≡ Some t → ThereBy p.passes (Some t) (N (q + 1)) → Near i s → IsStateOf x s → Fine i q x
  going i q x s t here flow before after next near is = (
    record {
      insn = insn_of named v x;
      stands = stands names new_names states first form named b b' p q x here;
      before = s;
      state_is = before;
      after = t;
      after_is = after;
      next = λ falls. next;
      stops = λ halts. absurd (halts (inl flow));
      jumps = λ r c. absurd (none_in r (subst (λ l. Contains l r) (no_targets (insn_of named v x) (inl flow)) c));
    },
    near,
    is,
  )

  pub probe_fine : (i q id at : ℕ) (late : Bool) (X : TypeState) → HasAt items q (probe id at late) → N q ≡ Some (moved X)
      → slots X.stack ≤ b.max_stack → v ≤ length X.locals → Near i (moved X)
      → ThereBy p.passes (Some (moved X)) (N (q + 1 + 1 + 1 + 1)) → Each (Fine i) q (probe id at late)
  probe_fine i q id at late X h before low long near last =
      let r = probe_runs names new_names states first form named b b' p q id at late X h before low long in
      let X1 = with_array names new_names states first form named b b' p X in
      let X2 = with_id names new_names states first form named b b' p X in
      let X3 = with_one names new_names states first form named b b' p X in (
        going i q (probe_array id at late) (moved X) X1 h.0 refl before r.after0 (same_fits (N (q + 1)) X1 r.state1) near (X, refl),
        (
          going i (q + 1) (probe_id id at late) X1 X2 h.1.0 (flow_push_by named.integer id) r.state1 r.after1 (same_fits (N (q + 1 + 1)) X2 r.state2) near (X, refl),
          (
            going i (q + 1 + 1) (probe_one id at late) X2 X3 h.1.1.0 refl r.state2 r.after2 (same_fits (N (q + 1 + 1 + 1)) X3 r.state3) near (X, refl),
            (going i (q + 1 + 1 + 1) (probe_store id at late) X3 (moved X) h.1.1.1.0 refl r.state3 r.after3 last near (X, refl), tt),
          ),
        ),
      )

  -- a goto that is no image
  goto_after : (q to at : ℕ) (due : Option ℕ) (X : TypeState) → slice_get items q ≡ Some (hop to at due) → slots X.stack ≤ b.max_stack
      → after_of b' q (moved X) ≡ Some (moved X)
  unfolding forms_at table
  goto_after q to at due X here low =
      let most = p.max_stack in let same = slots-renamed (image_of b first form) X.stack in
      goes names new_names states first form named b b' p q (hop to at due) (moved X) (moved X) here
      (moves_nothing (ground_of b' q) (moved X).locals (moved X).stack (omega (arith, most, same, low)))

  hop_fine : (i q to at : ℕ) (due : Option ℕ) (X : TypeState) → slice_get items q ≡ Some (hop to at due) → N q ≡ Some (moved X)
      → slots X.stack ≤ b.max_stack → Near i (moved X)
      → HasFrame b' to × ThereBy p.passes (Some (moved X)) (N to) → (q + 1 < length b'.code → HasFrame b' (q + 1)) → Fine i q (hop to at due)
  hop_fine i q to at due X here before low near there stop = (
    record {
      insn = goto to;
      stands = stands names new_names states first form named b b' p q (hop to at due) here;
      before = moved X;
      state_is = before;
      after = moved X;
      after_is = goto_after q to at due X here low;
      next = λ falls. absurd (no_fall_goto to falls);
      stops = λ halts lt. stop lt;
      jumps = λ r c. ⊎_elim (λ same. subst (λ k. HasFrame b' k × ThereBy p.passes (Some (moved X)) (N k)) same there) (λ more. absurd (none_in r more)) (which_in to ([]) r c);
    },
    near,
    (X, refl),
  )

  -- a probe and the goto behind it
  hop_part_fine : (i q id to : ℕ) (X : TypeState) → HasAt items q (hop_part (land_of b first form) (Some id) to) → N q ≡ Some (moved X)
      → slots X.stack ≤ b.max_stack → v ≤ length X.locals → Near i (moved X)
      → HasFrame b' (land to) × ThereBy p.passes (Some (moved X)) (N (land to)) → (q + 5 < length b'.code → HasFrame b' (q + 5))
      → Each (Fine i) q (hop_part (land_of b first form) (Some id) to)
  hop_part_fine i q id to X h before low long near there stop =
      let front = has_front items q (probe id to true) (hop (land to) to None ∷ []) h in
      let r = probe_runs names new_names states first form named b b' p q id to true X front before low long in
      let here = h.1.1.1.1.0 in
      let none = no_frame names new_names states first form named b b' p (q + 1 + 1 + 1 + 1) (hop (land to) to None) here (λ l. l.3) in
      let at_hop = next_is names new_names states first form named b b' p (q + 1 + 1 + 1) (probe_store id to true)
      (with_one names new_names states first form named b b' p X) (moved X) h.1.1.1.0 refl none r.state3 r.after3 in
      let five : q + 5 ≡ q + 1 + 1 + 1 + 1 + 1 = omega arith in
      let four : q + 1 + 1 + 1 + 1 ≡ q + 4 = omega arith in
      each_append (Fine i) q (probe id to true) (hop (land to) to None ∷ [])
      (probe_fine i q id to true X front before low long near (same_fits (N (q + 1 + 1 + 1 + 1)) (moved X) at_hop)) (
        subst (λ k. Fine i k (hop (land to) to None)) four
            (hop_fine i (q + 1 + 1 + 1 + 1) (land to) to None X here at_hop low near there (subst (λ k. k < length b'.code → HasFrame b' k) five stop)),
        tt,
      )

  -- ---- where the instruction goes on

  target_jump : (i t : ℕ) (lt : i < length b.code) → Contains (targets_of (old i)) t
      → HasFrame b' (land t) × ThereBy p.passes (Some (moved (After i lt))) (N (land t))
  target_jump i t lt c =
      let within = each_in (λ to. to < length b.code) (targets_of (old i)) t (p.well.code.places i (insns.Simple 0) lt) c in
      let jumps : JumpsTo b i t = record { insn = old i; stands = old_at names new_names states first form named b b' p i lt; target = c } in
      let frame = framed names new_names states first form named b b' p t within (inl (i, jumps)) in
      let a = landing_frame names new_names states first form named b b' p t frame in (
        asked_has names new_names states first form named b b' p (land t) a.0 a.1,
        fit_there p.passes (N (land t)) (moved (After i lt)) (moved (S t)) (all_landed names new_names states first form named b b' p t within)
            (state_shift p.flow (image_of b first form) v (After i lt) (S t) (fits_branch names new_names states first form named b b' p i t lt within (inr jumps))),
      )

  within_next : (i : ℕ) → i < length b.code → FallsThrough (old i) → suc i < length b.code
  within_next i lt falls = let w = next_within b first form p.well.code i lt falls in omega (arith, w)

  lead_target : (i : ℕ) (lt : i < length b.code) → FallsThrough (old i) → ThereBy p.passes (Some (moved (After i lt))) (N (lead (suc i)))
  lead_target i lt falls =
      let l = all_led names new_names states first form named b b' p (suc i) (within_next i lt falls) in
      fit_there p.passes (N (lead (suc i))) (moved (After i lt)) (moved l.before) l.state_is (state_shift p.flow (image_of b first form) v (After i lt) l.before (l.into i lt refl falls))

  within_code : (i : ℕ) → lead (suc i) < length b'.code → suc i < length b.code
  within_code i short =
      let long = code_long names new_names states first form named b b' p in
      ⊎_elim (λ lt. lt)
      (λ ge. let g = leads_grow names new_names states first form named b b' p (length b.code) (suc i) ge in absurd (omega (arith, g, short, long)))
      (cases_lt (suc i) (length b.code))

  stopped : (i : ℕ) (lt : i < length b.code) → (FallsThrough (old i) → ⊥) → lead (suc i) < length b'.code → HasFrame b' (lead (suc i))
  stopped i lt halts short =
      let a = stopped_frame names new_names states first form named b b' p i lt (within_code i short) halts in
      asked_has names new_names states first form named b b' p (lead (suc i)) a.0 a.1

  -- ---- the state that a conditional jump or a switch leaves

  left : (i : ℕ) (lt : i < length b.code) → (flow_of (old i) ≡ flows.Branches) ⊎ (flow_of (old i) ≡ flows.Switches)
      → After i lt ≡ type_state names (left_by (old i) (state_at states i))
  left i lt e =
      left_is names (ground_of b i) b.uses (returns_of b) (old i) (state_at states i) (After i lt) (p.well.code.well_formed i (insns.Simple 0) lt) e
      (sym (after_is b i (S i) (old i) (old_at names new_names states first form named b b' p i lt)) ∙ (after_b names new_names states first form named b b' p i lt).1)

  left_near : (i : ℕ) (lt : i < length b.code) → (flow_of (old i) ≡ flows.Branches) ⊎ (flow_of (old i) ≡ flows.Switches)
      → Near i (moved (After i lt))
  left_near i lt e = subst (λ s. Near i (moved s)) (sym (left i lt e)) (each_same p.flow (moved (S i)).locals)

  left_long : (i : ℕ) (lt : i < length b.code) → (flow_of (old i) ≡ flows.Branches) ⊎ (flow_of (old i) ≡ flows.Switches)
      → v ≤ length (After i lt).locals
  left_long i lt e = subst (λ s. v ≤ length s.locals) (sym (left i lt e)) (S_long names new_names states first form named b b' p i lt)

  -- ---- images

  -- one that leads to a list of places
  leading : (i : ℕ) (lt : i < length b.code) (new : Insn) (early : Option ℕ) → slice_get items (q_of i) ≡ Some (image new i early)
      → (FallsThrough new → ThereBy p.passes (Some (moved (After i lt))) (N (q_of i + 1)))
      → ((FallsThrough new → ⊥) → q_of i + 1 < length b'.code → HasFrame b' (q_of i + 1))
      → ((r : ℕ) → Contains (targets_of new) r → HasFrame b' r × ThereBy p.passes (Some (moved (After i lt))) (N r))
      → Fine i (q_of i) (image new i early)
  leading i lt new early here next stop jumps = (
    record {
      insn = new;
      stands = stands names new_names states first form named b b' p (q_of i) (image new i early) here;
      before = moved (S i);
      state_is = all_imaged names new_names states first form named b b' p i lt;
      after = moved (After i lt);
      after_is = image_after names new_names states first form named b b' p i lt;
      next = next;
      stops = stop;
      jumps = jumps;
    },
    each_same p.flow (moved (S i)).locals,
    refl,
  )

  -- ---- conditional jumps

  -- a conditional jump that leads elsewhere, and falls through
  testing : (i : ℕ) (lt : i < length b.code) (new : Insn) (to : ℕ) → slice_get items (q_of i) ≡ Some (image new i None)
      → flow_of new ≡ flows.Branches → targets_of new ≡ to ∷ []
      → ThereBy p.passes (Some (moved (After i lt))) (N (q_of i + 1)) → HasFrame b' to × ThereBy p.passes (Some (moved (After i lt))) (N to)
      → Fine i (q_of i) (image new i None)
  testing i lt new to here flow one next there =
      leading i lt new None here (λ falls. next) (λ halts. absurd (halts (inr flow)))
      (λ r c. only to r (λ k. HasFrame b' k × ThereBy p.passes (Some (moved (After i lt))) (N k)) there (subst (λ l. Contains l r) one c))

  inverse_flow : (i x : ℕ) → i < length b.code → flow_of (old i) ≡ flows.Branches → flow_of (inverse_jump x (old i)) ≡ flows.Branches
  inverse_flow i x lt e =
      let j = test_is (old i) e in
      let good = subst IsWellFormed j.is (p.well.code.well_formed i (insns.Simple 0) lt) in
      subst (λ o. flow_of (inverse_jump x o) ≡ flows.Branches) (sym j.is) (inverse_tests_too j.op j.to x good (subst (λ o. flow_of o ≡ flows.Branches) j.is e))

  -- the image is a conditional jump, so control falls to the place behind it
  behind_image : (i : ℕ) (lt : i < length b.code) (new : Insn) → slice_get items (q_of i) ≡ Some (image new i None)
      → flow_of new ≡ flows.Branches → F (q_of i + 1) ≡ None → N (q_of i + 1) ≡ Some (moved (After i lt))
  behind_image i lt new here flow none =
      let up = add-one (q_of i) in
      ap N up
      ∙ next_state new_names b' (q_of i) new (moved (S i)) (moved (After i lt)) (ap F (sym up) ∙ none)
      (stands names new_names states first form named b b' p (q_of i) (image new i None) here) (inr flow)
      (all_imaged names new_names states first form named b b' p i lt) (image_after names new_names states first form named b b' p i lt)

  -- no frame stands behind a conditional jump that isn't wide
  none_behind : (i : ℕ) → flow_of (old i) ≡ flows.Branches → is_wide form i ≡ false → q_of i + 1 < lead (suc i) → F (q_of i + 1) ≡ None
  none_behind i e w high = by (F (q_of i + 1)) refl
    where
      by : (o : Option TypeState) → F (q_of i + 1) ≡ o → o ≡ None
      by None h = refl
      by (Some t) h =
          let a = frame_asked names new_names states first form named b b' p (q_of i + 1) t h in
          ⊎_elim (λ front. let le = front.0 in absurd (omega (arith, le)))
          (λ back. ⊎_elim (λ s. absurd (no_switch (sym e ∙ s))) (λ x. absurd (differ (sym w ∙ x))) back.1)
          (asked_piece names new_names states first form named b b' p i (q_of i + 1) a.0 (omega arith) high a.1)
        where
          no_switch : flows.Branches ≡ flows.Switches → ⊥
          no_switch x = cc

          differ : false ≡ true → ⊥
          differ x = cc

  to_target : (i : ℕ) (lt : i < length b.code) → flow_of (old i) ≡ flows.Branches
      → HasFrame b' (land (jump_target (old i))) × ThereBy p.passes (Some (moved (After i lt))) (N (land (jump_target (old i))))
  to_target i lt e =
      target_jump i (jump_target (old i)) lt (subst (λ l. Contains l (jump_target (old i))) (sym (tests_target (old i) e)) (first_in (jump_target (old i)) ([])))

  to_next : (i id : ℕ) (lt : i < length b.code) → flow_of (old i) ≡ flows.Branches → late_probe b first i ≡ Some id
      → HasFrame b' (lead (suc i)) × ThereBy p.passes (Some (moved (After i lt))) (N (lead (suc i)))
  to_next i id lt e some = (
    asked_has names new_names states first form named b b' p (lead (suc i)) (state_at states (suc i)) (inverse_frame names new_names states first form named b b' p i id lt some),
    lead_target i lt (inr e),
  )

  -- behind the goto of a wide conditional jump
  to_behind : (i : ℕ) (lt : i < length b.code) → flow_of (old i) ≡ flows.Branches → is_wide form i ≡ true → HasFrame b' (q_of i + 2)
  to_behind i lt e w =
      asked_has names new_names states first form named b b' p (q_of i + 2) (state_behind b states i (late_probe b first i)) (wide_frame names new_names states first form named b b' p i lt e w)

  state_left : (i id : ℕ) (lt : i < length b.code) → flow_of (old i) ≡ flows.Branches → is_wide form i ≡ true → late_probe b first i ≡ Some id
      → N (q_of i + 2) ≡ Some (moved (After i lt))
  state_left i id lt e w some =
      frame_state_is new_names b' (q_of i + 2) (moved (type_state names (state_behind b states i (late_probe b first i))))
      (asked_frame names new_names states first form named b b' p (q_of i + 2) (state_behind b states i (late_probe b first i)) (wide_frame names new_names states first form named b b' p i lt e w))
      ∙ ap (λ o. Some (moved (type_state names (state_behind b states i o)))) some
      ∙ ap (λ s. Some (moved s)) (sym (left i lt (inl e)))

  plain_fine : (w : Bool) (i : ℕ) (lt : i < length b.code) → is_wide form i ≡ w → (e : flow_of (old i) ≡ flows.Branches) → late_probe b first i ≡ None
      → HasAt items (q_of i) (test_part w (q_of i) (with_places (land_of b first form) (old i)) i (jump_target (old i)) None)
      → Each (Fine i) (q_of i) (test_part w (q_of i) (with_places (land_of b first form) (old i)) i (jump_target (old i)) None)
  plain_fine false i lt w e none h =
      let size = tests_size names new_names states first form named b b' p i None e none in
      let one = ap (wide_by flows.Branches) w in
      let place : lead (suc i) ≡ q_of i + 1 = omega (arith, size, one) in (
        testing i lt (with_places (land_of b first form) (old i)) (land (jump_target (old i))) h.0 (placed_flow (old i) (land_of b first form) e) (placed_targets (old i) (land_of b first form) e)
            (subst (λ k. ThereBy p.passes (Some (moved (After i lt))) (N k)) place (lead_target i lt (inr e))) (to_target i lt e),
        tt,
      )
  plain_fine true i lt w e none h =
      let size = tests_size names new_names states first form named b b' p i None e none in
      let one = ap (wide_by flows.Branches) w in
      let place : lead (suc i) ≡ q_of i + 2 = omega (arith, size, one) in
      let new = inverse_jump (q_of i + 2) (with_places (land_of b first form) (old i)) in
      let placed = placed_flow (old i) (land_of b first form) e in
      let j = test_is (old i) e in
      let flow : flow_of new ≡ flows.Branches =
      subst (λ o. flow_of (inverse_jump (q_of i + 2) (with_places (land_of b first form) o)) ≡ flows.Branches) (sym j.is)
      (subst (λ o. flow_of (inverse_jump (q_of i + 2) o) ≡ flows.Branches) j.is (inverse_flow i (q_of i + 2) lt e)) in
      let to = jump_target (with_places (land_of b first form) (old i)) in
      let to_is : to ≡ land (jump_target (old i)) = placed_target (old i) (land_of b first form) e in
      let hop_here = h.1.0 in
      let none_here = no_frame names new_names states first form named b b' p (q_of i + 1) (hop to (jump_target (old i)) None) hop_here (λ l. l.3) in
      let at_hop = behind_image i lt new h.0 flow none_here in
      let two : q_of i + 1 + 1 ≡ q_of i + 2 = omega arith in (
        testing i lt new (q_of i + 2) h.0 flow (inverse_targets (with_places (land_of b first form) (old i)) (q_of i + 2) placed) (same_fits (N (q_of i + 1)) (moved (After i lt)) at_hop)
            (to_behind i lt e w, subst (λ k. ThereBy p.passes (Some (moved (After i lt))) (N k)) place (lead_target i lt (inr e))),
        (
          hop_fine i (q_of i + 1) to (jump_target (old i)) None (After i lt) hop_here at_hop (A_low names new_names states first form named b b' p i lt) (left_near i lt (inl e))
              (subst (λ k. HasFrame b' k × ThereBy p.passes (Some (moved (After i lt))) (N k)) (sym to_is) (to_target i lt e)) (λ short. subst (HasFrame b') (sym two) (to_behind i lt e w)),
          tt,
        ),
      )

  probed_fine : (w : Bool) (i id : ℕ) (lt : i < length b.code) → is_wide form i ≡ w → (e : flow_of (old i) ≡ flows.Branches)
      → late_probe b first i ≡ Some id
      → HasAt items (q_of i) (test_part w (q_of i) (inverse_jump (lead (i + 1)) (old i)) i (i + 1) (lead_probe b first (i + 1)) ++ hop_part (land_of b first form) (Some id) (jump_target (old i)))
      → Each (Fine i) (q_of i) (test_part w (q_of i) (inverse_jump (lead (i + 1)) (old i)) i (i + 1) (lead_probe b first (i + 1)) ++ hop_part (land_of b first form) (Some id) (jump_target (old i)))
  probed_fine false i id lt w e some h =
      let size = tests_size names new_names states first form named b b' p i (Some id) e some in
      let one = ap (wide_by flows.Branches) w in
      let up : lead (suc i) ≡ lead (i + 1) = ap lead (sym (add-one i)) in
      let new = inverse_jump (lead (i + 1)) (old i) in
      let flow = inverse_flow i (lead (i + 1)) lt e in
      let at_probe = behind_image i lt new h.0 flow (none_behind i e w (omega (arith, size, one))) in
      let end : lead (suc i) ≡ q_of i + 1 + 5 = omega (arith, size, one) in
      let next = to_next i id lt e some in (
        testing i lt new (lead (i + 1)) h.0 flow (inverse_targets (old i) (lead (i + 1)) e) (same_fits (N (q_of i + 1)) (moved (After i lt)) at_probe)
            (subst (λ k. HasFrame b' k × ThereBy p.passes (Some (moved (After i lt))) (N k)) up next),
        hop_part_fine i (q_of i + 1) id (jump_target (old i)) (After i lt) h.1 at_probe (A_low names new_names states first form named b b' p i lt)
            (left_long i lt (inl e)) (left_near i lt (inl e)) (to_target i lt e)
            (λ short. subst (HasFrame b') end next.0),
      )
  probed_fine true i id lt w e some h =
      let size = tests_size names new_names states first form named b b' p i (Some id) e some in
      let one = ap (wide_by flows.Branches) w in
      let up : lead (suc i) ≡ lead (i + 1) = ap lead (sym (add-one i)) in
      let inner = inverse_jump (lead (i + 1)) (old i) in
      let new = inverse_jump (q_of i + 2) inner in
      let inner_flow = inverse_flow i (lead (i + 1)) lt e in
      let j = test_is (old i) e in
      let good = subst IsWellFormed j.is (p.well.code.well_formed i (insns.Simple 0) lt) in
      let old_flow : flow_of (insns.Jump j.op j.to) ≡ flows.Branches = subst (λ o. flow_of o ≡ flows.Branches) j.is e in
      let back : new ≡ insns.Jump j.op (q_of i + 2) = ap (λ o. inverse_jump (q_of i + 2) (inverse_jump (lead (i + 1)) o)) j.is
      ∙ ap (λ op. insns.Jump op (q_of i + 2)) (twice_inverse j.op j.to good old_flow) in
      let flow : flow_of new ≡ flows.Branches = ap flow_of back ∙ old_flow in
      let to = jump_target inner in
      let to_is : to ≡ lead (i + 1) = inverted_target (old i) (lead (i + 1)) e in
      let hop_here = h.1.0 in
      let none_here = no_frame names new_names states first form named b b' p (q_of i + 1) (hop to (i + 1) (lead_probe b first (i + 1))) hop_here (λ l. l.3) in
      let at_hop = behind_image i lt new h.0 flow none_here in
      let two : q_of i + 2 ≡ q_of i + 1 + 1 = omega arith in
      let end : lead (suc i) ≡ q_of i + 1 + 1 + 5 = omega (arith, size, one) in
      let next = to_next i id lt e some in
      let at_probe = ap N (sym two) ∙ state_left i id lt e w some in (
        testing i lt new (q_of i + 2) h.0 flow (inverse_targets inner (q_of i + 2) inner_flow) (same_fits (N (q_of i + 1)) (moved (After i lt)) at_hop)
            (to_behind i lt e w, same_fits (N (q_of i + 2)) (moved (After i lt)) (state_left i id lt e w some)),
        (
          hop_fine i (q_of i + 1) to (i + 1) (lead_probe b first (i + 1)) (After i lt) hop_here at_hop (A_low names new_names states first form named b b' p i lt) (left_near i lt (inl e))
              (subst (λ k. HasFrame b' k × ThereBy p.passes (Some (moved (After i lt))) (N k)) (up ∙ sym to_is) next) (λ short. subst (HasFrame b') two (to_behind i lt e w)),
          hop_part_fine i (q_of i + 1 + 1) id (jump_target (old i)) (After i lt) h.1.1 at_probe
              (A_low names new_names states first form named b b' p i lt) (left_long i lt (inl e)) (left_near i lt (inl e)) (to_target i lt e)
              (λ short. subst (HasFrame b') end next.0),
        ),
      )

  tests_fine : (i : ℕ) (lt : i < length b.code) → flow_of (old i) ≡ flows.Branches → (o : Option ℕ) → late_probe b first i ≡ o
      → HasAt items (q_of i) (tests_part b first form i (old i) o) → Each (Fine i) (q_of i) (tests_part b first form i (old i) o)
  tests_fine i lt e None none h = plain_fine (is_wide form i) i lt refl e none h
  tests_fine i lt e (Some id) some h = probed_fine (is_wide form i) i id lt refl e some h

  -- ---- switches

  abbrev whole : ℕ → ℕ → ℕ
  whole i to = arm_place (probe_of b first) (land_of b first form) (q_of i + 1) (arms_at b.code i) to

  arm_asked : (i : ℕ) (lt : i < length b.code) (x : Branch) (id : ℕ) → Contains (arms_at b.code i) x → probe_of b first x ≡ Some id
      → HasFrame b' (whole i (to_of x)) × (N (whole i (to_of x)) ≡ Some (moved (After i lt)))
  arm_asked i lt x id c some =
      let s = left_by (old i) (state_at states i) in
      let a = narrow names new_names states first form named b b' p (whole i (to_of x)) s
      (inr (inr (record { switch = i; branch = x; id = id; within = lt; listed = c; probed = some; place = refl; state_is = refl }))) in (
        asked_has names new_names states first form named b b' p (whole i (to_of x)) s a,
        frame_state_is new_names b' (whole i (to_of x)) (moved (type_state names s)) (asked_frame names new_names states first form named b b' p (whole i (to_of x)) s a)
            ∙ ap (λ t. Some (moved t)) (sym (left i lt (inr (arms_switch names new_names states first form named b b' p i x c)))),
      )

  -- where a switch leads for a target: to where jumps to it land, or to the arm place of a probed branch
  arm_case : (here t : ℕ) (xs : List Branch)
      → (arm_place (probe_of b first) (land_of b first form) here xs t ≡ land t) ⊎ ((x : Branch) × (id : ℕ) × Contains xs x × (probe_of b first x ≡ Some id) × (to_of x ≡ t))
  arm_case here t [] = inl refl
  arm_case here t (x ∷ xs) = by (arm_case (here + hop_size (probe_of b first x)) t xs) (nat_eq (to_of x) t) refl (probe_of b first x) refl
    where
      by : (arm_place (probe_of b first) (land_of b first form) (here + hop_size (probe_of b first x)) xs t ≡ land t)
          ⊎ ((y : Branch) × (id : ℕ) × Contains xs y × (probe_of b first y ≡ Some id) × (to_of y ≡ t))
          → (c : Bool) → nat_eq (to_of x) t ≡ c → (o : Option ℕ) → probe_of b first x ≡ o
          → ((if c then here_or (probe_of b first x) here (land t) else arm_place (probe_of b first) (land_of b first form) (here + hop_size (probe_of b first x)) xs t) ≡ land t)
          ⊎ ((y : Branch) × (id : ℕ) × Contains (x ∷ xs) y × (probe_of b first y ≡ Some id) × (to_of y ≡ t))
      by more true e None none = inl (ap (λ o. here_or o here (land t)) none)
      by more true e (Some id) some = inr (x, id, first_in x xs, some, eqb-true (to_of x) t e)
      by more false e o is = ⊎_elim (λ l. inl l) (λ m. inr (m.0, m.1, later_in x xs m.0 m.2, m.3, m.4)) more

  switch_target : (i t : ℕ) (lt : i < length b.code) → Contains (targets_of (old i)) t
      → HasFrame b' (whole i t) × ThereBy p.passes (Some (moved (After i lt))) (N (whole i t))
  switch_target i t lt c =
      ⊎_elim (λ e. subst (λ k. HasFrame b' k × ThereBy p.passes (Some (moved (After i lt))) (N k)) (sym e) (target_jump i t lt c))
      (λ m.
      let a = arm_asked i lt m.0 m.1 m.2 m.3 in
      subst (λ k. HasFrame b' (whole i k) × ThereBy p.passes (Some (moved (After i lt))) (N (whole i k))) m.4 (a.0, same_fits (N (whole i (to_of m.0))) (moved (After i lt)) a.1))
      (arm_case (q_of i + 1) t (arms_at b.code i))

  -- a frame stands where the arms, or what is left of them, begin
  arms_frame : (i : ℕ) (lt : i < length b.code) → flow_of (old i) ≡ flows.Switches → (here : ℕ) (xs : List Branch) → Arms i xs
      → Agrees (probe_of b first) (land_of b first form) (whole i) here xs
      → ((y : Branch) → Contains xs y → Contains (arms_at b.code i) y) → here + arm_sizes (probe_of b first) xs ≡ lead (suc i)
      → here < length b'.code → HasFrame b' here
  arms_frame i lt e here [] arms a listed end short =
      let place : here ≡ lead (suc i) = omega (arith, end) in
      subst (HasFrame b') (sym place) (stopped i lt (never (old i) flows.Switches e (λ x. cc) (λ x. cc)) (subst (λ k. k < length b'.code) place short))
  arms_frame i lt e here (x ∷ xs) arms a listed end short =
      by (λ at. arms_frame i lt e (here + hop_size (probe_of b first x)) xs arms.3
      (agrees_rest (probe_of b first) (land_of b first form) (whole i) here x xs arms.0 a) (λ y d. listed y (later_in x xs y d)) (omega (arith, end)) at)
      (probe_of b first x) refl
    where
      by : (here + hop_size (probe_of b first x) < length b'.code → HasFrame b' (here + hop_size (probe_of b first x))) → (o : Option ℕ)
          → probe_of b first x ≡ o → HasFrame b' here
      by more None none =
          let size = ap hop_size none in
          let place : here + hop_size (probe_of b first x) ≡ here = omega (arith, size) in
          subst (HasFrame b') place (more (subst (λ k. k < length b'.code) (sym place) short))
      by more (Some id) some =
          subst (HasFrame b') (agrees_first (probe_of b first) (land_of b first form) (whole i) here id x xs a some) (arm_asked i lt x id (listed x (first_in x xs)) some).0

  -- an arm leads to a target of the switch
  arm_target : (i : ℕ) (x : Branch) → flow_of (old i) ≡ flows.Switches → Contains (arms_at b.code i) x
      → Contains (targets_of (old i)) (to_of x)
  arm_target i x e c =
      first_seen_listed (targets_of (old i)) (to_of x)
      (arm_listed i 0 (first_seen (targets_of (old i))) x
      (subst (λ f. Contains (branches_by f i (targets_of (old i))) x) e (subst (λ l. Contains l x) (arms_are names new_names states first form named b b' p i e) c)))

  arms_fine : (i : ℕ) (lt : i < length b.code) → flow_of (old i) ≡ flows.Switches → (here : ℕ) (xs : List Branch) → Arms i xs
      → Agrees (probe_of b first) (land_of b first form) (whole i) here xs
      → ((y : Branch) → Contains xs y → Contains (arms_at b.code i) y) → here + arm_sizes (probe_of b first) xs ≡ lead (suc i)
      → HasAt items here (arm_parts (land_of b first form) (probe_of b first) xs)
      → Each (Fine i) here (arm_parts (land_of b first form) (probe_of b first) xs)
  arms_fine i lt e here [] arms a listed end h = tt
  arms_fine i lt e here (x ∷ xs) arms a listed end h =
      let o = hop_part (land_of b first form) (probe_of b first x) (to_of x) in
      let long = length-hop (land_of b first form) (probe_of b first x) (to_of x) in
      let rest = agrees_rest (probe_of b first) (land_of b first form) (whole i) here x xs arms.0 a in
      let later : (y : Branch) → Contains xs y → Contains (arms_at b.code i) y = λ y d. listed y (later_in x xs y d) in
      let end' : here + hop_size (probe_of b first x) + arm_sizes (probe_of b first) xs ≡ lead (suc i) = omega (arith, end) in
      each_append (Fine i) here o (arm_parts (land_of b first form) (probe_of b first) xs)
      (part (λ at. arms_frame i lt e (here + hop_size (probe_of b first x)) xs arms.3 rest later end' at) (probe_of b first x) refl (has_front items here o _ h))
      (subst (λ k. Each (Fine i) (here + k) (arm_parts (land_of b first form) (probe_of b first) xs)) (sym long)
      (arms_fine i lt e (here + hop_size (probe_of b first x)) xs arms.3 rest later end'
      (subst (λ k. HasAt items (here + k) (arm_parts (land_of b first form) (probe_of b first) xs)) long (has_back items here o _ h))))
    where
      part : (here + hop_size (probe_of b first x) < length b'.code → HasFrame b' (here + hop_size (probe_of b first x))) → (o : Option ℕ)
          → probe_of b first x ≡ o → HasAt items here (hop_part (land_of b first form) o (to_of x))
          → Each (Fine i) here (hop_part (land_of b first form) o (to_of x))
      part stop None none h = tt
      part stop (Some id) some h =
          let c = listed x (first_in x xs) in
          let asked = arm_asked i lt x id c some in
          let at_arm = ap N (sym (agrees_first (probe_of b first) (land_of b first form) (whole i) here id x xs a some)) ∙ asked.1 in
          let size = ap hop_size some in
          let five : here + hop_size (probe_of b first x) ≡ here + 5 = omega (arith, size) in
          hop_part_fine i here id (to_of x) (After i lt) h at_arm (A_low names new_names states first form named b b' p i lt) (left_long i lt (inr e))
          (left_near i lt (inr e)) (target_jump i (to_of x) lt (arm_target i x e c))
          (subst (λ k. k < length b'.code → HasFrame b' k) five stop)

  -- ---- all images

  alone : (i : ℕ) (lt : i < length b.code) (flow : Flow) → flow_of (old i) ≡ flow → (flow ≡ flows.GoesOn → ⊥) → (flow ≡ flows.Branches → ⊥)
      → q_of i + 1 ≡ lead (suc i) → q_of i + 1 < length b'.code → HasFrame b' (q_of i + 1)
  alone i lt flow e f g place short =
      subst (HasFrame b') (sym place) (stopped i lt (never (old i) flow e f g) (subst (λ k. k < length b'.code) place short))

  exit_fine : (i : ℕ) (lt : i < length b.code) (flow : Flow) → flow_of (old i) ≡ flow → ((flow ≡ flows.Returns) ⊎ (flow ≡ flows.Throws))
      → (flow ≡ flows.GoesOn → ⊥) → (flow ≡ flows.Branches → ⊥) → q_of i + 1 ≡ lead (suc i)
      → slice_get items (q_of i) ≡ Some (image (old i) i (early_probe b first i))
      → Fine i (q_of i) (image (old i) i (early_probe b first i))
  exit_fine i lt flow e which f g place here =
      leading i lt (old i) (early_probe b first i) here (λ falls. absurd (never (old i) flow e f g falls)) (λ halts short. alone i lt flow e f g place short)
      (λ r c. absurd (none_in r (subst (λ l. Contains l r) (no_targets (old i) (inr (⊎_elim (λ x. inl (e ∙ x)) (λ x. inr (e ∙ x)) which))) c)))

  pub main_fine : (i : ℕ) (flow : Flow) (lt : i < length b.code) → flow_of (old i) ≡ flow
      → HasAt items (q_of i) (image_part b first form i (old i) flow) → Each (Fine i) (q_of i) (image_part b first form i (old i) flow)
  main_fine i flows.GoesOn lt e h =
      let size = size_is b first form i flows.GoesOn e in
      let place : lead (suc i) ≡ q_of i + 1 = omega (arith, size) in
      let flow = slot_flow v (old i) e in (
        leading i lt (with_slot v (old i)) None h.0 (λ falls. subst (λ k. ThereBy p.passes (Some (moved (After i lt))) (N k)) place (lead_target i lt (inl e))) (λ halts. absurd (halts (inl flow)))
            (λ r c. absurd (none_in r (subst (λ l. Contains l r) (no_targets (with_slot v (old i)) (inl flow)) c))),
        tt,
      )
  main_fine i flows.Branches lt e h = tests_fine i lt e (late_probe b first i) refl h
  main_fine i flows.Jumps lt e h =
      let size = size_is b first form i flows.Jumps e in
      let new = with_places (land_of b first form) (old i) in
      let stops : FallsThrough new → ⊥ = goto_stops (old i) (land_of b first form) e in (
        leading i lt new (early_probe b first i) h.0 (λ falls. absurd (stops falls)) (λ halts short. alone i lt flows.Jumps e (λ x. cc) (λ x. cc) (omega (arith, size)) short)
            (λ r c.
            let m = of_map (land_of b first form) (targets_of (old i)) r (subst (λ l. Contains l r) (targets_placed (land_of b first form) (old i)) c) in
            subst (λ k. HasFrame b' k × ThereBy p.passes (Some (moved (After i lt))) (N k)) (sym m.2) (target_jump i m.0 lt m.1)),
        tt,
      )
  main_fine i flows.Switches lt e h =
      let size = size_switches b first form i e in
      let new = with_places (whole i) (old i) in
      let stops : FallsThrough new → ⊥ = switch_stops (old i) (whole i) e in
      let end : q_of i + 1 + arm_sizes (probe_of b first) (arms_at b.code i) ≡ lead (suc i) = omega (arith, size) in (
        leading i lt new None h.0 (λ falls. absurd (stops falls))
            (λ halts short. arms_frame i lt e (q_of i + 1) (arms_at b.code i) (arms_by_list b i) (λ y d. refl) (λ y d. d) end short)
            (λ r c.
            let m = of_map (whole i) (targets_of (old i)) r (subst (λ l. Contains l r) (targets_placed (whole i) (old i)) c) in
            subst (λ k. HasFrame b' k × ThereBy p.passes (Some (moved (After i lt))) (N k)) (sym m.2) (switch_target i m.0 lt m.1)),
        arms_fine i lt e (q_of i + 1) (arms_at b.code i) (arms_by_list b i) (λ y d. refl) (λ y d. d) end h.1,
      )
  main_fine i flows.Returns lt e h =
      let size = size_is b first form i flows.Returns e in (exit_fine i lt flows.Returns e (inl refl) (λ x. cc) (λ x. cc) (omega (arith, size)) h.0, tt)
  main_fine i flows.Throws lt e h =
      let size = size_is b first form i flows.Throws e in (exit_fine i lt flows.Throws e (inr refl) (λ x. cc) (λ x. cc) (omega (arith, size)) h.0, tt)
