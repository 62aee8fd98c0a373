-- The state where a fall-through into each instruction leads, where jumps to it land, and at its image.
use Rattle.std.proofs.Common.{◌≡◌, inl, inr, ⊎_elim, ℕ, zero, suc, ◌+◌, ◌<◌, ◌≤◌, Bool, true, false, ◌&&◌, ◌||◌, List, length, Option, Some, None, refl, sym, ap, ◌∙◌, subst, arith, add-one}
use Rattle.std.proofs.lemmas.Option.{none-some, same_Some}
use Rattle.std.specs.Prelude.{slice_get, Contains}
use Rattle.jc_methods.specs.Insn.{with_places}
use Rattle.jc_methods.specs.Flow.{flow_of, FallsThrough, jump_target, GoesOnFrom, FallsInto, goes_on, falls_at}
use Rattle.jc_methods.specs.declared.insn.Insn.{Insn}
use Rattle.jc_methods.specs.declared.insn.Flow.{Flow}
use Rattle.jc_methods.specs.declared.kind.State.{State}
use Rattle.jc_methods.specs.declared.body.Body.{Body}
use Rattle.jc_methods.specs.declared.body.FrameAt.{FrameAt}
use Rattle.jc_methods.specs.VerificationTypes.{Names, TypeState, type_state, slots}
use Rattle.jc_methods.specs.EntryState.{entry_of}
use Rattle.jc_methods.proofs.SlotsLaws.{flow_slots}
use Rattle.jc_kinds_after.specs.After.{after_of}
use Rattle.jc_kinds.specs.States.{frames_of, frame_at, state_of, after_at}
use Rattle.jc_kinds.specs.Checked.{LeadsTo, HasFrame, NeedsFrame}
use Rattle.jc_kinds.specs.Checking.{has_frame}
use Rattle.jc_kinds_after.specs.Shift.{with_slot, shifted}
use Rattle.jc_kinds.proofs.CheckLaws.{has_frame_decided}
use Rattle.jc_kinds.proofs.StateShiftLaws.{frame_is}
use Rattle.jc_plan.specs.Entries.{is_multi_target, is_invocation_line}
use Rattle.jc_plan.specs.Probed.{id_if, probes_before}
use Rattle.jc_plan.specs.Plan.{lead_probe}
use Rattle.jc_emit.specs.Sizes.{TwinForm, is_wide, early_probe, late_probe, probe_size, wide_by}
use Rattle.jc_emit.specs.Marks.{TwinPlaces, prelude_size}
use Rattle.jc_emit.specs.TwinFrames.{state_at, state_behind, IsFrame}
use Rattle.jc_emit.specs.Items.{Item, image, probe_store, insn_of, test_part, lead_part, early_part, lead_of, land_of, image_of, twin_items}
use Rattle.jc_kinds.specs.Flows.{StateBy}
use Rattle.jc_emit.proofs.FlowLaws.{each_length, state_same, there_fit}
use Rattle.jc_emit.proofs.PiecesLaws.{HasAt}
use Rattle.jc_emit.proofs.BuiltLaws.{size_is}
use Rattle.jc_emit.proofs.ToldLaws.{lead_at, early_at, main_at, main_by, plain_test}
use Rattle.jc_emit.proofs.LocalLaws.{test_is, early_image}
use Rattle.jc_emit.proofs.TwinPremisesLaws.{Premises, stands, asked_frame, frame_asked, old_at}
use Rattle.jc_emit.proofs.TwinPlacesLaws.{state_b, no_frame, narrow, behind, tests_size, asked_front}
use Rattle.jc_emit.proofs.TwinStatesLaws.{first_state, with_one, frame_state_is, next_state, after_b, A, after_at_b, image_after, S_low, A_low, S_long, next_is, probe_runs, IsBegun, begun_next, all_begun}
use Rattle.jc_methods.specs.declared.insn.Flow.TheVariants as flows
use Rattle.jc_emit.specs.Sizes as sizes

-- ---- flows of images

pub slot_flow : (v : ℕ) (insn : Insn) → flow_of insn ≡ flows.GoesOn → flow_of (with_slot v insn) ≡ flows.GoesOn
slot_flow v insn e = flow_slots _ insn ∙ e

pub placed_flow : (insn : Insn) (f : ℕ → ℕ) → flow_of insn ≡ flows.Branches → flow_of (with_places f insn) ≡ flows.Branches
placed_flow insn f e =
    let j = test_is insn e in subst (λ x. flow_of (with_places f x) ≡ flows.Branches) (sym j.is) (subst (λ x. flow_of x ≡ flows.Branches) j.is e)

module _ (names new_names : Names) (states : List State) (first : ℕ) (form : TwinForm) (named : TwinPlaces) (b b' : Body) (p : Premises names new_names states first form named b b') where
  abbrev v : ℕ
  v = b.arg_slots

  abbrev items : List Item
  items = twin_items b first form

  abbrev q_of : ℕ → ℕ
  q_of i = image_of b first form i

  abbrev land : ℕ → ℕ
  land i = land_of b first form i

  abbrev lead : ℕ → ℕ
  lead i = lead_of b first form i

  abbrev old : ℕ → Insn
  old i = sizes.insn_at b.code i

  abbrev moved : TypeState → TypeState
  moved s = shifted (image_of b first form) b.arg_slots s

  abbrev S : ℕ → TypeState
  S i = type_state names (state_at states i)

  abbrev N : ℕ → Option TypeState
  N q = state_of new_names b' q

  abbrev F : ℕ → Option TypeState
  F q = frame_at (frames_of new_names b') q

  abbrev After : (i : ℕ) → i < length b.code → TypeState
  After i lt = A names new_names states first form named b b' p i lt

  abbrev Asked : ℕ → State → Type 0
  Asked q s = IsFrame b first states (image_of b first form) (land_of b first form) (lead_of b first form) form q s

  abbrev state_of_b : (i : ℕ) → i < length b.code → state_of names b i ≡ Some (S i)
  state_of_b i lt = state_b names new_names states first form named b b' p i lt

  -- ---- the body's own checks

  -- an instruction that needs a frame has one
  pub framed : (j : ℕ) → j < length b.code → NeedsFrame b j → HasFrame b j
  framed j lt needs = by (has_frame b j) refl
    where
      by : (t : Bool) → has_frame b j ≡ t → HasFrame b j
      by true e = (has_frame_decided b j).to e
      by false e =
          absurd (p.checked.none_missing j (record { within = lt; needs = needs; none = λ h. differ (sym e ∙ (has_frame_decided b j).back h) }))
        where
          differ : false ≡ true → ⊥
          differ x = cc

  pub fits_branch : (i j : ℕ) (lt : i < length b.code) → j < length b.code → LeadsTo b i j → StateBy p.passes (After i lt) (S j)
  fits_branch i j lt within leads =
      there_fit p.passes (after_at names b i) (state_of names b j) (After i lt) (S j)
      (after_at_b names new_names states first form named b b' p i lt) (state_of_b j within) (p.flows.branches i j leads)

  falls_from : (i : ℕ) → i < length b.code → FallsThrough (old i) → GoesOnFrom b i
  falls_from i lt falls = record { insn = old i; stands = old_at names new_names states first form named b b' p i lt; falls = falls }

  -- ---- old frames of the twin

  pub old_asked : (f : FrameAt) → Contains b.frames f → Asked (land f.at) f.state
  old_asked f c =
      narrow names new_names states first form named b b' p (land f.at) f.state (inl (record { frame = f; listed = c; place = refl; state_is = refl }))

  -- where a frame of the body stands, one of the twin does
  pub landing_frame : (i : ℕ) → HasFrame b i → (s : State) × Asked (land i) s
  landing_frame i h = (h.0.state, subst (λ k. Asked (land k) h.0.state) h.2 (old_asked h.0 h.1))

  -- where none of the twin stands, none of the body does
  no_old : (i : ℕ) → F (land i) ≡ None → frame_at (frames_of names b) i ≡ None
  no_old i none = by (frame_at (frames_of names b) i) refl
    where
      by : (o : Option TypeState) → frame_at (frames_of names b) i ≡ o → o ≡ None
      by None e = refl
      by (Some t) e =
          let f = frame_is names b.frames i t e in
          let a = landing_frame i (f.0, f.1, f.2) in
          absurd (none-some _ (sym none ∙ asked_frame names new_names states first form named b b' p (land i) a.0 a.1))

  -- a frame in front of an image has the state before the instruction
  frame_front : (i q : ℕ) (t : TypeState) → lead i ≤ q → q ≤ q_of i → F q ≡ Some t → t ≡ moved (S i)
  frame_front i q t low high e =
      let a = frame_asked names new_names states first form named b b' p q t e in
      a.2 ∙ ap moved (asked_front names new_names states first form named b b' p i q a.0 low high a.1)

  -- ---- where fall-throughs lead

  pub record Led (j : ℕ) : Type 0 where
    pub before : TypeState
    pub state_is : N (lead j) ≡ Some (moved before)
    pub fits : StateBy p.passes before (S j)
    pub low : slots before.stack ≤ b.max_stack
    pub same : frame_at (frames_of names b) j ≡ None → before ≡ S j
    pub into : (i : ℕ) (lt : i < length b.code) → j ≡ suc i → FallsThrough (old i) → StateBy p.passes (After i lt) before
    pub begins : j ≡ 0 → StateBy p.passes (entry_of b) before

  pub led_long : (j : ℕ) → j < length b.code → (l : Led j) → v ≤ length l.before.locals
  led_long j lt l =
      let long = S_long names new_names states first form named b b' p j lt in
      let same = each_length p.passes l.before.locals (S j).locals l.fits.locals in
      omega (arith, long, same)

  -- by a frame
  led_by_state : (j : ℕ) → j < length b.code → N (lead j) ≡ Some (moved (S j)) → Led j
  led_by_state j lt is = record {
    before = S j;
    state_is = is;
    fits = state_same p.flow (S j);
    low = S_low names new_names states first form named b b' p j lt;
    same = λ none. refl;
    into = λ i within e falls. fits_branch i j within lt (inl (falls_from i within falls, e ∙ sym (add-one i)));
    begins = λ e.
        subst (λ k. StateBy p.passes (entry_of b) (S k)) (sym e)
        (there_fit p.passes (Some (entry_of b)) (state_of names b 0) (entry_of b) (S 0) refl (state_of_b 0 (subst (λ k. k < length b.code) e lt)) p.flows.entry);
  }

  pub led_by_frame : (j : ℕ) (s : State) → j < length b.code → Asked (lead j) s → Led j
  led_by_frame j s lt a =
      led_by_state j lt
      (frame_state_is new_names b' (lead j) (moved (type_state names s)) (asked_frame names new_names states first form named b b' p (lead j) s a)
      ∙ ap (λ t. Some (moved t)) (asked_front names new_names states first form named b b' p j (lead j) s (omega arith) (omega arith) a))

  -- by falling
  led_by_fall : (i q : ℕ) (x : Item) (lt : i < length b.code) → suc i < length b.code → FallsThrough (old i) → slice_get items q ≡ Some x
      → FallsThrough (insn_of named v x) → suc q ≡ lead (suc i)
      → (s : TypeState) → N q ≡ Some s → after_of b' q s ≡ Some (moved (After i lt)) → Led (suc i)
  led_by_fall i q x lt within falls here item_falls place s before after = by (F (lead (suc i))) refl
    where
      next : frame_at (frames_of names b) (suc i) ≡ None → After i lt ≡ S (suc i)
      next none =
          same_Some (After i lt) (S (suc i))
          (sym (next_state names b i (old i) (S i) (After i lt) none (old_at names new_names states first form named b b' p i lt) falls
          (state_of_b i lt) (after_b names new_names states first form named b b' p i lt).1)
          ∙ state_of_b (suc i) within)

      by : (o : Option TypeState) → F (lead (suc i)) ≡ o → Led (suc i)
      by (Some t) e =
          led_by_state (suc i) within
          (frame_state_is new_names b' (lead (suc i)) t e ∙ ap Some (frame_front (suc i) (lead (suc i)) t (omega arith) (omega arith) e))
      by None e = record {
        before = After i lt;
        state_is =
            ap N (sym place)
            ∙ next_state new_names b' q (insn_of named v x) s (moved (After i lt)) (ap F place ∙ e) (stands names new_names states first form named b b' p q x here) item_falls before after;
        fits = fits_branch i (suc i) lt within (inl (falls_from i lt falls, sym (add-one i)));
        low = A_low names new_names states first form named b b' p i lt;
        same = next;
        into = λ k also same again.
            subst (λ t. StateBy p.passes t (After i lt)) (after_one i k lt also (omega (arith, same))) (state_same p.flow (After i lt));
        begins = λ e. absurd (omega (arith, e));
      }
        where
          after_one : (i k : ℕ) (lt : i < length b.code) (also : k < length b.code) → i ≡ k → After i lt ≡ After k also
          after_one i k lt also e =
              same_Some (After i lt) (After k also)
              (sym (after_b names new_names states first form named b b' p i lt).1 ∙ ap (λ m. after_of b m (S m)) e ∙ (after_b names new_names states first form named b b' p k also).1)

  -- ---- where jumps land

  -- carried there, where no frame stands
  landed_by : (i : ℕ) → i < length b.code → (l : Led i) → (F (land i) ≡ None → N (land i) ≡ Some (moved l.before))
      → N (land i) ≡ Some (moved (S i))
  landed_by i lt l carried = by (F (land i)) refl
    where
      by : (o : Option TypeState) → F (land i) ≡ o → N (land i) ≡ Some (moved (S i))
      by (Some t) e = frame_state_is new_names b' (land i) t e ∙ ap Some (frame_front i (land i) t (omega arith) (omega arith) e)
      by None e = carried e ∙ ap (λ t. Some (moved t)) (l.same (no_old i e))

  pub landed : (i : ℕ) → i < length b.code → Led i → N (land i) ≡ Some (moved (S i))
  landed i lt l = by (lead_probe b first i) refl (lead_at b first form named i lt)
    where
      by : (o : Option ℕ) → lead_probe b first i ≡ o → HasAt items (lead i) (lead_part o i) → N (land i) ≡ Some (moved (S i))
      by None none h =
          let size = ap probe_size none in
          let place : lead i ≡ land i = omega (arith, size) in
          landed_by i lt l (λ e. ap N (sym place) ∙ l.state_is)
      by (Some id) some h =
          let size = ap probe_size some in
          let place : lead i + 1 + 1 + 1 + 1 ≡ land i = omega (arith, size) in
          let r = probe_runs names new_names states first form named b b' p (lead i) id i true l.before h l.state_is l.low (led_long i lt l) in
          landed_by i lt l
          (λ e. ap N (sym place)
          ∙ next_is names new_names states first form named b b' p (lead i + 1 + 1 + 1) (probe_store id i true)
          (with_one names new_names states first form named b b' p l.before) (moved l.before) h.1.1.1.0 refl (ap F place ∙ e) r.state3 r.after3)

  -- ---- images

  pub imaged : (i : ℕ) → i < length b.code → N (land i) ≡ Some (moved (S i)) → N (q_of i) ≡ Some (moved (S i))
  imaged i lt there = by (early_probe b first i) refl (early_at b first form named i lt)
    where
      by : (o : Option ℕ) → early_probe b first i ≡ o → HasAt items (land i) (early_part o i) → N (q_of i) ≡ Some (moved (S i))
      by None none h =
          let size = ap probe_size none in
          let place : land i ≡ q_of i = omega (arith, size) in
          ap N (sym place) ∙ there
      by (Some id) some h =
          let size = ap probe_size some in
          let place : land i + 1 + 1 + 1 + 1 ≡ q_of i = omega (arith, size) in
          let r = probe_runs names new_names states first form named b b' p (land i) id i false (S i) h there
          (S_low names new_names states first form named b b' p i lt) (S_long names new_names states first form named b b' p i lt) in
          let found = early_image b first form p.well.code i id (flow_of (old i)) some some (main_at b first form named i lt) in
          let none = no_frame names new_names states first form named b b' p (q_of i) (image found.0 i (Some id)) found.1 (λ l. some_none id l.2) in
          ap N (sym place)
          ∙ next_is names new_names states first form named b b' p (land i + 1 + 1 + 1) (probe_store id i false)
          (with_one names new_names states first form named b b' p (S i)) (moved (S i)) h.1.1.1.0 refl (ap F place ∙ none) r.state3 r.after3
        where
          some_none : (id : ℕ) → Some id ≡ None → ⊥
          some_none id e = cc

  -- ---- the next instruction

  -- control doesn't fall into it
  no_fall : (i : ℕ) → i < length b.code → (FallsThrough (old i) → ⊥) → FallsInto b (suc i) → ⊥
  no_fall i lt stops f =
      let up = f.1 in
      let same : f.0 ≡ i = omega (arith, up) in
      let g = subst (GoesOnFrom b) same f.2 in
      stops (subst FallsThrough (same_Some g.insn (old i) (sym g.stands ∙ old_at names new_names states first form named b b' p i lt)) g.falls)

  no_goes : (insn : Insn) (flow : Flow) → flow_of insn ≡ flow → (FallsThrough insn → ⊥) → goes_on flow ≡ false
  no_goes insn flows.GoesOn e stops = absurd (stops (inl e))
  no_goes insn flows.Branches e stops = absurd (stops (inr e))
  no_goes insn flows.Jumps e stops = refl
  no_goes insn flows.Switches e stops = refl
  no_goes insn flows.Returns e stops = refl
  no_goes insn flows.Throws e stops = refl

  no_lead : (i : ℕ) → i < length b.code → (FallsThrough (old i) → ⊥) → lead_probe b first (suc i) ≡ None
  no_lead i lt stops =
      ap (λ t. id_if (t && (is_multi_target b (suc i) || is_invocation_line b (suc i))) (first + probes_before b (record { at = suc i; number = 0 })))
      (ap falls_at (old_at names new_names states first form named b b' p i lt) ∙ no_goes (old i) (flow_of (old i)) refl stops)

  -- it has a frame, and its first place is where that stands
  pub stopped_frame : (i : ℕ) → (lt : i < length b.code) → suc i < length b.code → (FallsThrough (old i) → ⊥)
      → (s : State) × Asked (lead (suc i)) s
  stopped_frame i lt within stops =
      let h = framed (suc i) within (inr (inr (λ e. cc, no_fall i lt stops))) in
      let a = landing_frame (suc i) h in
      let size = ap probe_size (no_lead i lt stops) in
      let place : land (suc i) ≡ lead (suc i) = omega (arith, size) in
      (a.0, subst (λ k. Asked k a.0) place a.1)

  -- the target of an inverted jump
  pub inverse_frame : (i id : ℕ) → i < length b.code → late_probe b first i ≡ Some id → Asked (lead (suc i)) (state_at states (suc i))
  inverse_frame i id lt some =
      subst (λ k. Asked (lead k) (state_at states k)) (add-one i)
      (narrow names new_names states first form named b b' p (lead (i + 1)) (state_at states (i + 1))
      (inr (inl (record { test = i; id = id; within = lt; probed = some; place = refl; state_is = refl }))))

  -- behind a wide conditional jump
  pub wide_frame : (i : ℕ) → i < length b.code → flow_of (old i) ≡ flows.Branches → is_wide form i ≡ true
      → Asked (q_of i + 2) (state_behind b states i (late_probe b first i))
  wide_frame i lt e w =
      behind names new_names states first form named b b' p (q_of i + 2) (state_behind b states i (late_probe b first i)) (record { test = i; within = lt; tests = e; place = refl; state_is = refl }) w

  pub next_led : (i : ℕ) (lt : i < length b.code) → suc i < length b.code → N (q_of i) ≡ Some (moved (S i)) → Led (suc i)
  next_led i lt within there = by (flow_of (old i)) refl
    where
      on : after_of b' (q_of i) (moved (S i)) ≡ Some (moved (After i lt))
      on = image_after names new_names states first form named b b' p i lt

      stopped : (FallsThrough (old i) → ⊥) → Led (suc i)
      stopped stops = let a = stopped_frame i lt within stops in led_by_frame (suc i) a.0 within a.1

      never : (flow : Flow) → flow_of (old i) ≡ flow → (flow ≡ flows.GoesOn → ⊥) → (flow ≡ flows.Branches → ⊥) → FallsThrough (old i) → ⊥
      never flow e f g h = ⊎_elim (λ x. f (sym e ∙ x)) (λ x. g (sym e ∙ x)) h

      plain : (w : Bool) → is_wide form i ≡ w → flow_of (old i) ≡ flows.Branches → late_probe b first i ≡ None
          → HasAt items (q_of i) (test_part w (q_of i) (with_places land (old i)) i (jump_target (old i)) None) → Led (suc i)
      plain false w e none h =
          let size = tests_size names new_names states first form named b b' p i None e none in
          let one = ap (wide_by flows.Branches) w in
          let place : suc (q_of i) ≡ lead (suc i) = omega (arith, size, one) in
          led_by_fall i (q_of i) (image (with_places land (old i)) i None) lt within (inr e) h.0 (inr (placed_flow (old i) land e)) place (moved (S i)) there on
      plain true w e none h =
          let size = tests_size names new_names states first form named b b' p i None e none in
          let one = ap (wide_by flows.Branches) w in
          let place : q_of i + 2 ≡ lead (suc i) = omega (arith, size, one) in
          led_by_frame (suc i) (state_behind b states i (late_probe b first i)) within (subst (λ k. Asked k (state_behind b states i (late_probe b first i))) place (wide_frame i lt e w))

      tests : (o : Option ℕ) → late_probe b first i ≡ o → flow_of (old i) ≡ flows.Branches → Led (suc i)
      tests None none e = plain (is_wide form i) refl e none (plain_test b first form named i lt e none)
      tests (Some id) some e = led_by_frame (suc i) (state_at states (suc i)) within (inverse_frame i id lt some)

      by : (flow : Flow) → flow_of (old i) ≡ flow → Led (suc i)
      by flows.GoesOn e =
          let h = main_by b first form named i flows.GoesOn lt e in
          let size = size_is b first form i flows.GoesOn e in
          let place : suc (q_of i) ≡ lead (suc i) = omega (arith, size) in
          led_by_fall i (q_of i) (image (with_slot v (old i)) i None) lt within (inl e) h.0 (inl (slot_flow v (old i) e)) place (moved (S i)) there on
      by flows.Branches e = tests (late_probe b first i) refl e
      by flows.Jumps e = stopped (never flows.Jumps e (λ x. cc) (λ x. cc))
      by flows.Switches e = stopped (never flows.Switches e (λ x. cc) (λ x. cc))
      by flows.Returns e = stopped (never flows.Returns e (λ x. cc) (λ x. cc))
      by flows.Throws e = stopped (never flows.Throws e (λ x. cc) (λ x. cc))

  -- ---- all of them

  led_zero : Led 0
  led_zero = by (F (lead 0)) refl
    where
      first_lead : lead 0 ≡ prelude_size form.fetch
      first_lead = omega arith

      some : 0 < length b.code
      some = let s = p.well.code.some in omega (arith, s)

      by : (o : Option TypeState) → F (lead 0) ≡ o → Led 0
      by (Some t) e =
          led_by_state 0 some (frame_state_is new_names b' (lead 0) t e ∙ ap Some (frame_front 0 (lead 0) t (omega arith) (omega arith) e))
      by None e = record {
        before = entry_of b;
        state_is = ap N past ∙ begun_next names new_names states first form named b b' p begun.last (moved (entry_of b)) begun.store (ap F (sym past) ∙ e);
        fits = there_fit p.passes (Some (entry_of b)) (state_of names b 0) (entry_of b) (S 0) refl (state_of_b 0 some) p.flows.entry;
        low = omega arith;
        same = λ none. same_Some (entry_of b) (S 0) (sym (first_state names b none) ∙ state_of_b 0 some);
        into = λ i within e falls. absurd (no_zero i e);
        begins = λ e. state_same p.flow (entry_of b);
      }
        where
          begun : IsBegun names new_names states first form named b b' p form.fetch
          begun = all_begun names new_names states first form named b b' p

          past : lead 0 ≡ suc begun.last
          past = first_lead ∙ sym begun.size

          no_zero : (i : ℕ) → 0 ≡ suc i → ⊥
          no_zero i e = omega (arith, e)

  pub all_led : (i : ℕ) → i < length b.code → Led i
  all_led zero lt = led_zero
  all_led (suc i) lt =
      let l = all_led i (omega arith) in
      next_led i (omega arith) lt (imaged i (omega arith) (landed i (omega arith) l))

  pub all_landed : (i : ℕ) → i < length b.code → N (land i) ≡ Some (moved (S i))
  all_landed i lt = landed i lt (all_led i lt)

  pub all_imaged : (i : ℕ) → i < length b.code → N (q_of i) ≡ Some (moved (S i))
  all_imaged i lt = imaged i lt (all_landed i lt)
