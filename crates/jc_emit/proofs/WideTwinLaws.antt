-- The frames of the wide form of the code are those of a twin.
use Rattle.std.proofs.Common.{◌≡◌, ◌⊎◌, inl, inr, ⊎_elim, ℕ, ◌+◌, ◌<◌, true, List, [], ◌∷◌, map, length, refl, sym, ap, ◌∙◌, subst, arith}
use Rattle.std.specs.Prelude.{Contains, insert, slice_index_or}
use Rattle.jc_bytes.specs.PlainLists.{pieces}
use Rattle.jc_methods.specs.Flow.{flow_of}
use Rattle.jc_methods.specs.WellMade.{IsCode, AreFramesFrom, IsWellMadeOfAnySize}
use Rattle.jc_methods.specs.VerificationTypes.{Names, VerificationType, verification_type, type_state, object, top}
use Rattle.jc_methods.specs.declared.kind.State.{State}
use Rattle.jc_methods.specs.declared.body.Body.{Body}
use Rattle.jc_methods.specs.declared.body.FrameAt.{FrameAt}
use Rattle.jc_methods.specs.declared.insn.Flow.{Flow}
use Rattle.jc_plan.specs.declared.branch.Branch.{Branch}
use Rattle.jc_methods.specs.FrameOrder.{RiseFrom}
use Rattle.jc_plan.specs.Probed.{probe_of}
use Rattle.jc_kinds_after.specs.Shift.{renamed, shifted}
use Rattle.jc_kinds_after.proofs.ShiftLaws.{map-insert}
use Rattle.jc_emit.specs.Marks.{unplaced}
use Rattle.jc_emit.specs.Shift.{probe_array_class}
use Rattle.jc_emit.specs.Sizes.{TwinForm, narrow, insn_at, late_probe, arms_by, arms_at, wide_by}
use Rattle.jc_emit.specs.TwinCode.{to_of, arm_place}
use Rattle.jc_emit.specs.TwinFrames.{state_at, state_behind, IsNarrowFrame, IsFrame, AreTwinFrames}
use Rattle.jc_emit.specs.Told.{HasWideFrames}
use Rattle.jc_emit.specs.Items.{lead_of, land_of, image_of, twin_items}
use Rattle.jc_emit.specs.Emission.{Emitting, frames_at, wide_frames_at, emission, form_by, widened_state, widened_frame, HasFrameStates, IsArrayNumber, IsUsed}
use Rattle.jc_emit.proofs.FrameLaws.{all_moved, frames_told, seen_is}
use Rattle.jc_emit.proofs.WideFrameLaws.{each_behind, wide_listed, wide_frame}
use Rattle.jc_emit.proofs.WidenedLaws.{W, lead_is, land_is, image_is, arm_is, behind_test}
use Rattle.jc_methods.specs.declared.insn.Flow.TheVariants as flows
use Rattle.jc_methods.specs.Widened.{WideSet}
use Rattle.jc_bytes.proofs.BooleanLaws.{none_in}

-- ---- states

image_twice : (g f : ℕ → ℕ) (h : VerificationType) → renamed g (renamed f h) ≡ renamed (λ i. g (f i)) h
image_twice g f top = refl
image_twice g f h = refl

images_twice : (g f : ℕ → ℕ) (xs : List VerificationType) → map (renamed g) (map (renamed f) xs) ≡ map (renamed (λ i. g (f i))) xs
images_twice g f [] = refl
images_twice g f (x ∷ xs) = λ k. image_twice g f x k ∷ images_twice g f xs k

-- the first state is the shifted form of the second one, by the names of classes
abbrev IsShifted : Names → (v : ℕ) → (image : ℕ → ℕ) → (state s : State) → Type 0
IsShifted names v image state s = type_state names state ≡ shifted image v (type_state names s)

-- the state of a frame in the wide code
seen_widened : (names : Names) (v : ℕ) (place image wide : ℕ → ℕ) (state s : State) → (λ i. place (image i)) ≡ wide
    → IsShifted names v image state s → IsShifted names v wide (widened_state place state) s
seen_widened names v place image wide state s e h =
    let locals : map (verification_type names) state.locals ≡ insert (map (renamed image) (map (verification_type names) s.locals)) v (object probe_array_class) = ap (λ x. x.locals) h in
    let stack : map (verification_type names) state.stack ≡ map (renamed image) (map (verification_type names) s.stack) = ap (λ x. x.stack) h in
    λ k. record {
      locals =
          (all_moved names place state.locals
          ∙ ap (map (renamed place)) locals
          ∙ map-insert (renamed place) (map (renamed image) (map (verification_type names) s.locals)) v (object probe_array_class)
          ∙ ap (λ l. insert l v (object probe_array_class)) (images_twice place image (map (verification_type names) s.locals)
          ∙ ap (λ f. map (renamed f) (map (verification_type names) s.locals)) e)) k;
      stack =
          (all_moved names place state.stack
          ∙ ap (map (renamed place)) stack
          ∙ images_twice place image (map (verification_type names) s.stack)
          ∙ ap (λ f. map (renamed f) (map (verification_type names) s.stack)) e) k;
    }

module _ (b : Body) (first : ℕ) (states : List State) (given : Emitting) (wide : WideSet) (names : List (List ℕ)) (is_code : IsCode b.code)
    (are_frames : AreFramesFrom 0 b.code b.max_locals b.max_stack b.frames)
    (fit : (f : FrameAt) → Contains b.frames f → state_at states f.at ≡ f.state) (named : slice_index_or names given.array ([]) ≡ probe_array_class) where
  abbrev n : ℕ
  n = length b.code

  -- the two forms
  abbrev narrow_form : TwinForm
  narrow_form = narrow given.fetch

  abbrev wide_form : TwinForm
  wide_form = form_by b first given.fetch wide

  abbrev image_n : ℕ → ℕ
  image_n i = image_of b first narrow_form i

  abbrev image_w : ℕ → ℕ
  image_w i = image_of b first wide_form i

  -- the place in the wide code
  abbrev P : ℕ → ℕ
  P q = W b first given.fetch wide (unplaced given.integer) is_code q

  abbrev narrow_frames : List FrameAt
  narrow_frames = pieces (frames_at b first states given) n

  abbrev behind_frames : List FrameAt
  behind_frames = pieces (wide_frames_at b first states given) n

  -- a frame of the narrow code, or one behind a jump that is wide
  abbrev IsTaken : FrameAt → Type 0
  IsTaken g = Contains narrow_frames g ⊎ (Contains behind_frames g × IsUsed wide g)

  images_are : (λ i. P (image_n i)) ≡ image_of b first wide_form
  images_are = λ k i. image_is b first given.fetch wide (unplaced given.integer) is_code i k

  -- behind a conditional jump that is wide
  behind_two : (i : ℕ) → i < n → flow_of (insn_at b.code i) ≡ flows.Branches → wide (image_n i) ≡ true → P (image_n i + 1) ≡ image_w i + 2
  behind_two i lt e is =
      behind_test b first given.fetch wide (unplaced given.integer) is_code i lt e
      ∙ ap (λ w. image_w i + 1 + wide_by flows.Branches w) is
      ∙ omega arith

  abbrev Narrow : ℕ → State → Type 0
  Narrow q s = IsNarrowFrame b first states (image_of b first narrow_form) (land_of b first narrow_form) (lead_of b first narrow_form) q s

  abbrev Wide : ℕ → State → Type 0
  Wide q s = IsFrame b first states (image_of b first wide_form) (land_of b first wide_form) (lead_of b first wide_form) wide_form q s

  -- the arm place of a target of the switch, in either form
  abbrev arm_in : TwinForm → (i to : ℕ) → ℕ
  arm_in form i to = arm_place (probe_of b first) (land_of b first form) (image_of b first form i + 1) (arms_at b.code i) to

  -- what has arms is a switch
  arms_switch : (i : ℕ) (x : Branch) → Contains (arms_at b.code i) x → flow_of (insn_at b.code i) ≡ flows.Switches
  arms_switch i x c = by (flow_of (insn_at b.code i)) c
    where
      by : (flow : Flow) → Contains (arms_by i (insn_at b.code i) flow) x → flow ≡ flows.Switches
      by flows.GoesOn d = absurd (none_in x d)
      by flows.Branches d = absurd (none_in x d)
      by flows.Jumps d = absurd (none_in x d)
      by flows.Switches d = refl
      by flows.Returns d = absurd (none_in x d)
      by flows.Throws d = absurd (none_in x d)

  arm_place_is : (i : ℕ) (x : Branch) → i < n → Contains (arms_at b.code i) x → P (arm_in narrow_form i (to_of x)) ≡ arm_in wide_form i (to_of x)
  arm_place_is i x lt c = arm_is b first given.fetch wide (unplaced given.integer) is_code i lt (arms_switch i x c) (to_of x)

  to_wide : (q : ℕ) (s : State) → Narrow q s → Wide (P q) s
  to_wide q s (inl o) =
      inl (inl (record {
        frame = o.frame;
        listed = o.listed;
        place = ap P o.place ∙ land_is b first given.fetch wide (unplaced given.integer) is_code o.frame.at;
        state_is = o.state_is;
      }))
  to_wide q s (inr (inl o)) =
      inl (inr (inl (record {
        test = o.test;
        id = o.id;
        within = o.within;
        probed = o.probed;
        place = ap P o.place ∙ lead_is b first given.fetch wide (unplaced given.integer) is_code (o.test + 1);
        state_is = o.state_is;
      })))
  to_wide q s (inr (inr o)) =
      inl (inr (inr (record {
        switch = o.switch;
        branch = o.branch;
        id = o.id;
        within = o.within;
        listed = o.listed;
        probed = o.probed;
        place = ap P o.place ∙ arm_place_is o.switch o.branch o.within o.listed;
        state_is = o.state_is;
      })))

  -- the place of the narrow code
  record FromNarrow (q : ℕ) (s : State) : Type 0 where
    place : ℕ
    asked : Narrow place s
    is : P place ≡ q

  to_narrow : (q : ℕ) (s : State)
      → IsNarrowFrame b first states (image_of b first wide_form) (land_of b first wide_form) (lead_of b first wide_form) q s → FromNarrow q s
  to_narrow q s (inl o) =
      record {
        place = land_of b first narrow_form o.frame.at;
        asked = inl (record { frame = o.frame; listed = o.listed; place = refl; state_is = o.state_is });
        is = land_is b first given.fetch wide (unplaced given.integer) is_code o.frame.at ∙ sym o.place;
      }
  to_narrow q s (inr (inl o)) = record {
    place = lead_of b first narrow_form (o.test + 1);
    asked = inr (inl (record { test = o.test; id = o.id; within = o.within; probed = o.probed; place = refl; state_is = o.state_is }));
    is = lead_is b first given.fetch wide (unplaced given.integer) is_code (o.test + 1) ∙ sym o.place;
  }
  to_narrow q s (inr (inr o)) = record {
    place = arm_in narrow_form o.switch (to_of o.branch);
    asked = inr (inr (record { switch = o.switch; branch = o.branch; id = o.id; within = o.within; listed = o.listed; probed = o.probed; place = refl; state_is = o.state_is }));
    is = arm_place_is o.switch o.branch o.within o.listed ∙ sym o.place;
  }

  abbrev Shifted : State → State → Type 0
  Shifted state s = type_state names (widened_state P state) ≡ shifted (image_of b first wide_form) b.arg_slots (type_state names s)

  shift : (state s : State) → type_state names state ≡ shifted (image_of b first narrow_form) b.arg_slots (type_state names s) → Shifted state s
  shift state s h = seen_widened names b.arg_slots P (image_of b first narrow_form) (image_of b first wide_form) state s images_are h

  module _ (frames : List FrameAt) (each_from : (f : FrameAt) → Contains frames f → (g : FrameAt) × IsTaken g × (f ≡ widened_frame P g))
      (every_to : (g : FrameAt) → IsTaken g → Contains frames (widened_frame P g)) where
    abbrev told : AreTwinFrames names names b.arg_slots (image_of b first narrow_form) Narrow narrow_frames
    told = frames_told b first states given names is_code are_frames fit named

    abbrev IsGood : FrameAt → Type 0
    IsGood f = (s : State) × Wide f.at s × (type_state names f.state ≡ shifted (image_of b first wide_form) b.arg_slots (type_state names s))

    wide_each : (f : FrameAt) → Contains frames f → IsGood f
    wide_each f c =
        let from = each_from f c in
        let g = from.0 in
        subst IsGood (sym from.2)
        (⊎_elim
        (λ plain. let h = told.each g plain in (h.0, to_wide g.at h.0 h.1, shift g.state h.0 h.2))
        (λ more.
        let h = each_behind b first states given names is_code are_frames fit named g more.0 in
        let o = h.1 in
        let used = more.1 in
        let number : used.0 ≡ image_n o.test = omega (arith, used.1, o.place) in
        let is : wide (image_n o.test) ≡ true = ap wide (sym number) ∙ used.2 in
        let behind = ap P o.place ∙ behind_two o.test o.within o.tests is in (
          h.0,
          inr (record { behind = record { test = o.test; within = o.within; tests = o.tests; place = behind; state_is = o.state_is }; layout = is }),
          shift g.state h.0 h.2,
        ))
        from.1)

    abbrev IsThere : ℕ → State → Type 0
    IsThere q s =
        (f : FrameAt) × Contains frames f × (f.at ≡ q) × (type_state names f.state ≡ shifted (image_of b first wide_form) b.arg_slots (type_state names s))

    carried : (q : ℕ) (s : State) (g : FrameAt) → IsTaken g → P g.at ≡ q
        → type_state names g.state ≡ shifted (image_of b first narrow_form) b.arg_slots (type_state names s) → IsThere q s
    carried q s g c e h = (widened_frame P g, every_to g c, e, shift g.state s h)

    wide_every : (q : ℕ) (s : State) → Wide q s → IsThere q s
    wide_every q s (inl o) =
        let from = to_narrow q s o in
        let here = told.every from.place s from.asked in
        carried q s here.0 (inl here.1) (ap P here.2 ∙ from.is) here.3
    wide_every q s (inr w) =
        let o = w.behind in
        let g = wide_frame b first states given names is_code are_frames fit named o.test in
        let listed = wide_listed b first states given names is_code are_frames fit named o.test o.within o.tests in
        carried q s g (inr (listed, (image_n o.test, refl, w.layout))) (behind_two o.test o.within o.tests w.layout ∙ sym o.place)
        (seen_is b first states given names is_code are_frames fit named (state_behind b states o.test (late_probe b first o.test))
        ∙ ap (λ z. shifted (image_of b first narrow_form) b.arg_slots (type_state names z)) (sym o.state_is))

    pub wide_told : RiseFrom 0 frames → AreTwinFrames names names b.arg_slots (image_of b first wide_form) Wide frames
    wide_told rising = record { rising = rising; each = wide_each; every = wide_every }

module _ (b : Body) (first : ℕ) (states : List State) (given : Emitting) (wide : WideSet) (names : Names) where
  pub widened_frames : IsWellMadeOfAnySize b → HasFrameStates b states → IsArrayNumber names given.array
      → HasWideFrames names b first states given wide
  unfolding emission twin_items
  widened_frames well fit named frames w =
      wide_told b first states given wide names well.code well.frames fit named frames w.each w.every w.rising
