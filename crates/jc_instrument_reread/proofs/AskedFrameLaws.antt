-- The frames of a twin stand at instructions of it, and say states of the body in their shifted form.
use Rattle.std.proofs.Common.{◌≡◌, inl, inr, ℕ, suc, ◌+◌, ◌-◌, ◌<◌, ◌≤◌, Bool, true, false, List, [], ◌∷◌, length, Option, Some, None, nat_eq, if◌then◌else◌, refl, sym, ap, ◌∙◌, subst, arith}
use Rattle.std.specs.Prelude.{Contains}
use Rattle.std.proofs.lemmas.List.Elements.{All-take}
use Rattle.std.proofs.lemmas.List.Sums.{sum_by-take-le}
use Rattle.std.proofs.lemmas.Option.{none-some, slice_get-get_or}
use Rattle.jc_methods.specs.Flow.{flow_of, targets_of}
use Rattle.jc_methods.specs.VerificationTypes.{Names, type_state}
use Rattle.jc_bytes.specs.PlainLists.{total}
use Rattle.jc_methods.specs.WellMade.{IsKind, IsState, IsWellMadeOfAnySize, kind_slots}
use Rattle.jc_methods.specs.declared.insn.Insn.{Insn}
use Rattle.jc_methods.specs.declared.insn.Flow.{Flow}
use Rattle.jc_methods.specs.declared.insn.Flow.TheVariants as flows
use Rattle.jc_methods.specs.declared.kind.State.{State}
use Rattle.jc_methods.specs.declared.body.Body.{Body}
use Rattle.jc_bytes.proofs.BooleanLaws.{none_in}
use Rattle.jc_kinds_after.specs.Shift.{StaysWhole}
use Rattle.jc_kinds.specs.Answers.{AreStates}
use Rattle.jc_kinds.proofs.StateShiftLaws.{states_whole}
use Rattle.jc_plan.specs.declared.branch.Branch.{Branch}
use Rattle.jc_plan.specs.Edges.{branches_by}
use Rattle.jc_plan.specs.Probed.{probe_of}
use Rattle.jc_emit.specs.Marks.{unplaced, prelude_size}
use Rattle.jc_emit.specs.Emission.{HasFrameStates}
use Rattle.jc_emit.specs.Items.{segment_size, lead_of, land_of, image_of, twin_items}
use Rattle.jc_emit.specs.Sizes.{TwinForm, is_wide, insn_at, late_by, late_probe, arms_by, arms_at, hop_size, arm_sizes, wide_by, behind_size}
use Rattle.jc_emit.specs.Straddling.{NoneStraddles}
use Rattle.jc_emit.specs.TwinCode.{to_of, here_or, arm_place}
use Rattle.jc_emit.specs.TwinFrames.{no_state, operands_of, state_at, left_by, state_behind, IsOldFrame, IsInverseFrame, IsArmFrame, IsWideFrame, IsNarrowFrame, IsFrame}
use Rattle.jc_emit.proofs.BuiltLaws.{length_twin}
use Rattle.jc_emit.proofs.LocalLaws.{land_lands, lead_lands, next_within, listed_within}
use Rattle.jc_emit.proofs.RowLaws.{total_grows}
use Rattle.jc_emit.proofs.StraddlingLaws.{frame_within}
use Rattle.jc_layout.proofs.ItemTargetsLaws.{lands_within}

-- ---- states of a body

-- a state of the body, in which no long or double stands round the local variable behind the arguments
pub record IsStateOf (names : Names) (b : Body) (s : State) : Type 0 where
  pub state : IsState b.code b.max_locals b.max_stack s
  pub whole : StaysWhole b.arg_slots (type_state names s)

left_state : (names : Names) (b : Body) (insn : Insn) (s : State) → IsStateOf names b s → IsStateOf names b (left_by insn s)
left_state names b insn s is = record {
  state = record {
    locals = is.state.locals;
    pairs = is.state.pairs;
    stack =
        let less = sum_by-take-le kind_slots s.stack (length s.stack - operands_of insn) in
        let most = is.state.stack in
        omega (arith, less, most);
    local_kinds = is.state.local_kinds;
    stack_kinds = All-take (IsKind b.code) (length s.stack - operands_of insn) s.stack is.state.stack_kinds;
  };
  whole = is.whole;
}

-- ---- conditional jumps and switches

late_tests : (probe : Branch → Option ℕ) (i id : ℕ) (insn : Insn) (flow : Flow) → late_by probe i insn flow ≡ Some id → flow ≡ flows.Branches
late_tests probe i id insn flows.Branches is = refl
late_tests probe i id insn flows.GoesOn is = absurd (none-some id is)
late_tests probe i id insn flows.Jumps is = absurd (none-some id is)
late_tests probe i id insn flows.Switches is = absurd (none-some id is)
late_tests probe i id insn flows.Returns is = absurd (none-some id is)
late_tests probe i id insn flows.Throws is = absurd (none-some id is)

arm_switches : (i : ℕ) (insn : Insn) (flow : Flow) (x : Branch) → Contains (arms_by i insn flow) x → flow ≡ flows.Switches
arm_switches i insn flows.Switches x c = refl
arm_switches i insn flows.GoesOn x c = absurd (none_in x c)
arm_switches i insn flows.Branches x c = absurd (none_in x c)
arm_switches i insn flows.Jumps x c = absurd (none_in x c)
arm_switches i insn flows.Returns x c = absurd (none_in x c)
arm_switches i insn flows.Throws x c = absurd (none_in x c)

-- an arm place, or where jumps to the target land
arm_below : (ids : Branch → Option ℕ) (land : ℕ → ℕ) (here end to : ℕ) (xs : List Branch) → land to < end → here + arm_sizes ids xs ≤ end
    → arm_place ids land here xs to < end
arm_below ids land here end to [] lands room = lands
arm_below ids land here end to (x ∷ xs) lands room =
    by (nat_eq (to_of x) to) (ids x) room (λ o size. arm_below ids land (here + hop_size o) end to xs lands size)
  where
    here_below : (o : Option ℕ) → here + (hop_size o + arm_sizes ids xs) ≤ end → here_or o here (land to) < end
    here_below None less = lands
    here_below (Some id) less = omega (arith, less)

    by : (t : Bool) (o : Option ℕ) → here + (hop_size o + arm_sizes ids xs) ≤ end
        → ((o : Option ℕ) → here + hop_size o + arm_sizes ids xs ≤ end → arm_place ids land (here + hop_size o) xs to < end)
        → (if t then here_or o here (land to) else arm_place ids land (here + hop_size o) xs to) < end
    by true o less more = here_below o less
    by false o less more = more o (omega (arith, less))

-- ---- where frames are asked for

module _ (names : Names) (b : Body) (first : ℕ) (states : List State) (well : IsWellMadeOfAnySize b) (are : AreStates names b states)
    (fit : HasFrameStates b states) (free : NoneStraddles b) where
  state_there : (i : ℕ) → i < length b.code → IsStateOf names b (state_at states i)
  state_there i lt =
      let count = are.count in
      let is = are.each i (state_at states i) (slice_get-get_or states i no_state (omega (arith, count, lt))) in
      record { state = is.well_made; whole = (states_whole names b well free i (type_state names (state_at states i)) is.is).1 }

  behind_there : (i : ℕ) (o : Option ℕ) → i + 1 < length b.code → IsStateOf names b (state_behind b states i o)
  behind_there i None lt = state_there (i + 1) lt
  behind_there i (Some id) lt = left_state names b (insn_at b.code i) (state_at states i) (state_there i (omega (arith, lt)))

  module _ (form : TwinForm) where
    abbrev count : ℕ
    count = length (twin_items b first form)

    abbrev image : ℕ → ℕ
    image i = image_of b first form i

    abbrev land : ℕ → ℕ
    land i = land_of b first form i

    abbrev lead : ℕ → ℕ
    lead i = lead_of b first form i

    -- a frame there says a state of the body
    abbrev pub IsGood : ℕ → State → Type 0
    IsGood q s = (q < count) × IsStateOf names b s

    land_below : (i : ℕ) → i < length b.code → land i < count
    land_below i lt = lands_within b first form (unplaced (λ n. 0)) (land i) i None (land_lands b first form well.code i lt)

    lead_below : (i : ℕ) → i < length b.code → lead i < count
    lead_below i lt = lands_within b first form (unplaced (λ n. 0)) (lead i) i _ (lead_lands b first form well.code i lt)

    next_lead : (i : ℕ) → lead (i + 1) ≡ image i + 1 + behind_size b first form i
    next_lead i = let e : i + 1 ≡ suc i = omega arith in ap (λ (k : ℕ). prelude_size form.fetch + total (segment_size b first form) k) e ∙ omega arith

    lead_most : (i : ℕ) → i < length b.code → lead (i + 1) ≤ count
    lead_most i lt =
        let grows = total_grows (segment_size b first form) (i + 1) (length b.code) (omega (arith, lt)) in
        let size = length_twin b first form in
        omega (arith, grows, size)

    old_good : (q : ℕ) (s : State) → IsOldFrame b first states image land lead q s → IsGood q s
    old_good q s h =
        let lt = frame_within 0 b.code b.max_locals b.max_stack b.frames well.frames h.frame h.listed in (
          subst (λ (k : ℕ). k < count) (sym h.place) (land_below h.frame.at lt),
          subst (IsStateOf names b) (fit h.frame h.listed ∙ sym h.state_is) (state_there h.frame.at lt),
        )

    inverse_good : (q : ℕ) (s : State) → IsInverseFrame b first states image land lead q s → IsGood q s
    inverse_good q s h =
        let tests = late_tests (probe_of b first) h.test h.id (insn_at b.code h.test) (flow_of (insn_at b.code h.test)) h.probed in
        let lt = next_within b first form well.code h.test h.within (inr tests) in (
          subst (λ (k : ℕ). k < count) (sym h.place) (lead_below (h.test + 1) lt),
          subst (IsStateOf names b) (sym h.state_is) (state_there (h.test + 1) lt),
        )

    arm_good : (q : ℕ) (s : State) → IsArmFrame b first states image land lead q s → IsGood q s
    arm_good q s h =
        let i = h.switch in
        let insn = insn_at b.code i in
        let switches = arm_switches i insn (flow_of insn) h.branch h.listed in
        let among = subst (λ (f : Flow). Contains (arms_by i insn f) h.branch) switches h.listed in
        let listed = subst (λ (f : Flow). Contains (branches_by f i (targets_of insn)) h.branch) switches among in
        let to = listed_within b first form well.code i h.within h.branch listed in
        let next = next_lead i in
        let most = lead_most i h.within in
        let room : image i + 1 + arm_sizes (probe_of b first) (arms_at b.code i) ≤ count = omega (arith, next, most) in (
          subst (λ (k : ℕ). k < count) (sym h.place)
              (arm_below (probe_of b first) land (image i + 1) count (to_of h.branch) (arms_at b.code i) (land_below (to_of h.branch) to) room),
          subst (IsStateOf names b) (sym h.state_is) (left_state names b insn (state_at states i) (state_there i h.within)),
        )

    narrow_good : (q : ℕ) (s : State) → IsNarrowFrame b first states image land lead q s → IsGood q s
    narrow_good q s (inl h) = old_good q s h
    narrow_good q s (inr (inl h)) = inverse_good q s h
    narrow_good q s (inr (inr h)) = arm_good q s h

    behind_good : (q : ℕ) (s : State) → IsWideFrame b first states image land lead form q s → IsGood q s
    behind_good q s h =
        let i = h.behind.test in
        let lt = next_within b first form well.code i h.behind.within (inr h.behind.tests) in
        let wide : wide_by (flow_of (insn_at b.code i)) (is_wide form i) ≡ 1 =
        ap (λ (f : Flow). wide_by f (is_wide form i)) h.behind.tests ∙ ap (wide_by flows.Branches) h.layout in
        let next = next_lead i in
        let below = lead_below (i + 1) lt in
        let place = h.behind.place in (
          omega (arith, wide, next, below, place),
          subst (IsStateOf names b) (sym h.behind.state_is) (behind_there i (late_probe b first i) lt),
        )

    pub asked_good : (q : ℕ) (s : State) → IsFrame b first states (image_of b first form) (land_of b first form) (lead_of b first form) form q s → IsGood q s
    asked_good q s (inl h) = narrow_good q s h
    asked_good q s (inr h) = behind_good q s h
