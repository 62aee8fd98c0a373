-- Where frames of a twin stand, and which states they have.
use Rattle.std.proofs.Common.{◌≡◌, ◌⊎◌, inl, inr, ⊎_elim, ℕ, zero, suc, ◌+◌, ◌<◌, ◌≤◌, true, List, [], ◌∷◌, length, Option, Some, None, refl, sym, ap, ◌∙◌, subst, arith, add-one, if◌then◌else◌, option_and_then}
use Rattle.std.specs.Prelude.{slice_get, Contains}
use Rattle.std.proofs.lemmas.Bool.{cases_lt}
use Rattle.std.proofs.lemmas.Option.{slice_get-get_or, same_Some}
use Rattle.jc_methods.specs.Flow.{flow_of, targets_of, jump_target, falls_at}
use Rattle.jc_methods.specs.declared.insn.Insn.{Insn}
use Rattle.jc_methods.specs.declared.insn.Flow.{Flow}
use Rattle.jc_methods.specs.declared.kind.State.{State}
use Rattle.jc_methods.specs.declared.body.Body.{Body}
use Rattle.jc_methods.specs.declared.body.FrameAt.{FrameAt}
use Rattle.jc_methods.specs.VerificationTypes.{Names, TypeState, type_state}
use Rattle.jc_methods.specs.EntryState.{entry_of}
use Rattle.jc_kinds_after.specs.After.{after_of}
use Rattle.jc_kinds.specs.States.{frames_of, frame_at, or_else, state_of}
use Rattle.jc_plan.specs.declared.branch.Branch.{Branch}
use Rattle.jc_plan.specs.Edges.{branches_by}
use Rattle.jc_plan.specs.Probed.{probe_of}
use Rattle.jc_plan.specs.Plan.{lead_probe}
use Rattle.jc_emit.specs.Marks.{TwinPlaces}
use Rattle.jc_emit.specs.Sizes.{TwinForm, is_wide, insn_at, late_by, late_probe, arms_by, arms_at, hop_size, arm_sizes, wide_by, wide_size}
use Rattle.jc_emit.specs.TwinCode.{to_of, arm_place}
use Rattle.jc_emit.specs.TwinFrames.{no_state, state_at, state_behind, IsFrameBehind, IsNarrowFrame, IsFrame}
use Rattle.jc_emit.specs.Items.{Item, lead_of, land_of, image_of, twin_items, extra_of}
use Rattle.jc_emit.specs.Local.{Lands, IsBehind, early_of, IsNoHop}
use Rattle.jc_emit.proofs.BuiltLaws.{size_tests, size_switches}
use Rattle.jc_emit.proofs.OthersLaws.{Arms, Agrees, agrees_first, agrees_rest, arms_by_list, none_some as none_id}
use Rattle.jc_emit.proofs.ToldLaws.{main_by, hop_at}
use Rattle.jc_emit.proofs.StraddlingLaws.{frame_within}
use Rattle.jc_emit.proofs.LocalLaws.{land_lands, lead_lands, late_lands, arms_land, next_within, listed_within}
use Rattle.jc_emit.proofs.TwinPremisesLaws.{Premises, frame_found, frame_asked, leads_grow, frames_rise}
use Rattle.jc_methods.specs.declared.insn.Flow.TheVariants as flows
use Rattle.jc_bytes.proofs.BooleanLaws.{none_in, which_in}
use Rattle.jc_kinds_after.specs.After as after

module _ (names new_names : Names) (states : List State) (first : ℕ) (form : TwinForm) (named : TwinPlaces) (b b' : Body) (p : Premises names new_names states first form named b b') where
  abbrev items : List Item
  items = twin_items b first form

  abbrev q_of : ℕ → ℕ
  q_of i = image_of b first form i

  abbrev land : ℕ → ℕ
  land i = land_of b first form i

  abbrev lead : ℕ → ℕ
  lead i = lead_of b first form i

  abbrev old : ℕ → Insn
  old i = insn_at b.code i

  -- the state before an instruction of the body
  abbrev pub S : ℕ → TypeState
  S i = type_state names (state_at states i)

  abbrev Asked : ℕ → State → Type 0
  Asked q s = IsFrame b first states (image_of b first form) (land_of b first form) (lead_of b first form) form q s

  abbrev Narrow : ℕ → State → Type 0
  Narrow q s = IsNarrowFrame b first states (image_of b first form) (land_of b first form) (lead_of b first form) q s

  abbrev Behind : ℕ → State → Type 0
  Behind q s = IsFrameBehind b first states (image_of b first form) (land_of b first form) (lead_of b first form) 2 q s

  which_frame : (q : ℕ) (s : State) → Asked q s → Narrow q s ⊎ ((o : Behind q s) × (is_wide form o.test ≡ true))
  which_frame q s (inl a) = inl a
  which_frame q s (inr a) = inr (a.behind, a.layout)

  pub narrow : (q : ℕ) (s : State) → Narrow q s → Asked q s
  narrow q s a = inl a

  pub behind : (q : ℕ) (s : State) → (a : Behind q s) → is_wide form a.test ≡ true → Asked q s
  behind q s a e = inr (record { behind = a; layout = e })

  -- ---- the states of the body

  pub state_b : (i : ℕ) → i < length b.code → state_of names b i ≡ Some (S i)
  state_b i lt =
      let n = p.are.count in
      (p.are.each i (state_at states i) (slice_get-get_or states i no_state (omega (arith, n, lt)))).is

  pub frame_old : (f : FrameAt) → Contains b.frames f → frame_at (frames_of names b) f.at ≡ Some (type_state names f.state)
  frame_old f c = frame_found names 0 b.frames f (frames_rise 0 b.code b.max_locals b.max_stack b.frames p.well.frames) c

  frame_state_by : (i : ℕ) (t : TypeState) → frame_at (frames_of names b) i ≡ Some t → state_of names b i ≡ Some t
  unfolding state_of
  frame_state_by zero t e = ap (λ o. or_else o (Some (entry_of b))) e
  frame_state_by (suc i) t e =
      ap (λ o. or_else o (if falls_at (after.insn_at b i) then option_and_then (after_of b i) (state_of names b i) else None)) e

  pub within_old : (f : FrameAt) → Contains b.frames f → f.at < length b.code
  within_old f c = frame_within 0 b.code b.max_locals b.max_stack b.frames p.well.frames f c

  pub state_old : (f : FrameAt) → Contains b.frames f → type_state names f.state ≡ S f.at
  state_old f c =
      same_Some (type_state names f.state) (S f.at) (sym (frame_state_by f.at (type_state names f.state) (frame_old f c)) ∙ state_b f.at (within_old f c))

  -- ---- flows

  late_tests : (i id : ℕ) → late_probe b first i ≡ Some id → flow_of (old i) ≡ flows.Branches
  late_tests i id e = by (flow_of (old i)) e
    where
      by : (flow : Flow) → late_by (probe_of b first) i (old i) flow ≡ Some id → flow ≡ flows.Branches
      by flows.GoesOn h = absurd (none_id id h)
      by flows.Branches h = refl
      by flows.Jumps h = absurd (none_id id h)
      by flows.Switches h = absurd (none_id id h)
      by flows.Returns h = absurd (none_id id h)
      by flows.Throws h = absurd (none_id id h)

  pub arms_switch : (i : ℕ) (x : Branch) → Contains (arms_at b.code i) x → flow_of (old i) ≡ flows.Switches
  arms_switch i x c = by (flow_of (old i)) c
    where
      by : (flow : Flow) → Contains (arms_by i (old i) flow) x → flow ≡ flows.Switches
      by flows.GoesOn h = absurd (none_in x h)
      by flows.Branches h = absurd (none_in x h)
      by flows.Jumps h = absurd (none_in x h)
      by flows.Switches h = refl
      by flows.Returns h = absurd (none_in x h)
      by flows.Throws h = absurd (none_in x h)

  -- ---- places

  leads_up : (i : ℕ) → lead (i + 1) ≡ lead (suc i)
  leads_up i = ap lead (add-one i)

  total_up : (i j : ℕ) → i ≤ j → lead i ≤ lead j
  total_up i j le = leads_grow names new_names states first form named b b' p i j le

  -- a place belongs to one instruction
  pub one_piece : (i j q : ℕ) → lead i ≤ q → q < lead (suc i) → lead j ≤ q → q < lead (suc j) → i ≡ j
  one_piece i j q a c d e =
      ⊎_elim
      (λ below. let g = total_up (suc i) j (omega arith) in absurd (omega (arith, g, c, d)))
      (λ ge. ⊎_elim (λ above. let g = total_up (suc j) i (omega arith) in absurd (omega (arith, g, a, e))) (λ le. omega (arith, ge, le)) (cases_lt j i))
      (cases_lt i j)

  pub tests_size : (i : ℕ) (o : Option ℕ) → flow_of (old i) ≡ flows.Branches → late_probe b first i ≡ o
      → lead (suc i) ≡ q_of i + 1 + (wide_by flows.Branches (is_wide form i) + hop_size o)
  tests_size i o e h =
      let size = size_tests b first form i e in
      let same = ap hop_size h in
      omega (arith, size, same)

  -- the arm place of a probed branch lies among those of its list
  arm_within : (whole : ℕ → ℕ) (i here : ℕ) (xs : List Branch) → Arms i xs → Agrees (probe_of b first) (land_of b first form) whole here xs
      → (x : Branch) (id : ℕ) → Contains xs x → probe_of b first x ≡ Some id
      → (here ≤ whole (to_of x)) × (whole (to_of x) + 5 ≤ here + arm_sizes (probe_of b first) xs)
  arm_within whole i here [] arms a x id c e = absurd (none_in x c)
  arm_within whole i here (y ∷ xs) arms a x id c e =
      ⊎_elim
      (λ same.
      let some : probe_of b first y ≡ Some id = ap (probe_of b first) same ∙ e in
      let at : whole (to_of x) ≡ here = ap (λ z. whole (to_of z)) (sym same) ∙ agrees_first (probe_of b first) (land_of b first form) whole here id y xs a some in
      let size = ap hop_size some in
      (omega (arith, at), omega (arith, at, size)))
      (λ later.
      let more = arm_within whole i (here + hop_size (probe_of b first y)) xs arms.3 (agrees_rest (probe_of b first) (land_of b first form) whole here y xs arms.0 a) x id later e in
      let low = more.0 in let high = more.1 in
      (omega (arith, low), omega (arith, high)))
      (which_in y xs x c)

  abbrev pub arm_of : ℕ → Branch → ℕ
  arm_of i x = arm_place (probe_of b first) (land_of b first form) (q_of i + 1) (arms_at b.code i) (to_of x)

  pub arm_in : (i : ℕ) (x : Branch) (id : ℕ) → Contains (arms_at b.code i) x → probe_of b first x ≡ Some id
      → (q_of i < arm_of i x) × (arm_of i x < lead (suc i))
  arm_in i x id c e =
      let w = arm_within (λ to. arm_place (probe_of b first) (land_of b first form) (q_of i + 1) (arms_at b.code i) to) i (q_of i + 1) (arms_at b.code i) (arms_by_list b i) (λ y d. refl) x id c e in
      let size = size_switches b first form i (arms_switch i x c) in
      let low = w.0 in let high = w.1 in
      (omega (arith, low), omega (arith, high, size))

  -- ---- what is asked for at a place

  -- in front of the image, or at it, the state before the instruction; behind it only wide conditional jumps and switches
  -- have frames
  abbrev pub Front : ℕ → ℕ → State → Type 0
  Front i q s = (q ≤ q_of i) × (type_state names s ≡ S i)

  abbrev pub Back : ℕ → ℕ → Type 0
  Back i q = (q_of i < q) × ((flow_of (old i) ≡ flows.Switches) ⊎ (is_wide form i ≡ true))

  pub asked_piece : (i q : ℕ) (s : State) → lead i ≤ q → q < lead (suc i) → Asked q s → Front i q s ⊎ Back i q
  asked_piece i q s low high a = by (which_frame q s a)
    where
      by : Narrow q s ⊎ ((o : Behind q s) × (is_wide form o.test ≡ true)) → Front i q s ⊎ Back i q
      by (inl (inl o)) =
          let f = o.frame in let at = o.place in
          let same : f.at ≡ i = one_piece f.at i q (omega (arith, at)) (omega (arith, at)) low high in
          inl (subst (λ k. q ≤ q_of k) same (omega (arith, at)), ap (type_state names) o.state_is ∙ state_old f o.listed ∙ ap S same)
      by (inl (inr (inl o))) =
          let at = o.place in let up = leads_up o.test in
          let same : suc o.test ≡ i = one_piece (suc o.test) i q (omega (arith, at, up)) (omega (arith, at, up)) low high in
          inl (subst (λ k. q ≤ q_of k) same (omega (arith, at, up)), ap (type_state names) o.state_is ∙ ap S (add-one o.test) ∙ ap S same)
      by (inl (inr (inr o))) =
          let at = o.place in
          let w = arm_in o.switch o.branch o.id o.listed o.probed in
          let left = w.0 in let right = w.1 in
          let same : o.switch ≡ i = one_piece o.switch i q (omega (arith, at, left)) (omega (arith, at, right)) low high in
          inr (subst (λ k. q_of k < q) same (omega (arith, at, left)), inl (ap (λ k. flow_of (old k)) (sym same) ∙ arms_switch o.switch o.branch o.listed))
      by (inr (o, w)) = behind_at (late_probe b first o.test) refl
        where
          one : wide_by flows.Branches (is_wide form o.test) ≡ 1
          one = ap (wide_by flows.Branches) w

          behind_at : (late : Option ℕ) → late_probe b first o.test ≡ late → Front i q s ⊎ Back i q
          behind_at None none =
              let size = tests_size o.test None o.tests none in
              let at = o.place in
              let same : suc o.test ≡ i = one_piece (suc o.test) i q (omega (arith, at, size, one)) (omega (arith, at, size, one)) low high in
              inl (subst (λ k. q ≤ q_of k) same (omega (arith, at, size, one)), ap (type_state names) (o.state_is ∙ ap (state_behind b states o.test) none) ∙ ap S (add-one o.test) ∙ ap S same)
          behind_at (Some id) some =
              let size = tests_size o.test (Some id) o.tests some in
              let at = o.place in
              let same : o.test ≡ i = one_piece o.test i q (omega (arith, at)) (omega (arith, at, size, one)) low high in
              inr (subst (λ k. q_of k < q) same (omega (arith, at)), inr (subst (λ k. is_wide form k ≡ true) same w))

  pub asked_front : (i q : ℕ) (s : State) → lead i ≤ q → q ≤ q_of i → Asked q s → type_state names s ≡ S i
  asked_front i q s low high a =
      ⊎_elim (λ f. f.1) (λ c. let over = c.0 in absurd (omega (arith, high, over))) (asked_piece i q s low (omega (arith, high)) a)

  -- ---- no frame stands inside a probe, at a goto that is no image, or at an image behind its probe

  abbrev Landing : Item → Type 0
  Landing x = IsBehind x × (extra_of x ≡ 0) × (early_of x ≡ None) × IsNoHop x

  abbrev In : ℕ → Type 0
  In k = (at : ℕ) × (due : Option ℕ) × Lands b.code (Some b.arg_slots) (probe_of b first) items k at due

  pub arms_are : (i : ℕ) → flow_of (old i) ≡ flows.Switches → arms_at b.code i ≡ branches_by (flow_of (old i)) i (targets_of (old i))
  arms_are i e = ap (λ f. arms_by i (old i) f) e

  asked_lands : (q : ℕ) (s : State) → Asked q s
      → (at : ℕ) × (due : Option ℕ) × Lands b.code (Some b.arg_slots) (probe_of b first) items q at due
  asked_lands q s a = by (which_frame q s a)
    where
      by : Narrow q s ⊎ ((o : Behind q s) × (is_wide form o.test ≡ true)) → In q
      by (inl (inl o)) = (
        o.frame.at,
        None,
        subst (λ k. Lands b.code (Some b.arg_slots) (probe_of b first) items k o.frame.at None) (sym o.place)
            (land_lands b first form p.well.code o.frame.at (within_old o.frame o.listed)),
      )
      by (inl (inr (inl o))) =
          let next = next_within b first form p.well.code o.test o.within (inr (late_tests o.test o.id o.probed)) in (
            o.test + 1,
            lead_probe b first (o.test + 1),
            subst (λ k. Lands b.code (Some b.arg_slots) (probe_of b first) items k (o.test + 1) (lead_probe b first (o.test + 1))) (sym o.place)
                (lead_lands b first form p.well.code (o.test + 1) next),
          )
      by (inl (inr (inr o))) =
          let i = o.switch in
          let e = arms_switch i o.branch o.listed in
          let h = main_by b first form named i flows.Switches o.within e in
          let there = arms_land b first form p.well.code i
          (λ to. arm_place (probe_of b first) (land_of b first form) (q_of i + 1) (arms_at b.code i) to) (q_of i + 1) (arms_at b.code i)
          (arms_by_list b i) (λ y d. refl) h.1
          (λ x c. listed_within b first form p.well.code i o.within x
          (subst (λ f. Contains (branches_by f i (targets_of (old i))) x) e (subst (λ l. Contains l x) (arms_are i e) c))) o.branch o.listed in
          (to_of o.branch, probe_of b first o.branch, subst (λ k. Lands b.code (Some b.arg_slots) (probe_of b first) items k (to_of o.branch) (probe_of b first o.branch)) (sym o.place) there)
      by (inr (o, w)) = behind_at (late_probe b first o.test) refl
        where
          one : wide_by flows.Branches (is_wide form o.test) ≡ 1
          one = ap (wide_by flows.Branches) w

          behind_at : (late : Option ℕ) → late_probe b first o.test ≡ late → In q
          behind_at None none =
              let next = next_within b first form p.well.code o.test o.within (inr o.tests) in
              let size = tests_size o.test None o.tests none in
              let at = o.place in let up = leads_up o.test in
              let place : lead (o.test + 1) ≡ q = omega (arith, at, up, size, one) in (
                o.test + 1,
                lead_probe b first (o.test + 1),
                subst (λ k. Lands b.code (Some b.arg_slots) (probe_of b first) items k (o.test + 1) (lead_probe b first (o.test + 1))) place
                    (lead_lands b first form p.well.code (o.test + 1) next),
              )
          behind_at (Some id) some =
              let h = hop_at b first form named o.test id o.within o.tests some in
              let same : wide_size b form o.test ≡ 1 = ap (λ f. wide_by f (is_wide form o.test)) o.tests ∙ one in
              let at = o.place in
              let place : q_of o.test + 1 + wide_size b form o.test ≡ q = omega (arith, at, same) in
              let to = jump_target (old o.test) in (
                to,
                Some id,
                subst (λ k. Lands b.code (Some b.arg_slots) (probe_of b first) items k to (Some id)) place
                    (late_lands b first form p.well.code (q_of o.test + 1 + wide_size b form o.test) id to h.0),
              )

  pub no_frame : (q : ℕ) (x : Item) → slice_get items q ≡ Some x → (Landing x → ⊥) → frame_at (frames_of new_names b') q ≡ None
  no_frame q x here not = by (frame_at (frames_of new_names b') q) refl
    where
      by : (o : Option TypeState) → frame_at (frames_of new_names b') q ≡ o → o ≡ None
      by None e = refl
      by (Some t) e =
          let a = frame_asked names new_names states first form named b b' p q t e in
          let l = asked_lands q a.0 a.1 in
          let stands = l.2.stands in
          let same : stands.item ≡ x = same_Some stands.item x (sym stands.here ∙ here) in
          absurd (subst (λ y. Landing y → ⊥) (sym same) not (stands.behind, stands.pushed, stands.no_early, l.2.no_hop))
