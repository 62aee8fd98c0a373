-- The frames that the function gives are those of a twin.
use Rattle.std.proofs.Common.{◌≡◌, inl, inr, ⊎_elim, ℕ, zero, suc, ◌+◌, ◌<◌, Bool, true, false, ◌&&◌, ◌||◌, nat_eq, List, [], ◌∷◌, map, length, Option, Some, None, refl, sym, ap, ap₂, ◌∙◌, subst, arith, add-one}
use Rattle.std.specs.Prelude.{Contains, insert, is_some, is_none, slice_index_or}
use Rattle.std.specs.List.{list_any}
use Rattle.std.proofs.lemmas.Bool.{and_parts, and_from, or_cases, or_left, or_right, eqb-true, eq-eqb}
use Rattle.std.proofs.lemmas.List.Elements.{Contains-append_left, Contains-append_right, Contains-append_cases}
use Rattle.jc_bytes.specs.PlainLists.{pieces}
use Rattle.jc_methods.specs.Flow.{flow_of}
use Rattle.jc_methods.specs.WellMade.{IsCode, AreFramesFrom}
use Rattle.jc_methods.specs.VerificationTypes.{verification_type, type_state, object}
use Rattle.jc_methods.specs.declared.insn.Flow.{Flow}
use Rattle.jc_methods.specs.declared.kind.Kind.{Kind}
use Rattle.jc_methods.specs.declared.kind.State.{State}
use Rattle.jc_methods.specs.declared.body.Body.{Body}
use Rattle.jc_methods.specs.declared.body.FrameAt.{FrameAt}
use Rattle.jc_plan.specs.declared.branch.Branch.{Branch}
use Rattle.jc_plan.specs.Probed.{probe_of}
use Rattle.jc_plan.specs.Plan.{lead_probe}
use Rattle.jc_bytes.proofs.FirstSeenLaws.{contains_one}
use Rattle.jc_methods.specs.FrameOrder.{RiseFrom}
use Rattle.jc_kinds_after.specs.Shift.{renamed, shifted}
use Rattle.jc_kinds_after.proofs.ShiftLaws.{map-insert}
use Rattle.jc_emit.specs.Shift.{shifted_state, image_kind, probe_array_class}
use Rattle.jc_emit.specs.Sizes.{TwinForm, narrow, insn_at, late_by, late_probe, arms_at, probe_size, hop_size, arm_sizes}
use Rattle.jc_emit.specs.TwinCode.{to_of, arm_place}
use Rattle.jc_emit.specs.TwinFrames.{state_at, left_by, IsNarrowFrame, IsFrame, AreTwinFrames}
use Rattle.jc_emit.specs.Items.{lead_of, land_of, image_of}
use Rattle.jc_emit.specs.Emission.{Emitting, frame, frame_if, moved_state, has_frame, has_inverse, arm_frame, arm_frames, frames_at}
use Rattle.jc_emit.proofs.OthersLaws.{Arms, Agrees, agrees_first, agrees_rest, arms_by_list, none_some}
use Rattle.jc_emit.proofs.LocalLaws.{next_within}
use Rattle.jc_emit.proofs.StraddlingLaws.{frame_within}
use Rattle.jc_emit.proofs.FrameListsLaws.{Rises, rises_from, rises_to, rises_both, rises_pieces, are_rising, in_piece, of_piece, if_listed, listed_if, rises_if}
use Rattle.jc_methods.specs.declared.insn.Flow.TheVariants as flows
use Rattle.jc_methods.specs.declared.kind.Kind.TheVariants as kinds
use Rattle.jc_bytes.proofs.BooleanLaws.{none_in, which_in, first_in, later_in}
use Rattle.jc_bytes.proofs.OptionLaws.{some_there}

-- ---- states

held_moved : (names : List (List ℕ)) (image : ℕ → ℕ) (kind : Kind) → verification_type names (image_kind image kind) ≡ renamed image (verification_type names kind)
held_moved names image kinds.Top = refl
held_moved names image kind = refl

pub all_moved : (names : List (List ℕ)) (image : ℕ → ℕ) (xs : List Kind)
    → map (verification_type names) (map (image_kind image) xs) ≡ map (renamed image) (map (verification_type names) xs)
all_moved names image [] = refl
all_moved names image (x ∷ xs) = λ k. held_moved names image x k ∷ all_moved names image xs k

-- the state that is written is the shifted one, where the number is that of the class of the array of probes
pub seen_moved : (names : List (List ℕ)) (v array : ℕ) (image : ℕ → ℕ) (s : State) → slice_index_or names array ([]) ≡ probe_array_class
    → type_state names (shifted_state v array image s) ≡ shifted image v (type_state names s)
seen_moved names v array image s e =
    λ k. record {
      locals =
          (map-insert (verification_type names) (map (image_kind image) s.locals) v (kinds.Object array)
          ∙ ap₂ (λ l c. insert l v (object c)) (all_moved names image s.locals) e) k;
      stack = all_moved names image s.stack k;
    }

frame_found : (frames : List FrameAt) (i : ℕ) → list_any (λ f. nat_eq f.at i) frames ≡ true
    → (f : FrameAt) × Contains frames f × (f.at ≡ i)
frame_found [] i h = absurd cc
frame_found (f ∷ frames) i h =
    ⊎_elim (λ here. (f, first_in f frames, eqb-true f.at i here))
    (λ later. let more = frame_found frames i later in (more.0, later_in f frames more.0 more.1, more.2))
    (or_cases (nat_eq f.at i) (list_any (λ g. nat_eq g.at i) frames) h)

frame_tested : (frames : List FrameAt) (i : ℕ) (g : FrameAt) → Contains frames g → g.at ≡ i → list_any (λ f. nat_eq f.at i) frames ≡ true
frame_tested [] i g c e = absurd (none_in g c)
frame_tested (f ∷ frames) i g c e =
    ⊎_elim (λ same. or_left (nat_eq f.at i) (list_any (λ x. nat_eq x.at i) frames) (eq-eqb f.at i (ap (λ x. x.at) same ∙ e)))
    (λ later. or_right (nat_eq f.at i) (list_any (λ x. nat_eq x.at i) frames) (frame_tested frames i g later e))
    (which_in f frames g c)

pub none_is : {X : Type 0} (o : Option X) → is_none o ≡ true → o ≡ None
none_is None h = refl
none_is (Some x) h = absurd cc

module _ (b : Body) (first : ℕ) (states : List State) (given : Emitting) (names : List (List ℕ)) (is_code : IsCode b.code) (are_frames : AreFramesFrom 0 b.code b.max_locals b.max_stack b.frames)
    (fit : (f : FrameAt) → Contains b.frames f → state_at states f.at ≡ f.state) (named : slice_index_or names given.array ([]) ≡ probe_array_class) where
  abbrev form : TwinForm
  form = narrow given.fetch

  abbrev q_of : ℕ → ℕ
  q_of i = image_of b first form i

  abbrev land : ℕ → ℕ
  land i = land_of b first form i

  abbrev lead : ℕ → ℕ
  lead i = lead_of b first form i

  abbrev part : ℕ → List FrameAt
  part i = frames_at b first states given i

  abbrev moved : State → State
  moved s = moved_state b first states given s

  abbrev leads_there : ℕ → Bool
  leads_there i = has_inverse b first states given i && is_some (lead_probe b first i)

  abbrev lands_there : ℕ → Bool
  lands_there i = has_frame b first states given i || (has_inverse b first states given i && is_none (lead_probe b first i))

  abbrev lead_frames : ℕ → List FrameAt
  lead_frames i = frame_if (leads_there i) (frame (lead i) (moved (state_at states i)))

  abbrev land_frames : ℕ → List FrameAt
  land_frames i = frame_if (lands_there i) (frame (land i) (moved (state_at states i)))

  abbrev left : ℕ → State
  left i = left_by (insn_at b.code i) (state_at states i)

  abbrev arms_part : ℕ → List FrameAt
  arms_part i = arm_frames b first states given (q_of i + 1) (moved (left i)) (arms_at b.code i)

  -- ---- they rise

  pub arms_rise : (here : ℕ) (s : State) (xs : List Branch)
      → Rises here (here + arm_sizes (probe_of b first) xs) (arm_frames b first states given here s xs)
  arms_rise here s [] = omega arith
  arms_rise here s (x ∷ xs) =
      rises_both here (here + hop_size (probe_of b first x)) (here + (hop_size (probe_of b first x) + arm_sizes (probe_of b first) xs)) (arm_frame b first states given here s (probe_of b first x)) _
      (single (probe_of b first x))
      (rises_to (here + hop_size (probe_of b first x)) (here + hop_size (probe_of b first x) + arm_sizes (probe_of b first) xs) _ _ (omega arith)
      (arms_rise (here + hop_size (probe_of b first x)) s xs))
    where
      single : (o : Option ℕ) → Rises here (here + hop_size o) (arm_frame b first states given here s o)
      single None = omega arith
      single (Some id) = (omega arith, omega arith)

  pub part_rises : (i : ℕ) → Rises (lead i) (lead (suc i)) (part i)
  part_rises i =
      rises_both (lead i) (land i) (lead (suc i)) (lead_frames i) _
      (rises_if (leads_there i) (frame (lead i) (moved (state_at states i))) (lead i) (land i)
      (λ t.
      let o = some_there (lead_probe b first i) (and_parts (has_inverse b first states given i) (is_some (lead_probe b first i)) t).1 in
      let far = ap probe_size o.1 in
      (omega arith, omega (arith, far)))
      (omega arith))
      (rises_both (land i) (q_of i + 1) (lead (suc i)) (land_frames i) (arms_part i)
      (rises_if (lands_there i) (frame (land i) (moved (state_at states i))) (land i) (q_of i + 1) (λ t. (omega arith, omega arith)) (omega arith))
      (rises_to (q_of i + 1) (q_of i + 1 + arm_sizes (probe_of b first) (arms_at b.code i)) (lead (suc i)) (arms_part i) (omega arith) (arms_rise (q_of i + 1) (moved (left i)) (arms_at b.code i))))

  all_rise : RiseFrom 0 (pieces part (length b.code))
  all_rise =
      are_rising 0 (lead (length b.code)) (pieces part (length b.code))
      (rises_from 0 (lead 0) (lead (length b.code)) _ (omega arith) (rises_pieces part lead part_rises (length b.code)))

  -- ---- each is asked for

  abbrev Asked : ℕ → State → Type 0
  Asked q s = IsNarrowFrame b first states (image_of b first form) (land_of b first form) (lead_of b first form) q s

  abbrev IsGood : FrameAt → Type 0
  IsGood f = (s : State) × Asked f.at s × (type_state names f.state ≡ shifted (image_of b first form) b.arg_slots (type_state names s))

  pub seen_is : (s : State) → type_state names (moved s) ≡ shifted (image_of b first form) b.arg_slots (type_state names s)
  seen_is s = seen_moved names b.arg_slots given.array (image_of b first form) s named

  inverse_asked : (i : ℕ) → i < length b.code → has_inverse b first states given i ≡ true → Asked (lead i) (state_at states i)
  inverse_asked zero lt h = absurd cc
  inverse_asked (suc j) lt h =
      let o = some_there (late_probe b first j) h in
      let up = add-one j in
      inr (inl (record { test = j; id = o.0; within = omega arith; probed = o.1; place = sym (ap lead up); state_is = sym (ap (state_at states) up) }))

  lead_good : (i : ℕ) (f : FrameAt) → i < length b.code → Contains (lead_frames i) f → IsGood f
  lead_good i f lt c =
      let h = if_listed (leads_there i) (frame (lead i) (moved (state_at states i))) f c in
      let both = and_parts (has_inverse b first states given i) (is_some (lead_probe b first i)) h.0 in
      subst IsGood h.1 (state_at states i, inverse_asked i lt both.0, seen_is (state_at states i))

  land_good : (i : ℕ) (f : FrameAt) → i < length b.code → Contains (land_frames i) f → IsGood f
  land_good i f lt c =
      let h = if_listed (lands_there i) (frame (land i) (moved (state_at states i))) f c in
      subst IsGood h.1
      (⊎_elim
      (λ old.
      let g = frame_found b.frames i old in
      let same : state_at states i ≡ g.0.state = ap (state_at states) (sym g.2) ∙ fit g.0 g.1 in
      (state_at states i, inl (record { frame = g.0; listed = g.1; place = ap land (sym g.2); state_is = same }), seen_is (state_at states i)))
      (λ inverse.
      let both = and_parts (has_inverse b first states given i) (is_none (lead_probe b first i)) inverse in
      let none = none_is (lead_probe b first i) both.1 in
      let place : lead i ≡ land i = let z = ap probe_size none in omega (arith, z) in
      (state_at states i, subst (λ q. Asked q (state_at states i)) place (inverse_asked i lt both.0), seen_is (state_at states i)))
      (or_cases (has_frame b first states given i) (has_inverse b first states given i && is_none (lead_probe b first i)) h.0))

  -- the arms of a switch
  abbrev whole : ℕ → ℕ → ℕ
  whole i to = arm_place (probe_of b first) (land_of b first form) (q_of i + 1) (arms_at b.code i) to

  arms_good : (i : ℕ) → i < length b.code → (here : ℕ) (xs : List Branch) → Arms i xs
      → Agrees (probe_of b first) (land_of b first form) (whole i) here xs
      → ((y : Branch) → Contains xs y → Contains (arms_at b.code i) y)
      → (f : FrameAt) → Contains (arm_frames b first states given here (moved (left i)) xs) f → IsGood f
  arms_good i lt here [] arms a listed f c = absurd (none_in f c)
  arms_good i lt here (x ∷ xs) arms a listed f c =
      ⊎_elim (λ front. single (probe_of b first x) refl front)
      (λ rest. arms_good i lt (here + hop_size (probe_of b first x)) xs arms.3
      (agrees_rest (probe_of b first) (land_of b first form) (whole i) here x xs arms.0 a) (λ y d. listed y (later_in x xs y d)) f rest)
      (Contains-append_cases (arm_frame b first states given here (moved (left i)) (probe_of b first x)) _ f c)
    where
      single : (o : Option ℕ) → probe_of b first x ≡ o → Contains (arm_frame b first states given here (moved (left i)) o) f → IsGood f
      single None e d = absurd (none_in f d)
      single (Some id) e d =
          let place = agrees_first (probe_of b first) (land_of b first form) (whole i) here id x xs a e in
          subst IsGood (contains_one (frame here (moved (left i))) f d)
          (left i, inr (inr (record { switch = i; branch = x; id = id; within = lt; listed = listed x (first_in x xs); probed = e; place = sym place; state_is = refl })), seen_is (left i))

  each_good : (f : FrameAt) → Contains (pieces part (length b.code)) f → IsGood f
  each_good f c =
      let p = in_piece part (length b.code) f c in
      let i = p.piece in
      ⊎_elim (λ front. lead_good i f p.within front)
      (λ rest.
      ⊎_elim (λ middle. land_good i f p.within middle)
      (λ last. arms_good i p.within (q_of i + 1) (arms_at b.code i) (arms_by_list b i) (λ y d. refl) (λ y d. d) f last)
      (Contains-append_cases (land_frames i) (arms_part i) f rest))
      (Contains-append_cases (lead_frames i) _ f p.listed)

  -- ---- and each that is asked for is there

  abbrev IsThere : ℕ → State → Type 0
  IsThere q s =
      (f : FrameAt) × Contains (pieces part (length b.code)) f × (f.at ≡ q) × (type_state names f.state ≡ shifted (image_of b first form) b.arg_slots (type_state names s))

  there : (i : ℕ) (f : FrameAt) (s : State) → i < length b.code → Contains (part i) f → f.state ≡ moved s → IsThere f.at s
  there i f s lt c e = (f, of_piece part (length b.code) i f lt c, refl, ap (type_state names) e ∙ seen_is s)

  pub land_listed : (i : ℕ) → i < length b.code → lands_there i ≡ true → Contains (pieces part (length b.code)) (frame (land i) (moved (state_at states i)))
  land_listed i lt t =
      of_piece part (length b.code) i (frame (land i) (moved (state_at states i))) lt
      (Contains-append_right (lead_frames i) _ _ (Contains-append_left (land_frames i) (arms_part i) _ (listed_if (lands_there i) (frame (land i) (moved (state_at states i))) t)))

  landing : (i : ℕ) → i < length b.code → lands_there i ≡ true → IsThere (land i) (state_at states i)
  landing i lt t = (frame (land i) (moved (state_at states i)), land_listed i lt t, refl, seen_is (state_at states i))

  leading : (i : ℕ) → i < length b.code → has_inverse b first states given i ≡ true → IsThere (lead i) (state_at states i)
  leading i lt inverse = by (lead_probe b first i) refl
    where
      by : (o : Option ℕ) → lead_probe b first i ≡ o → IsThere (lead i) (state_at states i)
      by None none =
          let place : land i ≡ lead i = let z = ap probe_size none in omega (arith, z) in
          subst (λ q. IsThere q (state_at states i)) place
          (landing i lt (or_right (has_frame b first states given i) (has_inverse b first states given i && is_none (lead_probe b first i))
          (and_from (has_inverse b first states given i) (is_none (lead_probe b first i)) inverse (ap is_none none))))
      by (Some id) some =
          there i (frame (lead i) (moved (state_at states i))) (state_at states i) lt
          (Contains-append_left
          (lead_frames i) _ _ (listed_if (leads_there i) (frame (lead i) (moved (state_at states i)))
          (and_from (has_inverse b first states given i) (is_some (lead_probe b first i)) inverse (ap is_some some)))) refl

  late_tests : (i id : ℕ) → late_probe b first i ≡ Some id → flow_of (insn_at b.code i) ≡ flows.Branches
  late_tests i id e = by (flow_of (insn_at b.code i)) e
    where
      by : (flow : Flow) → late_by (probe_of b first) i (insn_at b.code i) flow ≡ Some id → flow ≡ flows.Branches
      by flows.GoesOn h = absurd (none_some id h)
      by flows.Branches h = refl
      by flows.Jumps h = absurd (none_some id h)
      by flows.Switches h = absurd (none_some id h)
      by flows.Returns h = absurd (none_some id h)
      by flows.Throws h = absurd (none_some id h)

  arm_there : (i : ℕ) → i < length b.code → (here : ℕ) (xs : List Branch) → Arms i xs
      → Agrees (probe_of b first) (land_of b first form) (whole i) here xs
      → (x : Branch) (id : ℕ) → Contains xs x → probe_of b first x ≡ Some id
      → Contains (arm_frames b first states given here (moved (left i)) xs) (frame (whole i (to_of x)) (moved (left i)))
  arm_there i lt here [] arms a x id c e = absurd (none_in x c)
  arm_there i lt here (y ∷ xs) arms a x id c e =
      ⊎_elim
      (λ same.
      let some : probe_of b first y ≡ Some id = ap (probe_of b first) same ∙ e in
      let place : here ≡ whole i (to_of x) = sym (agrees_first (probe_of b first) (land_of b first form) (whole i) here id y xs a some) ∙ ap (λ z. whole i (to_of z)) same in
      Contains-append_left (arm_frame b first states given here (moved (left i)) (probe_of b first y)) _ _
      (subst (λ o. Contains (arm_frame b first states given here (moved (left i)) o) (frame (whole i (to_of x)) (moved (left i)))) (sym some)
      (subst (λ q. Contains (frame here (moved (left i)) ∷ []) (frame q (moved (left i)))) place (first_in (frame here (moved (left i))) ([])))))
      (λ later.
      Contains-append_right (arm_frame b first states given here (moved (left i)) (probe_of b first y)) _ _
      (arm_there i lt (here + hop_size (probe_of b first y)) xs arms.3 (agrees_rest (probe_of b first) (land_of b first form) (whole i) here y xs arms.0 a) x id later e))
      (which_in y xs x c)

  every_there : (q : ℕ) (s : State) → Asked q s → IsThere q s
  every_there q s (inl o) =
      let lt = frame_within 0 b.code b.max_locals b.max_stack b.frames are_frames o.frame o.listed in
      let t = or_left (has_frame b first states given o.frame.at)
      (has_inverse b first states given o.frame.at && is_none (lead_probe b first o.frame.at)) (frame_tested b.frames o.frame.at o.frame o.listed refl) in
      let here = landing o.frame.at lt t in
      let state : state_at states o.frame.at ≡ s = fit o.frame o.listed ∙ sym o.state_is in
      subst (λ z. IsThere q z) state (subst (λ k. IsThere k (state_at states o.frame.at)) (sym o.place) here)
  every_there q s (inr (inl o)) =
      let up = add-one o.test in
      let next = next_within b first form is_code o.test o.within (inr (late_tests o.test o.id o.probed)) in
      let inverse : has_inverse b first states given (suc o.test) ≡ true = ap is_some o.probed in
      let here = leading (o.test + 1) next (ap (has_inverse b first states given) up ∙ inverse) in
      subst (λ z. IsThere q z) (sym o.state_is) (subst (λ k. IsThere k (state_at states (o.test + 1))) (sym o.place) here)
  every_there q s (inr (inr o)) =
      let i = o.switch in
      let f = frame (whole i (to_of o.branch)) (moved (left i)) in
      let c = arm_there i o.within (q_of i + 1) (arms_at b.code i) (arms_by_list b i) (λ y d. refl) o.branch o.id o.listed o.probed in
      let here = there i f (left i) o.within (Contains-append_right (lead_frames i) _ f (Contains-append_right (land_frames i) (arms_part i) f c)) refl in
      subst (λ z. IsThere q z) (sym o.state_is) (subst (λ k. IsThere k (left i)) (sym o.place) here)

  pub frames_told : AreTwinFrames names names b.arg_slots (image_of b first form) Asked (pieces part (length b.code))
  frames_told = record { rising = all_rise; each = each_good; every = every_there }

  -- so they are the frames of the narrow code
  pub layout_told : AreTwinFrames names names b.arg_slots (image_of b first form)
      (IsFrame b first states (image_of b first form) (land_of b first form) (lead_of b first form) form) (pieces part (length b.code))
  layout_told = record {
    rising = all_rise;
    each = λ f c. let good = each_good f c in (good.0, inl good.1, good.2);
    every = λ q s asked. by q s asked;
  }
    where
      false_true : false ≡ true → ⊥
      false_true e = cc

      by : (q : ℕ) (s : State) → IsFrame b first states (image_of b first form) (land_of b first form) (lead_of b first form) form q s
          → (f : FrameAt) × Contains (pieces part (length b.code)) f × (f.at ≡ q) × (type_state names f.state ≡ shifted (image_of b first form) b.arg_slots (type_state names s))
      by q s (inl asked) = every_there q s asked
      by q s (inr wide) = absurd (false_true wide.layout)
