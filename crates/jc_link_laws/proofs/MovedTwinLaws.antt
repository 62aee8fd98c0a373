-- A twin of a body, where the two bodies and the states are read under other lists of names.
use Rattle.std.proofs.Common.{◌≡◌, ◌⊎◌, inl, inr, ℕ, zero, suc, ◌+◌, ◌-◌, ◌<◌, ◌≤◌, Bool, List, [], ◌∷◌, length, map, take, get_or, Option, Some, None, Contains, refl, sym, ◌∙◌, ap, ap₂, subst, arith}
use Rattle.std.specs.Prelude.{slice_get}
use Rattle.std.specs.List.{sum_by, take-map}
use Rattle.std.proofs.lemmas.Bool.{cases_lt}
use Rattle.std.proofs.lemmas.List.{get_or_past, length-map}
use Rattle.std.proofs.lemmas.List.Sums.{sum_by-cons}
use Rattle.std.proofs.lemmas.Option.{same_Some, slice_get-get_or}
use Rattle.jc_methods.specs.FrameOrder.{RiseFrom}
use Rattle.jc_methods.specs.VerificationTypes.{Names, verification_type, TypeState, type_state, TypeStateAt, type_state_at}
use Rattle.jc_methods.specs.declared.body.Body.{Body}
use Rattle.jc_methods.specs.declared.body.FrameAt.{FrameAt}
use Rattle.jc_methods.specs.declared.body.What.{What}
use Rattle.jc_methods.specs.declared.probe_members.Fetch.{Fetch}
use Rattle.jc_methods.specs.declared.insn.Insn.{Insn}
use Rattle.jc_methods.specs.declared.kind.State.{State}
use Rattle.jc_kinds_after.specs.Shift.{shifted}
use Rattle.jc_kinds.specs.Answers.{AreStates}
use Rattle.jc_plan.specs.Probed.{probe_of, probe_count}
use Rattle.jc_emit.specs.Marks.{TwinPlaces, image_place, land_place, lead_place}
use Rattle.jc_emit.specs.Sizes.{TwinForm, insn_at, arms_at, late_probe}
use Rattle.jc_emit.specs.Twin.{NamesProbes, Twin, AreFramesOf}
use Rattle.jc_emit.specs.TwinCode.{arm_place, to_of}
use Rattle.jc_emit.specs.TwinFrames.{no_state, state_at, operands_of, left_by, state_behind, IsOldFrame, IsInverseFrame, IsArmFrame, IsWideFrame, IsFrame}
use Rattle.jc_emit.specs.TwinBodies.{IsSameBody, AreSameBodies, HasTwinBody, AreTwinBodies}
use Rattle.jc_instrument.proofs.SameAnalysisLaws.{same_count}
use Rattle.jc_instrument.proofs.SameItemsLaws.{same_probe}
use Rattle.jc_instrument.proofs.RoomCauseLaws.{no_frames}
use Rattle.jc_instrument_reread.proofs.SameBodyLaws.{same_state, same_head, same_tail}
use Rattle.jc_link_laws.proofs.MovedCodeLaws.{late_same, land_place_same, lead_place_same, code_there, tables_there}

-- ---- a frame of the one list has one of the other

pub frame_there : (names others : Names) (fs gs : List FrameAt) → map (type_state_at others) gs ≡ map (type_state_at names) fs → (f : FrameAt) → Contains fs f
    → (g : FrameAt) × Contains gs g × (g.at ≡ f.at) × (type_state others g.state ≡ type_state names f.state)
frame_there names others fs gs same f listed = by fs gs same listed.0 listed.1 listed.2
  where
    by : (fs gs : List FrameAt) → map (type_state_at others) gs ≡ map (type_state_at names) fs → (k : ℕ) → k < length fs → get_or fs k f ≡ f
        → (g : FrameAt) × Contains gs g × (g.at ≡ f.at) × (type_state others g.state ≡ type_state names f.state)
    by [] gs same k less is = absurd (omega (arith, less))
    by (x ∷ fs) [] same k less is = absurd (no_frames (sym same))
    by (x ∷ fs) (y ∷ gs) same zero less is = (
      y,
      (0, omega arith, refl),
      ap (λ (s : TypeStateAt). s.at) (same_head same) ∙ ap (λ (g : FrameAt). g.at) is,
      ap (λ (s : TypeStateAt). s.state) (same_head same) ∙ ap (λ (g : FrameAt). type_state names g.state) is,
    )
    by (x ∷ fs) (y ∷ gs) same (suc k) less is =
        let found = by fs gs (same_tail same) k (omega (arith, less)) is in
        let within = found.1.1 in
        (found.0, (suc found.1.0, omega (arith, within), found.1.2), found.2, found.3)

rise_same : (names others : Names) (first : ℕ) (fs gs : List FrameAt) → map (type_state_at others) gs ≡ map (type_state_at names) fs → RiseFrom first fs → RiseFrom first gs
rise_same names others first [] [] same rise = tt
rise_same names others first [] (y ∷ gs) same rise = absurd (no_frames same)
rise_same names others first (x ∷ fs) [] same rise = absurd (no_frames (sym same))
rise_same names others first (x ∷ fs) (y ∷ gs) same rise =
    let at : y.at ≡ x.at = ap (λ (s : TypeStateAt). s.at) (same_head same) in
    let low = rise.0 in (
      omega (arith, at, low),
      rise_same names others (y.at + 1) fs gs (same_tail same) (subst (λ (n : ℕ). RiseFrom n fs) (ap (λ n. n + 1) (sym at)) rise.1),
    )

-- ---- states

left_seen : Insn → TypeState → TypeState
left_seen insn s = record { locals = s.locals; stack = take (length s.stack - operands_of insn) s.stack }

left_is : (names : Names) (insn : Insn) (s : State) → type_state names (left_by insn s) ≡ left_seen insn (type_state names s)
unfolding left_seen
left_is names insn s = λ k. record {
  locals = map (verification_type names) s.locals;
  stack = (sym (take-map (verification_type names) (length s.stack - operands_of insn) s.stack)
      ∙ ap (λ (n : ℕ). take (n - operands_of insn) (map (verification_type names) s.stack)) (sym (length-map s.stack (verification_type names)))) k;
}

-- the one body and its states, and the same body under other names
module _ (names others : Names) (b : Body) (gs : List FrameAt) (same : map (type_state_at others) gs ≡ map (type_state_at names) b.frames)
    (states more : List State) (are : AreStates names b states) (are_more : AreStates others (record b { frames = gs }) more) where
  abbrev d : Body
  d = record b { frames = gs }

  abbrev Says : State → State → Type 0
  Says s t = type_state others t ≡ type_state names s

  seen_same : (i : ℕ) → Says (state_at states i) (state_at more i)
  seen_same i = by (cases_lt i (length b.code))
    where
      by : (i < length b.code) ⊎ (length b.code ≤ i) → Says (state_at states i) (state_at more i)
      by (inl less) =
          let m = are.count in
          let n = are_more.count in
          let p = are.each i (state_at states i) (slice_get-get_or states i no_state (omega (arith, less, m))) in
          let q = are_more.each i (state_at more i) (slice_get-get_or more i no_state (omega (arith, less, n))) in
          same_Some (type_state others (state_at more i)) (type_state names (state_at states i))
          (sym q.is ∙ same_state others names d b (record { rest = refl; seen = same }) i ∙ p.is)
      by (inr past) =
          let m = are.count in
          let n = are_more.count in
          ap (type_state others) (get_or_past more i no_state (omega (arith, past, n)))
          ∙ sym (ap (type_state names) (get_or_past states i no_state (omega (arith, past, m))))

  left_same : (insn : Insn) (s t : State) → Says s t → Says (left_by insn s) (left_by insn t)
  left_same insn s t e = left_is others insn t ∙ ap (left_seen insn) e ∙ sym (left_is names insn s)

  behind_same : (i : ℕ) (o : Option ℕ) → Says (state_behind b states i o) (state_behind d more i o)
  behind_same i None = seen_same (i + 1)
  behind_same i (Some id) = left_same (insn_at b.code i) (state_at states i) (state_at more i) (seen_same i)

  -- ---- the frames that are asked for

  module _ (first : ℕ) (own : List Bool) where
    abbrev image : ℕ → ℕ
    image = image_place own

    abbrev Asked : Body → List State → TwinForm → ℕ → State → Type 0
    Asked x ss form = IsFrame x first ss (image_place own) (land_place x first own) (lead_place x first own) form

    -- a frame of the other body that is asked for at the place, and says the same
    abbrev Answers : TwinForm → ℕ → State → Type 0
    Answers form q s = (t : State) × Asked d more form q t × Says s t

    land_at : (i : ℕ) → land_place b first own i ≡ land_place d first own i
    land_at i = ap (λ (f : ℕ → ℕ). f i) (land_place_same b b.frames gs first own)

    lead_at : (i : ℕ) → lead_place b first own i ≡ lead_place d first own i
    lead_at i = ap (λ (f : ℕ → ℕ). f i) (lead_place_same b b.frames gs first own)

    late_at : (i : ℕ) → late_probe b first i ≡ late_probe d first i
    late_at i = late_same b b.frames gs first i

    probe_at : (x : _) → probe_of b first x ≡ probe_of d first x
    probe_at x = same_probe b first x ∙ sym (same_probe d first x)

    arm_at : (i to : ℕ)
        → arm_place (probe_of b first) (land_place b first own) (image i + 1) (arms_at b.code i) to
        ≡ arm_place (probe_of d first) (land_place d first own) (image i + 1) (arms_at b.code i) to
    arm_at i to = λ k. arm_place (λ x. probe_at x k) (λ n. land_at n k) (image i + 1) (arms_at b.code i) to

    old_there : (form : TwinForm) (q : ℕ) (s : State) → IsOldFrame b first states image (land_place b first own) (lead_place b first own) q s → Answers form q s
    old_there form q s h =
        let f = frame_there names others b.frames gs same h.frame h.listed in (
          f.0.state,
          inl (inl (record { frame = f.0; listed = f.1; place = h.place ∙ land_at h.frame.at ∙ ap (land_place d first own) (sym f.2); state_is = refl })),
          f.3 ∙ ap (type_state names) (sym h.state_is),
        )

    inverse_there : (form : TwinForm) (q : ℕ) (s : State) → IsInverseFrame b first states image (land_place b first own) (lead_place b first own) q s → Answers form q s
    inverse_there form q s h = (
      state_at more (h.test + 1),
      inl (inr (inl (record {
        test = h.test;
        id = h.id;
        within = h.within;
        probed = sym (late_at h.test) ∙ h.probed;
        place = h.place ∙ lead_at (h.test + 1);
        state_is = refl;
      }))),
      seen_same (h.test + 1) ∙ ap (type_state names) (sym h.state_is),
    )

    arm_there : (form : TwinForm) (q : ℕ) (s : State) → IsArmFrame b first states image (land_place b first own) (lead_place b first own) q s → Answers form q s
    arm_there form q s h = (
      left_by (insn_at b.code h.switch) (state_at more h.switch),
      inl (inr (inr (record {
        switch = h.switch;
        branch = h.branch;
        id = h.id;
        within = h.within;
        listed = h.listed;
        probed = sym (probe_at h.branch) ∙ h.probed;
        place = h.place ∙ arm_at h.switch (to_of h.branch);
        state_is = refl;
      }))),
      left_same (insn_at b.code h.switch) (state_at states h.switch) (state_at more h.switch) (seen_same h.switch) ∙ ap (type_state names) (sym h.state_is),
    )

    wide_there : (form : TwinForm) (q : ℕ) (s : State) → IsWideFrame b first states image (land_place b first own) (lead_place b first own) form q s → Answers form q s
    wide_there form q s h =
        let i = h.behind.test in (
          state_behind d more i (late_probe d first i),
          inr (record {
            behind = record { test = i; within = h.behind.within; tests = h.behind.tests; place = h.behind.place; state_is = refl };
            layout = h.layout;
          }),
          ap (λ (o : Option ℕ). type_state others (state_behind d more i o)) (sym (late_at i)) ∙ behind_same i (late_probe b first i) ∙ ap (type_state names) (sym h.behind.state_is),
        )

    pub asked_there : (form : TwinForm) (q : ℕ) (s : State) → Asked b states form q s → Answers form q s
    asked_there form q s (inl (inl h)) = old_there form q s h
    asked_there form q s (inl (inr (inl h))) = inverse_there form q s h
    asked_there form q s (inl (inr (inr h))) = arm_there form q s h
    asked_there form q s (inr h) = wide_there form q s h

-- ---- the twin

module _ (names others new_names new_others : Names) (b : Body) (gs : List FrameAt) (same : map (type_state_at others) gs ≡ map (type_state_at names) b.frames)
    (states more : List State) (are : AreStates names b states) (are_more : AreStates others (record b { frames = gs }) more)
    (first : ℕ) (y : Body) (hs : List FrameAt) (same_new : map (type_state_at new_others) hs ≡ map (type_state_at new_names) y.frames) where
  frames_there : (form : TwinForm) (own : List Bool) → AreFramesOf names new_names states first b form own y.frames
      → AreFramesOf others new_others more first (record b { frames = gs }) form own hs
  frames_there form own h = record {
    rising = rise_same new_names new_others 0 y.frames hs same_new h.rising;
    each = λ f listed.
        let g = frame_there new_others new_names hs y.frames (sym same_new) f listed in
        let old = h.each g.0 g.1 in
        let a = asked_there names others b gs same states more are are_more first own form g.0.at old.0 old.1 in (
          a.0,
          subst
              (λ (q : ℕ). IsFrame (record b { frames = gs }) first more (image_place own) (land_place (record b { frames = gs }) first own)
              (lead_place (record b { frames = gs }) first own) form q a.0) g.2 a.1,
          sym g.3 ∙ old.2 ∙ ap (shifted (image_place own) b.arg_slots) (sym a.2),
        );
    every = λ q s asked.
        let a = asked_there others names (record b { frames = gs }) b.frames (sym same) more states are_more are first own form q s asked in
        let f = h.every q a.0 a.1 in
        let g = frame_there new_names new_others y.frames hs same_new f.0 f.1 in
        (g.0, g.1, g.2 ∙ f.2, g.3 ∙ f.3 ∙ ap (shifted (image_place own) b.arg_slots) a.2);
  }

  -- the body has as many probes, so the same Integers are asked for
  probes_there : {fetch : Fetch} {giver : What} {p : TwinPlaces} → NamesProbes fetch giver first (probe_count b) y.uses p
      → NamesProbes fetch giver first (probe_count (record b { frames = gs })) y.uses p
  probes_there {fetch} {giver} {p} h = subst (λ n. NamesProbes fetch giver first n y.uses p) (same_count b ∙ sym (same_count (record b { frames = gs }))) h

  twin_there : (fetch : Fetch) (giver : What) → Twin names new_names states fetch giver first b y
      → Twin others new_others more fetch giver first (record b { frames = gs }) (record y { frames = hs })
  twin_there fetch giver t = record {
    marks = t.marks;
    form = t.form;
    fetch_is = t.fetch_is;
    places = t.places;
    names_probes = probes_there t.names_probes;
    method = record {
      method = t.method.method;
      owner = t.method.owner;
      name = t.method.name;
      desc = t.method.desc;
      flags = t.method.flags;
      arg_slots = t.method.arg_slots;
    };
    uses = t.uses;
    code = code_there b b.frames gs first t.form t.places y.code t.marks t.code;
    tables = tables_there b b.frames gs first (t.marks).own y.handlers y.lines y.vars y.kind_vars t.tables;
    frames = frames_there t.form (t.marks).own t.frames;
    max_stack = t.max_stack;
    max_locals = t.max_locals;
  }

-- The body has states under the one list of names, and the twin of it those under the other.
module _ (names others new_names new_others : Names) where
  abbrev HasStates : Body → Type 0
  HasStates d = (more : List State) × AreStates others d more

  twin_body_there : (fetch : Fetch) (giver : What) (first : ℕ) (b d y z : Body) → IsSameBody names others b d → IsSameBody new_names new_others y z
      → HasStates d → HasTwinBody names new_names fetch giver first b y → HasTwinBody others new_others fetch giver first d z
  twin_body_there fetch giver first b d y z same same_new states twin =
      let more = subst HasStates same.others states in
      subst (λ (x : Body). HasTwinBody others new_others fetch giver first x z) (sym same.others)
      (subst (HasTwinBody others new_others fetch giver first (record b { frames = d.frames })) (sym same_new.others) (record {
        states = more.0;
        are = more.1;
        twin = twin_there names others new_names new_others b d.frames same.frames twin.states more.0 twin.are more.1 first y z.frames same_new.frames
            fetch giver twin.twin;
      }))

  -- a body has as many probes, whatever its frames are
  count_same : (b d : Body) → IsSameBody names others b d → probe_count d ≡ probe_count b
  count_same b d same = ap probe_count same.others ∙ same_count (record b { frames = d.frames }) ∙ sym (same_count b)

  -- the twins of bodies, in order, and the body behind them
  pub record AreMovedTwins (fetch : Fetch) (giver : What) (first : ℕ) (ds zs : List Body) (added : Body) : Type 0 where
    pub last : Body
    pub twins : AreTwinBodies others new_others fetch giver first ds zs last
    pub same : IsSameBody new_names new_others added last

  moved_last : (fetch : Fetch) (giver : What) (first : ℕ) (zs : List Body) (added : Body) → AreSameBodies new_names new_others (added ∷ []) zs
      → AreMovedTwins fetch giver first [] zs added
  moved_last fetch giver first [] added same = absurd same
  moved_last fetch giver first (z ∷ []) added same = record { last = z; twins = refl; same = same.0 }
  moved_last fetch giver first (z ∷ y ∷ zs) added same = absurd same.1

  pub moved_twins : (fetch : Fetch) (giver : What) (first : ℕ) (bs ds ys zs : List Body) (added : Body) → AreSameBodies names others bs ds → AreSameBodies new_names new_others ys zs
      → ((i : ℕ) (d : Body) → slice_get ds i ≡ Some d → HasStates d) → AreTwinBodies names new_names fetch giver first bs ys added → AreMovedTwins fetch giver first ds zs added
  moved_twins fetch giver first [] [] ys zs added same same_new states twins = moved_last fetch giver first zs added (subst (λ (l : List Body). AreSameBodies new_names new_others l zs) twins same_new)
  moved_twins fetch giver first [] (d ∷ ds) ys zs added same same_new states twins = absurd same
  moved_twins fetch giver first (b ∷ bs) [] ys zs added same same_new states twins = absurd same
  moved_twins fetch giver first (b ∷ bs) (d ∷ ds) [] zs added same same_new states twins = absurd twins
  moved_twins fetch giver first (b ∷ bs) (d ∷ ds) (y ∷ ys) [] added same same_new states twins = absurd same_new
  moved_twins fetch giver first (b ∷ bs) (d ∷ ds) (y ∷ ys) (z ∷ zs) added same same_new states twins =
      let count : first + probe_count b ≡ first + probe_count d = ap (λ n. first + n) (sym (count_same b d same.0)) in
      let rest = moved_twins fetch giver (first + probe_count d) bs ds ys zs added same.1 same_new.1 (λ i x at. states (suc i) x at)
      (subst (λ (n : ℕ). AreTwinBodies names new_names fetch giver n bs ys added) count twins.1) in
      record {
        last = rest.last;
        twins = (twin_body_there fetch giver first b d y z same.0 same_new.0 (states 0 d refl) twins.0, rest.twins);
        same = rest.same;
      }

  pub counts_same : (bs ds : List Body) → AreSameBodies names others bs ds → sum_by probe_count ds ≡ sum_by probe_count bs
  counts_same [] [] same = refl
  counts_same [] (d ∷ ds) same = absurd same
  counts_same (b ∷ bs) [] same = absurd same
  counts_same (b ∷ bs) (d ∷ ds) same =
      sum_by-cons probe_count d ds ∙ ap₂ (λ m n. m + n) (count_same b d same.0) (counts_same bs ds same.1) ∙ sym (sum_by-cons probe_count b bs)
