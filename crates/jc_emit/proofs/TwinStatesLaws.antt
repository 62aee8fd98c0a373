-- The states of a twin, from its first instruction on.
use Rattle.std.proofs.Common.{true≢false, ◌≡◌, inl, ℕ, zero, suc, pos, ◌+◌, ◌<◌, ◌≤◌, Bool, true, false, List, [], ◌∷◌, ◌++◌, length, map, Option, Some, None, option_and_then, refl, sym, ap, ◌∙◌, subst, arith, add-one, get_or, nat_le, if◌then◌else◌, append_assoc, append-nil}
use Rattle.std.proofs.lemmas.Option.{none-some, same_Some}
use Rattle.std.specs.List.{sum_by}
use Rattle.std.proofs.lemmas.List.Sums.{sum_by-cons}
use Rattle.std.specs.Prelude.{slice_get, IsSome, codes}
use Rattle.std.proofs.lemmas.Bool.{leb-true, leb-false}
use Rattle.std.proofs.lemmas.List.{length-map}
use Rattle.std.proofs.lemmas.List.Edits.{get_or-insert_at}
use Rattle.jc_methods.specs.Flow.{flow_of, FallsThrough, falls_at}
use Rattle.jc_methods.specs.DescriptorTypes.{types_from, rest_from}
use Rattle.jc_bytes.specs.Descriptor.{FieldType}
use Rattle.jc_methods.specs.Opcode as opcode
use Rattle.jc_methods.specs.WellMade.{kind_slots, what_used}
use Rattle.jc_methods.specs.ProbeMembers.{data_type, most_short}
use Rattle.jc_methods.specs.declared.insn.Insn.{Insn}
use Rattle.jc_methods.specs.declared.kind.Kind.{Kind}
use Rattle.jc_methods.specs.declared.kind.State.{State}
use Rattle.jc_methods.specs.declared.body.Body.{Body}
use Rattle.jc_methods.specs.declared.body.Use.{Use}
use Rattle.jc_methods.specs.declared.body.What.TheVariants as whats
use Rattle.jc_methods.specs.declared.probe_members.Fetch.{Fetch}
use Rattle.jc_methods.specs.declared.probe_members.Fetch.TheVariants as fetches
use Rattle.jc_methods.specs.VerificationTypes.{Names, VerificationType, top, int, object, TypeState, verification_type, type_state, width, slots}
use Rattle.jc_methods.specs.EntryState.{entry_of, entry_seen}
use Rattle.jc_kinds_after.specs.Wants.{accepts}
use Rattle.jc_kinds_after.specs.Step.{kind, moves, apply, put_local, with_stack, limited}
use Rattle.jc_kinds_after.specs.Table.{form as one_form, one, table, forms_at}
use Rattle.jc_kinds_after.specs.After.{insn_at, ground_of, returns_of, step_of, member_step, constant_step, class_step, after_of}
use Rattle.jc_kinds.specs.States.{frames_of, frame_at, or_else, state_of, after_at}
use Rattle.jc_kinds_after.specs.Shift.{renamed, probes, shifted}
use Rattle.jc_kinds.specs.StateShift.{IsStraddled}
use Rattle.jc_methods.proofs.FlowLaws.{falls_decided}
use Rattle.jc_kinds.proofs.StateShiftLaws.{state_fine, states_shift, frame_is, frame_state}
use Rattle.jc_kinds.proofs.EntryShiftLaws.{entry_shifts}
use Rattle.jc_plan.specs.Probed.{probe_count}
use Rattle.jc_emit.specs.Added.{giver_of}
use Rattle.jc_emit.specs.Sizes.{TwinForm}
use Rattle.jc_emit.specs.Twin.{NamesProbes}
use Rattle.jc_emit.proofs.StateLaws.{slots-renamed}
use Rattle.jc_emit.specs.Marks.{TwinPlaces, push, push_by, astore, prelude_size}
use Rattle.jc_emit.specs.TwinFrames.{state_at}
use Rattle.jc_emit.specs.Items.{Item, start, probe_array, probe_id, probe_one, probe_store, insn_of, extra_of, prelude, probe, lead_of, land_of, image_of, twin_items}
use Rattle.jc_emit.proofs.PiecesLaws.{HasAt}
use Rattle.jc_emit.proofs.BuiltLaws.{prelude_at, starts_at}
use Rattle.jc_emit.proofs.EdgeIdLaws.{item_within}
use Rattle.jc_emit.proofs.LocalLaws.{twin_ok}
use Rattle.jc_emit.proofs.PlacedLaws.{flow_push_by}
use Rattle.jc_emit.proofs.StepLaws.{state, moves_one, moves_gives, limited_is, slots-append}
use Rattle.jc_emit.proofs.TwinPremisesLaws.{Premises, stands, images}
use Rattle.jc_emit.proofs.TwinPlacesLaws.{state_b, no_frame}
use Rattle.jc_methods.specs.declared.insn.Insn.TheVariants as insns
use Rattle.jc_methods.specs.declared.insn.Flow.TheVariants as flows
use Rattle.jc_methods.specs.declared.kind.Kind.TheVariants as kinds
use Rattle.jc_bytes.proofs.EachLaws.{AllFrom, all_from}
use Rattle.jc_kinds_after.specs.declared.want.Want.TheVariants as wants
use Rattle.jc_kinds_after.proofs.KeepLaws.{step_slots}
use Rattle.jc_kinds_after.proofs.LeaveLaws.{insn_of as step_at}
use Rattle.jc_kinds_after.proofs.ApplyLaws.{after_is}
use Rattle.jc_emit.specs.Sizes as sizes

-- ---- states by their places

pub frame_state_is : (names : Names) (b : Body) (i : ℕ) (t : TypeState) → frame_at (frames_of names b) i ≡ Some t → state_of names b i ≡ Some t
unfolding state_of
frame_state_is names b zero t e = ap (λ o. or_else o (Some (entry_of b))) e
frame_state_is names b (suc i) t e =
    ap (λ o. or_else o (if falls_at (insn_at b i) then option_and_then (after_of b i) (state_of names b i) else None)) e

pub first_state : (names : Names) (b : Body) → frame_at (frames_of names b) 0 ≡ None → state_of names b 0 ≡ Some (entry_of b)
unfolding state_of
first_state names b e = ap (λ o. or_else o (Some (entry_of b))) e

pub next_state : (names : Names) (b : Body) (i : ℕ) (insn : Insn) (s t : TypeState) → frame_at (frames_of names b) (suc i) ≡ None
    → insn_at b i ≡ Some insn → FallsThrough insn
    → state_of names b i ≡ Some s → after_of b i s ≡ Some t → state_of names b (suc i) ≡ Some t
unfolding state_of
next_state names b i insn s t none is falls before after =
    ap (λ o. or_else o (if falls_at (insn_at b i) then option_and_then (after_of b i) (state_of names b i) else None)) none
    ∙ ap (λ o. if falls_at o then option_and_then (after_of b i) (state_of names b i) else None) is
    ∙ ap (λ c. if c then option_and_then (after_of b i) (state_of names b i) else None) ((falls_decided insn).back falls)
    ∙ ap (option_and_then (after_of b i)) before
    ∙ after

pub after_there : (names : Names) (b : Body) (i : ℕ) (s t : TypeState) → state_of names b i ≡ Some s → after_of b i s ≡ Some t
    → after_at names b i ≡ Some t
after_there names b i s t before after = ap (option_and_then (after_of b i)) before ∙ after

is_some_value : (o : Option TypeState) → IsSome o → (t : TypeState) × (o ≡ Some t)
is_some_value None h = absurd (true≢false (sym h))
is_some_value (Some t) h = (t, refl)

-- ---- pushing an id

-- the instruction pushes an int
abbrev pub PushesInt : List Use → Insn → Type 0
PushesInt uses insn = (returns : Option FieldType) → step_of uses returns insn ≡ moves (one [] (kind int ∷ []))

abbrev IsPush : ℕ → Type 0
IsPush n = (uses : List Use) → PushesInt uses (insns.Simple (3 + n))

small_pushes : AllFrom IsPush 0 6
unfolding forms_at table
small_pushes =
    (λ u r. refl, (λ u r. refl, (λ u r. refl, (λ u r. refl, (λ u r. refl, (λ u r. refl, tt))))))

push_is : (n : ℕ) (uses : List Use) → PushesInt uses (push n)
unfolding forms_at table
push_is n uses = by (nat_le n 5) refl (nat_le n 127)
  where
    wide : (c : Bool) → PushesInt uses (if c then insns.Push 16 (pos n) else insns.Push 17 (pos n))
    wide true returns = refl
    wide false returns = refl

    by : (a : Bool) → nat_le n 5 ≡ a → (c : Bool)
        → PushesInt uses (if a then insns.Simple (3 + n) else if c then insns.Push 16 (pos n) else insns.Push 17 (pos n))
    by true e c = let le = leb-true n 5 e in all_from IsPush 0 6 n small_pushes (omega arith) (omega (arith, le)) uses
    by false e c = wide c

-- the same for each number, where its Integer stands at the place that the instruction names
pub push_by_is : (integer : ℕ → ℕ) (n : ℕ) (uses : List Use) → (most_short < n → what_used uses (integer n) ≡ Some (whats.Int (pos n)))
    → PushesInt uses (push_by integer n)
push_by_is integer n uses found = by (nat_le n most_short) refl
  where
    by : (t : Bool) → nat_le n most_short ≡ t → PushesInt uses (if t then push n else insns.Constant (integer n))
    by true e = push_is n uses
    by false e = λ returns. ap constant_step (found (leb-false n most_short e))

module _ (names new_names : Names) (states : List State) (first : ℕ) (form : TwinForm) (named : TwinPlaces) (b b' : Body) (p : Premises names new_names states first form named b b') where
  abbrev v : ℕ
  v = b.arg_slots

  abbrev items : List Item
  items = twin_items b first form

  abbrev q_of : ℕ → ℕ
  q_of i = image_of b first form i

  abbrev land : ℕ → ℕ
  land i = land_of b first form i

  abbrev lead : ℕ → ℕ
  lead i = lead_of b first form i

  abbrev old : ℕ → Insn
  old i = sizes.insn_at b.code i

  abbrev moved : TypeState → TypeState
  moved s = shifted (image_of b first form) b.arg_slots s

  abbrev S : ℕ → TypeState
  S i = type_state names (state_at states i)

  -- the state before an instruction of the twin, and its frame
  abbrev N : ℕ → Option TypeState
  N q = state_of new_names b' q

  abbrev F : ℕ → Option TypeState
  F q = frame_at (frames_of new_names b') q

  -- ---- the body

  free : (i : ℕ) → IsStraddled b i → ⊥
  free i s = p.free i s

  pub after_b : (i : ℕ) → i < length b.code → (t : TypeState) × (after_of b i (S i) ≡ Some t)
  after_b i lt =
      let t = is_some_value (after_at names b i) (p.checked.after i lt) in
      (t.0, sym (ap (option_and_then (after_of b i)) (state_b names new_names states first form named b b' p i lt)) ∙ t.1)

  -- the state after it
  abbrev pub A : (i : ℕ) → i < length b.code → TypeState
  A i lt = (after_b i lt).0

  pub after_at_b : (i : ℕ) (lt : i < length b.code) → after_at names b i ≡ Some (A i lt)
  after_at_b i lt = after_there names b i (S i) (A i lt) (state_b names new_names states first form named b b' p i lt) (after_b i lt).1

  pub image_after : (i : ℕ) (lt : i < length b.code) → after_of b' (q_of i) (moved (S i)) ≡ Some (moved (A i lt))
  image_after i lt =
      states_shift names (image_of b first form) b b' p.well free (images names new_names states first form named b b' p) i (S i) (A i lt)
      (state_b names new_names states first form named b b' p i lt) (after_b i lt).1

  -- ---- bounds

  entry_low : slots (entry_of b).stack ≤ b.max_stack
  entry_low = omega arith

  slots_held : (ks : List Kind) → slots (map (verification_type names) ks) ≡ sum_by kind_slots ks
  slots_held [] = refl
  slots_held (k ∷ ks) = omega (arith, one k, slots_held ks, sum_by-cons kind_slots k ks)
    where
      one : (k : Kind) → width (verification_type names k) ≡ kind_slots k
      one kinds.Long = refl
      one k = refl

  frame_low : (i : ℕ) (s : TypeState) → frame_at (frames_of names b) i ≡ Some s → slots s.stack ≤ b.max_stack
  frame_low i s e =
      let f = frame_is names b.frames i s e in
      let is = frame_state 0 b.code b.max_locals b.max_stack b.frames f.0 f.1.0 p.well.frames f.1.1 f.1.2 in
      let low = is.stack in let same = slots_held f.0.state.stack in
      subst (λ (t : TypeState). slots t.stack ≤ b.max_stack) f.3 (omega (arith, low, same))

  after_low : (i : ℕ) (s t : TypeState) → slots s.stack ≤ b.max_stack → after_of b i s ≡ Some t → slots t.stack ≤ b.max_stack
  after_low i s t low e =
      let o = step_at b i s t e in
      step_slots (ground_of b i) (step_of b.uses (returns_of b) o.0) s t low o.2

  or_low : (i : ℕ) (other : Option TypeState) (s : TypeState) → ((t : TypeState) → other ≡ Some t → slots t.stack ≤ b.max_stack)
      → or_else (frame_at (frames_of names b) i) other ≡ Some s → slots s.stack ≤ b.max_stack
  or_low i other s more e = by (frame_at (frames_of names b) i) refl e
    where
      by : (o : Option TypeState) → frame_at (frames_of names b) i ≡ o → or_else o other ≡ Some s → slots s.stack ≤ b.max_stack
      by None is e = more s e
      by (Some t) is e = frame_low i s (is ∙ e)

  then_low : (i : ℕ) (o : Option TypeState) (falls : Bool) (t : TypeState) → ((s : TypeState) → o ≡ Some s → slots s.stack ≤ b.max_stack)
      → (if falls then option_and_then (after_of b i) o else None) ≡ Some t → slots t.stack ≤ b.max_stack
  then_low i o false t before e = absurd (none-some _ e)
  then_low i None true t before e = absurd (none-some _ e)
  then_low i (Some s) true t before e = after_low i s t (before s refl) e

  state_low : (i : ℕ) (s : TypeState) → state_of names b i ≡ Some s → slots s.stack ≤ b.max_stack
  unfolding state_of
  state_low zero s e =
      or_low 0 (Some (entry_of b)) s (λ t is. subst (λ (x : TypeState). slots x.stack ≤ b.max_stack) (same_Some (entry_of b) t is) entry_low) e
  state_low (suc i) s e =
      or_low (suc i) _ s (λ t is. then_low i (state_of names b i) (falls_at (insn_at b i)) t (λ u q. state_low i u q) is) e

  pub S_low : (i : ℕ) → i < length b.code → slots (S i).stack ≤ b.max_stack
  S_low i lt = state_low i (S i) (state_b names new_names states first form named b b' p i lt)

  pub A_low : (i : ℕ) (lt : i < length b.code) → slots (A i lt).stack ≤ b.max_stack
  A_low i lt = after_low i (S i) (A i lt) (S_low i lt) (after_b i lt).1

  pub S_long : (i : ℕ) → i < length b.code → v ≤ length (S i).locals
  S_long i lt =
      let f = state_fine names b p.well free i (S i) (state_b names new_names states first form named b b' p i lt) in
      let count = f.0 in let fit = p.well.arguments_fit in omega (arith, count, fit)

  -- ---- one instruction of the twin

  abbrev Step : ℕ → Item → TypeState → TypeState → Type 0
  Step q x s t = apply (ground_of b' q) (step_of b'.uses (returns_of b') (insn_of named v x)) s ≡ Some t

  pub goes : (q : ℕ) (x : Item) (s t : TypeState) → slice_get items q ≡ Some x → Step q x s t → after_of b' q s ≡ Some t
  goes q x s t here step = after_is b' q s (insn_of named v x) (stands names new_names states first form named b b' p q x here) ∙ step

  pub next_is : (q : ℕ) (x : Item) (s t : TypeState) → slice_get items q ≡ Some x → flow_of (insn_of named v x) ≡ flows.GoesOn → F (q + 1) ≡ None
      → N q ≡ Some s → after_of b' q s ≡ Some t → N (q + 1) ≡ Some t
  next_is q x s t here flow none before after =
      let up = add-one q in
      ap N up
      ∙ next_state new_names b' q (insn_of named v x) s t (ap F (sym up) ∙ none) (stands names new_names states first form named b b' p q x here) (inl flow) before after

  -- ---- a probe

  abbrev pub with_array : TypeState → TypeState
  with_array X = state (moved X).locals ((moved X).stack ++ probes ∷ [])

  abbrev pub with_id : TypeState → TypeState
  with_id X = state (moved X).locals (((moved X).stack ++ probes ∷ []) ++ int ∷ [])

  abbrev pub with_one : TypeState → TypeState
  with_one X = state (moved X).locals ((((moved X).stack ++ probes ∷ []) ++ int ∷ []) ++ int ∷ [])

  pub record Runs (q : ℕ) (X : TypeState) : Type 0 where
    pub after0 : after_of b' q (moved X) ≡ Some (with_array X)
    pub state1 : N (q + 1) ≡ Some (with_array X)
    pub after1 : after_of b' (q + 1) (with_array X) ≡ Some (with_id X)
    pub state2 : N (q + 1 + 1) ≡ Some (with_id X)
    pub after2 : after_of b' (q + 1 + 1) (with_id X) ≡ Some (with_one X)
    pub state3 : N (q + 1 + 1 + 1) ≡ Some (with_one X)
    pub after3 : after_of b' (q + 1 + 1 + 1) (with_one X) ≡ Some (moved X)

  moved_low : (X : TypeState) → slots X.stack ≤ b.max_stack → slots (moved X).stack ≤ b.max_stack
  moved_low X low = let same = slots-renamed (image_of b first form) X.stack in omega (arith, same, low)

  array_low : (X : TypeState) → slots X.stack ≤ b.max_stack → slots (with_array X).stack ≤ b.max_stack + 1
  array_low X low = let n = slots-append (moved X).stack (probes ∷ []) in let m = moved_low X low in omega (arith, n, m)

  id_low : (X : TypeState) → slots X.stack ≤ b.max_stack → slots (with_id X).stack ≤ b.max_stack + 2
  id_low X low = let n = slots-append (with_array X).stack (int ∷ []) in let m = array_low X low in omega (arith, n, m)

  array_step : (q id at : ℕ) (late : Bool) (X : TypeState) → slots X.stack ≤ b.max_stack → v ≤ length X.locals
      → Step q (probe_array id at late) (moved X) (with_array X)
  array_step q id at late X low long =
      let most = p.max_stack in let m = array_low X low in let n = length-map X.locals (renamed (image_of b first form)) in
      let here : get_or (moved X).locals v top ≡ probes = get_or-insert_at (map (renamed (image_of b first form)) X.locals) v probes top (omega (arith, long, n)) in
      ap (λ (h : VerificationType). if accepts wants.Anything h then with_stack (moved X) (limited b'.max_stack ((moved X).stack ++ h ∷ [])) else None) here
      ∙ ap (with_stack (moved X)) (limited_is b'.max_stack (with_array X).stack (omega (arith, most, m)))

  -- the id of a probe is one of the body's, for each of which the pool has an Integer where one is needed
  id_pushed : (q id at : ℕ) (late : Bool) → slice_get items q ≡ Some (probe_id id at late) → PushesInt b'.uses (push_by named.integer id)
  id_pushed q id at late here =
      let range = item_within b first (Some b.arg_slots) items (twin_ok b first form p.well.code) q id (probe_id id at late) here refl in
      push_by_is named.integer id b'.uses (λ more. p.names_probes.integers id more range.0 range.1)

  id_step : (q id at : ℕ) (late : Bool) (X : TypeState) → slice_get items q ≡ Some (probe_id id at late) → slots X.stack ≤ b.max_stack
      → Step q (probe_id id at late) (with_array X) (with_id X)
  id_step q id at late X here low =
      let most = p.max_stack in let m = array_low X low in
      ap (λ st. apply (ground_of b' q) st (with_array X)) (id_pushed q id at late here (returns_of b'))
      ∙ moves_gives (ground_of b' q) int (moved X).locals (with_array X).stack (omega (arith, most, m))

  one_step : (q id at : ℕ) (late : Bool) (X : TypeState) → slots X.stack ≤ b.max_stack → Step q (probe_one id at late) (with_id X) (with_one X)
  one_step q id at late X low =
      let most = p.max_stack in let m = id_low X low in
      ap (λ st. apply (ground_of b' q) st (with_id X)) (push_is 1 b'.uses (returns_of b'))
      ∙ moves_gives (ground_of b' q) int (moved X).locals (with_id X).stack (omega (arith, most, m))

  store_step : (q id at : ℕ) (late : Bool) (X : TypeState) → slots X.stack ≤ b.max_stack
      → Step q (probe_store id at late) (with_one X) (moved X)
  unfolding forms_at table
  store_step q id at late X low =
      let most = p.max_stack in let m = moved_low X low in
      let xs = (moved X).stack in
      let split : (with_one X).stack ≡ xs ++ (probes ∷ int ∷ int ∷ []) = append_assoc (xs ++ probes ∷ []) (int ∷ []) (int ∷ []) ∙ append_assoc xs (probes ∷ []) (int ∷ int ∷ []) in
      let end = append-nil xs in
      let size = ap slots end in
      ap (λ l. apply (ground_of b' q) (moves (one (wants.Reference ∷ wants.Int ∷ wants.Int ∷ []) [])) (state (moved X).locals l)) split
      ∙ moves_one (ground_of b' q) (one_form (wants.Reference ∷ wants.Int ∷ wants.Int ∷ []) []) (moved X).locals xs (probes ∷ int ∷ int ∷ []) refl refl (omega (arith, most, m, size))
      ∙ ap (λ l. Some (state (moved X).locals l)) end

  pub probe_runs : (q id at : ℕ) (late : Bool) (X : TypeState) → HasAt items q (probe id at late) → N q ≡ Some (moved X)
      → slots X.stack ≤ b.max_stack → v ≤ length X.locals → Runs q X
  probe_runs q id at late X h before low long =
      let none : (k : ℕ) (x : Item) → slice_get items k ≡ Some x → (extra_of x ≡ 0 → ⊥) → F k ≡ None =
      λ k x here more. no_frame names new_names states first form named b b' p k x here (λ l. more l.1) in
      let a0 = goes q (probe_array id at late) (moved X) (with_array X) h.0 (array_step q id at late X low long) in
      let s1 = next_is q (probe_array id at late) (moved X) (with_array X) h.0 refl (none (q + 1) (probe_id id at late) h.1.0 (λ e. cc)) before a0 in
      let a1 = goes (q + 1) (probe_id id at late) (with_array X) (with_id X) h.1.0 (id_step (q + 1) id at late X h.1.0 low) in
      let s2 = next_is (q + 1) (probe_id id at late) (with_array X) (with_id X) h.1.0 (flow_push_by named.integer id) (none (q + 1 + 1) (probe_one id at late) h.1.1.0 (λ e. cc)) s1 a1 in
      let a2 = goes (q + 1 + 1) (probe_one id at late) (with_id X) (with_one X) h.1.1.0 (one_step (q + 1 + 1) id at late X low) in
      let s3 = next_is (q + 1 + 1) (probe_one id at late) (with_id X) (with_one X) h.1.1.0 refl (none (q + 1 + 1 + 1) (probe_store id at late) h.1.1.1.0 (λ e. cc)) s2 a2 in
      record {
        after0 = a0;
        state1 = s1;
        after1 = a1;
        state2 = s2;
        after2 = a2;
        state3 = s3;
        after3 = goes (q + 1 + 1 + 1) (probe_store id at late) (with_one X) (moved X) h.1.1.1.0 (store_step (q + 1 + 1 + 1) id at late X low);
      }

  -- ---- the prelude

  -- the state in which the twin begins, and those behind the instructions of the prelude that leave one value more
  abbrev pub E : TypeState
  E = entry_of b'

  abbrev anything : VerificationType
  anything = object (codes "java/lang/Object")

  abbrev E_constant : TypeState
  E_constant = state E.locals (anything ∷ [])

  abbrev E_array : TypeState
  E_array = state E.locals (probes ∷ [])

  entry_same : E ≡ entry_seen b.owner b.name b.desc b.flags (b.max_locals + 1)
  entry_same k = entry_seen (p.method.owner k) (p.method.name k) (p.method.desc k) (p.method.flags k) (p.max_locals k)

  -- no frame stands at an instruction of the prelude
  no_frame_first : (k : ℕ) (fetch : Fetch) (number : ℕ) → slice_get items k ≡ Some (start fetch number) → F k ≡ None
  no_frame_first k fetch number here = no_frame names new_names states first form named b b' p k (start fetch number) here (λ l. l.0)

  -- one that goes on, and has this state after it
  pub record Begun (k : ℕ) (after : TypeState) : Type 0 where
    pub insn : Insn
    pub stands : insn_at b' k ≡ Some insn
    pub goes_on : flow_of insn ≡ flows.GoesOn
    pub before : TypeState
    pub state_is : N k ≡ Some before
    pub after_is : after_of b' k before ≡ Some after

  begun : (k : ℕ) (x : Item) (s t : TypeState) → slice_get items k ≡ Some x → flow_of (insn_of named v x) ≡ flows.GoesOn → N k ≡ Some s → Step k x s t → Begun k t
  begun k x s t here flow before step = record {
    insn = insn_of named v x;
    stands = stands names new_names states first form named b b' p k x here;
    goes_on = flow;
    before = s;
    state_is = before;
    after_is = goes k x s t here step;
  }

  -- where no frame stands behind it
  pub begun_next : (k : ℕ) (t : TypeState) → Begun k t → F (suc k) ≡ None → N (suc k) ≡ Some t
  begun_next k t g none = next_state new_names b' k g.insn g.before t none g.stands (inl g.goes_on) g.state_is g.after_is

  -- Behind the last instruction the twin has the state in which the method begins, with the array in its place. Behind each other
  -- one stands the next, which finds the state that it leaves: the local variables are as where the method begins.
  pub record IsBegun (fetch : Fetch) : Type 0 where
    pub last : ℕ
    pub size : suc last ≡ prelude_size fetch
    pub store : Begun last (moved (entry_of b))
    pub others : (k : ℕ) → k < last → (stack : List VerificationType) × Begun k (state E.locals stack) × (N (suc k) ≡ Some (state E.locals stack))

  array_stored : (k : ℕ) (fetch : Fetch) → insn_of named v (start fetch k) ≡ astore v → Step k (start fetch k) E_array (moved (entry_of b))
  array_stored k fetch is =
      let shifts = entry_shifts (image_of b first form) b p.well in
      ap (λ insn. apply (ground_of b' k) (step_of b'.uses (returns_of b') insn) E_array) is
      ∙ ap (with_stack (record E_array { locals = put_local v probes E_array.locals })) (limited_is b'.max_stack [] (omega arith))
      ∙ ap (λ (l : List VerificationType). Some (state l [])) (ap (λ (e : TypeState). put_local v probes e.locals) entry_same ∙ shifts)

  -- the method gives the array
  array_called : what_used b'.uses named.giver ≡ Some (giver_of fetches.Member p.class p.bootstrap) → Step 0 (start fetches.Member 0) E E_array
  unfolding types_from rest_from
  array_called giver =
      let most = p.max_stack in
      ap (λ o. apply (ground_of b' 0) (member_step opcode.invokestatic o) E) giver
      ∙ moves_gives (ground_of b' 0) probes E.locals [] (omega (arith, most))

  -- the constant is an object, which is cast to the class of the array
  constant_loaded : what_used b'.uses named.giver ≡ Some (giver_of fetches.Constant p.class p.bootstrap) → Step 0 (start fetches.Constant 0) E E_constant
  unfolding types_from rest_from
  constant_loaded giver =
      let most = p.max_stack in
      ap (λ o. apply (ground_of b' 0) (constant_step o) E) giver
      ∙ moves_gives (ground_of b' 0) anything E.locals [] (omega (arith, most))

  constant_cast : what_used b'.uses named.array ≡ Some (whats.Class data_type) → Step 1 (start fetches.Constant 1) E_constant E_array
  constant_cast array =
      let most = p.max_stack in
      ap (λ o. apply (ground_of b' 1) (class_step opcode.checkcast o) E_constant) array
      ∙ moves_one (ground_of b' 1) (one_form (wants.Reference ∷ []) (kind probes ∷ [])) E.locals [] (anything ∷ []) refl refl (omega (arith, most))

  state_first : (fetch : Fetch) → slice_get items 0 ≡ Some (start fetch 0) → N 0 ≡ Some E
  state_first fetch here = first_state new_names b' (no_frame_first 0 fetch 0 here)

  begun_by : (fetch : Fetch) → HasAt items 0 (prelude fetch) → NamesProbes fetch (giver_of fetch p.class p.bootstrap) first (probe_count b) b'.uses named
      → IsBegun fetch
  begun_by fetches.Member h names_probes = record {
    last = 1;
    size = refl;
    store = begun 1 (start fetches.Member 1) E_array (moved (entry_of b)) h.1.0 refl state_1 (array_stored 1 fetches.Member refl);
    others = others;
  }
    where
      call : Begun 0 E_array
      call = begun 0 (start fetches.Member 0) E E_array h.0 refl (state_first fetches.Member h.0) (array_called names_probes.giver_is)

      state_1 : N 1 ≡ Some E_array
      state_1 = begun_next 0 E_array call (no_frame_first 1 fetches.Member 1 h.1.0)

      others : (k : ℕ) → k < 1 → (stack : List VerificationType) × Begun k (state E.locals stack) × (N (suc k) ≡ Some (state E.locals stack))
      others zero lt = (probes ∷ [], call, state_1)
      others (suc k) lt = absurd (omega (arith, lt))
  begun_by fetches.Constant h names_probes = record {
    last = 2;
    size = refl;
    store = begun 2 (start fetches.Constant 2) E_array (moved (entry_of b)) h.1.1.0 refl state_2 (array_stored 2 fetches.Constant refl);
    others = others;
  }
    where
      load : Begun 0 E_constant
      load = begun 0 (start fetches.Constant 0) E E_constant h.0 refl (state_first fetches.Constant h.0) (constant_loaded names_probes.giver_is)

      state_1 : N 1 ≡ Some E_constant
      state_1 = begun_next 0 E_constant load (no_frame_first 1 fetches.Constant 1 h.1.0)

      cast : Begun 1 E_array
      cast = begun 1 (start fetches.Constant 1) E_constant E_array h.1.0 refl state_1 (constant_cast names_probes.array_is)

      state_2 : N 2 ≡ Some E_array
      state_2 = begun_next 1 E_array cast (no_frame_first 2 fetches.Constant 2 h.1.1.0)

      others : (k : ℕ) → k < 2 → (stack : List VerificationType) × Begun k (state E.locals stack) × (N (suc k) ≡ Some (state E.locals stack))
      others zero lt = (anything ∷ [], load, state_1)
      others (suc zero) lt = (probes ∷ [], cast, state_2)
      others (suc (suc k)) lt = absurd (omega (arith, lt))

  pub all_begun : IsBegun form.fetch
  all_begun = begun_by form.fetch (prelude_at b first form) p.names_probes

  pub state_0 : N 0 ≡ Some E
  state_0 = state_first form.fetch (starts_at b first form)

  -- the state before each instruction of the prelude has the local variables with which the method begins
  pub prelude_state : (q : ℕ) → q < prelude_size form.fetch → (stack : List VerificationType) × (N q ≡ Some (state E.locals stack))
  prelude_state zero lt = ([], state_0)
  prelude_state (suc k) lt = let size = all_begun.size in let o = all_begun.others k (omega (arith, size, lt)) in (o.0, o.2)
