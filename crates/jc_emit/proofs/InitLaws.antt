-- The method that is added to a class passes the kind check.
use Rattle.std.proofs.Common.{◌≡◌, inl, inr, ⊎_elim, ℕ, ℤ, zero, suc, ◌+◌, ◌<◌, List, [], ◌∷◌, length, map, Option, Some, None, is_some, refl, sym, ap, ◌∙◌, subst, arith, add-one, nat_eq, if◌then◌else◌}
use Rattle.std.specs.Prelude.{slice_get, Contains, ◌≢◌, codes}
use Rattle.std.proofs.lemmas.Option.{slice_get_within, same_Some}
use Rattle.jc_methods.specs.Flow.{flow_of, targets_of, FallsThrough, FallsInto}
use Rattle.jc_bytes.specs.Descriptor.{Array, Boolean}
use Rattle.jc_methods.specs.DescriptorTypes.{method_type_in, types_from, rest_from}
use Rattle.jc_methods.specs.Opcode as opcode
use Rattle.jc_methods.specs.declared.insn.Insn.{Insn}
use Rattle.jc_methods.specs.declared.body.Body.{Body}
use Rattle.jc_methods.specs.VerificationTypes.{Names, VerificationType, int, long, object, TypeState, type_state, type_state_at}
use Rattle.jc_methods.specs.EntryState.{in_locals, arguments, entry_of, entry_seen}
use Rattle.jc_kinds_after.specs.Step.{Step, apply}
use Rattle.jc_kinds_after.specs.Table.{table, forms_at}
use Rattle.jc_kinds_after.specs.After.{insn_at, new_class, ground_of, returns_of, member_step, constant_step, return_step, step_of, after_of}
use Rattle.jc_kinds_after.proofs.ApplyLaws.{after_is}
use Rattle.jc_kinds.specs.States.{frames_of, frame_at, state_of, after_at}
use Rattle.jc_kinds.specs.Checked.{Checked, LeadsTo, HasFrame, IsHandlerTarget, NeedsFrame, IsMissing}
use Rattle.std.proofs.lemmas.Bool.{lt-leb}
use Rattle.jc_bytes.proofs.BooleanLaws.{which_in, none_in, first_in}
use Rattle.jc_kinds.specs.Flows.{ThereBy, FlowsBy, IsFlow}
use Rattle.jc_emit.proofs.FlowLaws.{state_same, fit_there, kind_flow, fits_there_back}
use Rattle.jc_emit.proofs.PlacedLaws.{flow_push_by, no_targets}
use Rattle.jc_emit.proofs.TwinStatesLaws.{PushesInt, push_by_is, first_state, frame_state_is, next_state, after_there}
use Rattle.jc_methods.specs.declared.probe_members.Fetch.{Fetch}
use Rattle.jc_methods.specs.declared.probe_members.Fetch.TheVariants as fetches
use Rattle.jc_methods.specs.ProbeMembers.{data_name, data_type, init_name, init_type, init_flags, runtime_class, fetch_name, fetch_type, bootstrap_type, most_short}
use Rattle.jc_emit.specs.Added.{InitPlaces, push_count, init_code, bootstrap_code, init_stack, end_place, init_frame, HasCount, NamesCount, IsPlainMethod, IsInitBody, IsBootstrapBody, IsAddedBody}
use Rattle.jc_methods.specs.declared.insn.Insn.TheVariants as insns
use Rattle.jc_methods.specs.declared.insn.Flow.TheVariants as flows
use Rattle.jc_methods.specs.declared.body.What.TheVariants as whats

-- ---- a body each of whose instructions goes on well

pub record Sound (names : Names) (b : Body) (q : ℕ) : Type 0 where
  pub insn : Insn
  pub stands : insn_at b q ≡ Some insn
  pub before : TypeState
  pub state_is : state_of names b q ≡ Some before
  pub after : TypeState
  pub after_is : after_of b q before ≡ Some after
  pub next : FallsThrough insn → state_of names b (q + 1) ≡ Some after
  pub stops : (FallsThrough insn → ⊥) → q + 1 < length b.code → HasFrame b (q + 1)
  pub jumps : (r : ℕ) → Contains (targets_of insn) r → HasFrame b r × (state_of names b r ≡ Some after)

module _ (names : Names) (b : Body) (sound : (q : ℕ) → q < length b.code → Sound names b q) where
  after_there_too : (q : ℕ) (s : Sound names b q) → after_at names b q ≡ Some s.after
  after_there_too q s = after_there names b q s.before s.after s.state_is s.after_is

  -- the state where a branch leads is just the state after the instruction
  branch_is : (q r : ℕ) → LeadsTo b q r → (t : TypeState) × (after_at names b q ≡ Some t) × (state_of names b r ≡ Some t)
  branch_is q r (inl g) =
      let falls = g.0 in
      let s = sound q (slice_get_within b.code q falls.insn falls.stands) in
      let same : falls.insn ≡ s.insn = same_Some falls.insn s.insn (sym falls.stands ∙ s.stands) in
      (s.after, after_there_too q s, ap (state_of names b) g.1 ∙ s.next (subst FallsThrough same falls.falls))
  branch_is q r (inr j) =
      let s = sound q (slice_get_within b.code q j.insn j.stands) in
      let same : j.insn ≡ s.insn = same_Some j.insn s.insn (sym j.stands ∙ s.stands) in
      (s.after, after_there_too q s, (s.jumps r (subst (λ x. Contains (targets_of x) r) same j.target)).1)

  no_missing : (handlers : (r : ℕ) → IsHandlerTarget b r → HasFrame b r) → (r : ℕ) → IsMissing b r → ⊥
  no_missing handlers r m = by m.needs
    where
      by : NeedsFrame b r → ⊥
      by (inl j) =
          let jump = j.1 in
          let s = sound j.0 (slice_get_within b.code j.0 jump.insn jump.stands) in
          let same : jump.insn ≡ s.insn = same_Some jump.insn s.insn (sym jump.stands ∙ s.stands) in
          m.none (s.jumps r (subst (λ x. Contains (targets_of x) r) same jump.target)).0
      by (inr (inl t)) = m.none (handlers r t)
      by (inr (inr f)) = behind r m.within m.none f.0 f.1
        where
          behind : (r : ℕ) → r < length b.code → (HasFrame b r → ⊥) → r ≢ 0 → (FallsInto b r → ⊥) → ⊥
          behind zero lt none not free = not refl
          behind (suc q) lt none not free =
              let s = sound q (omega (arith, lt)) in
              let up = add-one q in
              none (subst (HasFrame b) up (s.stops (λ falls. free (q, sym up, record { insn = s.insn; stands = s.stands; falls = falls })) (omega (arith, lt))))

  -- a body without exception rows
  module _ (empty : b.handlers ≡ []) (entry : state_of names b 0 ≡ Some (entry_of b)) where
    pub sound_flows : {S : VerificationType → VerificationType → Type 0} → IsFlow S → FlowsBy S names b
    sound_flows {S} flow = record {
      entry = fit_there S (state_of names b 0) (entry_of b) (entry_of b) entry (state_same flow (entry_of b));
      branches = λ q r leads.
          let t = branch_is q r leads in
          subst (λ o. ThereBy S o (state_of names b r)) (sym t.1) (fit_there S (state_of names b r) t.0 t.0 t.2 (state_same flow t.0));
      handlers = λ h q guards lt. absurd (none_in h (subst (λ l. Contains l h) empty guards.row));
    }

    pub sound_checked : Checked names b
    sound_checked = record {
      none_missing = no_missing (λ r t. absurd (none_in t.0 (subst (λ l. Contains l t.0) empty t.1)));
      entry = fits_there_back (Some (entry_of b)) (state_of names b 0) (sound_flows kind_flow).entry;
      after = λ q lt. ap is_some (after_there_too q (sound q lt));
      branches = λ q r leads. fits_there_back (after_at names b q) (state_of names b r) ((sound_flows kind_flow).branches q r leads);
      handlers = λ h q guards lt. absurd (none_in h (subst (λ l. Contains l h) empty guards.row));
    }

-- ---- a method without tables, in which these local variables stay

count_flow : (places : InitPlaces) (count : ℕ) → flow_of (push_count places count) ≡ flows.GoesOn
count_flow places count = flow_push_by (λ k. places.count) count

abbrev A : List VerificationType
A = object data_type ∷ []

abbrev string : VerificationType
string = object (codes "java/lang/String")

module _ (names : Names) (class desc : List ℕ) (arg_slots max_locals : ℕ) (code : List Insn) (b : Body) (m : IsPlainMethod class desc arg_slots max_locals code b)
    (held : List VerificationType) where
  abbrev on : List VerificationType → TypeState
  on stack = record { locals = held; stack = stack }

  abbrev N : ℕ → Option TypeState
  N q = state_of names b q

  abbrev Stands : ℕ → Insn → Type 0
  Stands q insn = slice_get code q ≡ Some insn

  at : (q : ℕ) (insn : Insn) → Stands q insn → insn_at b q ≡ Some insn
  at q insn here = ap (λ (l : List Insn). slice_get l q) m.code_is ∙ here

  returns : returns_of b ≡ (method_type_in desc).returns
  returns = ap (λ d. (method_type_in d).returns) m.desc_is

  step : (q : ℕ) (insn : Insn) (st : Step) (s t : TypeState) → Stands q insn → step_of b.uses (returns_of b) insn ≡ st
      → apply (record { most = init_stack; place = q; owner = b.owner; class_at = λ k. new_class b.uses (insn_at b k) }) st s ≡ Some t
      → after_of b q s ≡ Some t
  step q insn st s t here is goes =
      after_is b q s insn (at q insn here)
      ∙ ap (λ x. apply (ground_of b q) x s) is
      ∙ ap (λ most. apply (record { most = most; place = q; owner = b.owner; class_at = λ k. new_class b.uses (insn_at b k) }) st s) m.max_stack
      ∙ goes

  -- one that goes on and jumps nowhere
  going : (q : ℕ) (insn : Insn) (s t : TypeState) → Stands q insn → flow_of insn ≡ flows.GoesOn → N q ≡ Some s → after_of b q s ≡ Some t
      → N (q + 1) ≡ Some t → Sound names b q
  going q insn s t here flow before after behind = record {
    insn = insn;
    stands = at q insn here;
    before = s;
    state_is = before;
    after = t;
    after_is = after;
    next = λ falls. behind;
    stops = λ halts. absurd (halts (inl flow));
    jumps = λ r c. absurd (none_in r (subst (λ l. Contains l r) (no_targets insn (inl flow)) c));
  }

  -- the array is returned, by the last instruction
  array_returned : (q : ℕ) → Stands q (insns.Simple opcode.areturn) → (method_type_in desc).returns ≡ Some (Array Boolean) → after_of b q (on A) ≡ Some (on [])
  unfolding forms_at table
  array_returned q here type =
      step q (insns.Simple opcode.areturn) _ (on A) (on []) here (ap (λ r. return_step r opcode.areturn) (returns ∙ type)) refl

  last_sound : (q : ℕ) → Stands q (insns.Simple opcode.areturn) → suc q ≡ length code → N q ≡ Some (on A) → (method_type_in desc).returns ≡ Some (Array Boolean)
      → Sound names b q
  last_sound q here end before type = record {
    insn = insns.Simple opcode.areturn;
    stands = at q _ here;
    before = on A;
    state_is = before;
    after = on [];
    after_is = array_returned q here type;
    next = λ falls. absurd (no_fall falls);
    stops = λ halts short. let l = ap (λ (x : List Insn). length x) m.code_is in absurd (omega (arith, l, end, short));
    jumps = λ r c. absurd (none_in r c);
  }
    where
      no_fall : FallsThrough (insns.Simple opcode.areturn) → ⊥
      no_fall h = ⊎_elim (λ x. cc) (λ x. cc) h

  -- ---- the array is fetched

  module _ (id : ℤ) (count : ℕ) (places : InitPlaces) (n : NamesCount class id count b.uses places) where
    abbrev L : List VerificationType
    L = long ∷ []

    abbrev LS : List VerificationType
    LS = long ∷ string ∷ []

    abbrev LSI : List VerificationType
    LSI = long ∷ string ∷ int ∷ []

    id_after : (q : ℕ) → Stands q (insns.Constant2 places.id) → after_of b q (on []) ≡ Some (on L)
    id_after q here = step q (insns.Constant2 places.id) (constant_step (Some (whats.Long id))) (on []) (on L) here (ap constant_step n.id_is) refl

    name_after : (q : ℕ) → Stands q (insns.Constant places.name) → after_of b q (on L) ≡ Some (on LS)
    name_after q here = step q (insns.Constant places.name) (constant_step (Some whats.Text)) (on L) (on LS) here (ap constant_step n.name_is) refl

    count_pushed : PushesInt b.uses (push_count places count)
    count_pushed = push_by_is (λ k. places.count) count b.uses (λ more. subst (λ t. HasCount t b.uses count places.count) (lt-leb count most_short more) n.count_is)

    count_after : (q : ℕ) → Stands q (push_count places count) → after_of b q (on LS) ≡ Some (on LSI)
    count_after q here = step q (push_count places count) _ (on LS) (on LSI) here (count_pushed (returns_of b)) refl

    fetch_after : (q : ℕ) → Stands q (insns.Member opcode.invokestatic places.fetch) → after_of b q (on LSI) ≡ Some (on A)
    unfolding types_from rest_from
    fetch_after q here =
        step q (insns.Member opcode.invokestatic places.fetch) (member_step opcode.invokestatic (Some (whats.Method runtime_class fetch_name fetch_type))) (on LSI) (on A) here
        (ap (member_step opcode.invokestatic) n.fetch_is) refl

-- ---- the method that keeps the array in a field

module _ (names : Names) (class : List ℕ) (id : ℤ) (count : ℕ) (b : Body) (i : IsInitBody names class id count b) where
  abbrev keeping : List Insn
  keeping = init_code i.places count

  abbrev has : List VerificationType → TypeState
  has stack = record { locals = []; stack = stack }

  abbrev M : ℕ → Option TypeState
  M q = state_of names b q

  -- the one frame
  framed : (q : ℕ) → frame_at (frames_of names b) q ≡ (if nat_eq end_place q then Some init_frame else None)
  framed q =
      let f = i.frames in
      ap (λ l. frame_at (map (type_state_at names) l) q) f.single
      ∙ ap (λ k. if nat_eq k q then Some (type_state names f.frame.state) else None) f.at
      ∙ ap (λ s. if nat_eq end_place q then Some s else None) f.state

  has_end : HasFrame b end_place
  has_end = (i.frames.frame, subst (λ l. Contains l i.frames.frame) (sym i.frames.single) (first_in i.frames.frame ([])), i.frames.at)

  step_is : (q : ℕ) (insn : Insn) (st : Step) (s t : TypeState) → slice_get keeping q ≡ Some insn → step_of b.uses (returns_of b) insn ≡ st
      → apply (record { most = init_stack; place = q; owner = b.owner; class_at = λ k. new_class b.uses (insn_at b k) }) st s ≡ Some t
      → after_of b q s ≡ Some t
  step_is = step names class init_type 0 0 keeping b i.method []

  goes : (q : ℕ) (insn : Insn) (s t : TypeState) → slice_get keeping q ≡ Some insn → flow_of insn ≡ flows.GoesOn → M q ≡ Some s → after_of b q s ≡ Some t
      → M (q + 1) ≡ Some t → Sound names b q
  goes = going names class init_type 0 0 keeping b i.method []

  next : (q : ℕ) (insn : Insn) (s t : TypeState) → slice_get keeping q ≡ Some insn → FallsThrough insn
      → (if nat_eq end_place (suc q) then Some init_frame else None) ≡ None → M q ≡ Some s → after_of b q s ≡ Some t → M (suc q) ≡ Some t
  next q insn s t here falls none before after =
      next_state names b q insn s t (framed (suc q) ∙ none) (at names class init_type 0 0 keeping b i.method [] q insn here) falls before after

  entry_is : entry_of b ≡ has []
  unfolding types_from rest_from
  entry_is = λ k. entry_seen (i.method.owner k) (i.method.name k) (i.method.desc_is k) (i.method.flags k) (i.method.max_locals_is k)

  abbrev AA : List VerificationType
  AA = object data_type ∷ A

  a0 : after_of b 0 (has []) ≡ Some (has A)
  unfolding types_from rest_from
  a0 = step_is 0 _ (member_step opcode.getstatic (Some (whats.Field class data_name data_type))) (has []) (has A) refl (ap (member_step opcode.getstatic) i.field_is) refl

  a1 : after_of b 1 (has A) ≡ Some (has AA)
  unfolding forms_at table
  a1 = step_is 1 (insns.Simple opcode.dup) _ (has A) (has AA) refl refl refl

  a2 : after_of b 2 (has AA) ≡ Some (has A)
  unfolding forms_at table
  a2 = step_is 2 (insns.Jump opcode.ifnonnull end_place) _ (has AA) (has A) refl refl refl

  a3 : after_of b 3 (has A) ≡ Some (has [])
  unfolding forms_at table
  a3 = step_is 3 (insns.Simple opcode.pop) _ (has A) (has []) refl refl refl

  a4 : after_of b 4 (has []) ≡ Some (has (long ∷ []))
  a4 = id_after names class init_type 0 0 keeping b i.method [] id count i.places i.names_count 4 refl

  a5 : after_of b 5 (has (long ∷ [])) ≡ Some (has (long ∷ string ∷ []))
  a5 = name_after names class init_type 0 0 keeping b i.method [] id count i.places i.names_count 5 refl

  a6 : after_of b 6 (has (long ∷ string ∷ [])) ≡ Some (has (long ∷ string ∷ int ∷ []))
  a6 = count_after names class init_type 0 0 keeping b i.method [] id count i.places i.names_count 6 refl

  a7 : after_of b 7 (has (long ∷ string ∷ int ∷ [])) ≡ Some (has A)
  a7 = fetch_after names class init_type 0 0 keeping b i.method [] id count i.places i.names_count 7 refl

  a8 : after_of b 8 (has A) ≡ Some (has AA)
  unfolding forms_at table
  a8 = step_is 8 (insns.Simple opcode.dup) _ (has A) (has AA) refl refl refl

  a9 : after_of b 9 (has AA) ≡ Some (has A)
  unfolding types_from rest_from
  a9 = step_is 9 _ (member_step opcode.putstatic (Some (whats.Field class data_name data_type))) (has AA) (has A) refl (ap (member_step opcode.putstatic) i.field_is) refl

  s0 : M 0 ≡ Some (has [])
  s0 = first_state names b (framed 0) ∙ ap Some entry_is

  s1 : M 1 ≡ Some (has A)
  s1 = next 0 _ (has []) (has A) refl (inl refl) refl s0 a0

  s2 : M 2 ≡ Some (has AA)
  s2 = next 1 _ (has A) (has AA) refl (inl refl) refl s1 a1

  s3 : M 3 ≡ Some (has A)
  s3 = next 2 _ (has AA) (has A) refl (inr refl) refl s2 a2

  s4 : M 4 ≡ Some (has [])
  s4 = next 3 _ (has A) (has []) refl (inl refl) refl s3 a3

  s5 : M 5 ≡ Some (has (long ∷ []))
  s5 = next 4 _ (has []) (has (long ∷ [])) refl (inl refl) refl s4 a4

  s6 : M 6 ≡ Some (has (long ∷ string ∷ []))
  s6 = next 5 _ (has (long ∷ [])) (has (long ∷ string ∷ [])) refl (inl refl) refl s5 a5

  s7 : M 7 ≡ Some (has (long ∷ string ∷ int ∷ []))
  s7 = next 6 (push_count i.places count) (has (long ∷ string ∷ [])) (has (long ∷ string ∷ int ∷ [])) refl (inl (count_flow i.places count)) refl s6 a6

  s8 : M 8 ≡ Some (has A)
  s8 = next 7 _ (has (long ∷ string ∷ int ∷ [])) (has A) refl (inl refl) refl s7 a7

  s9 : M 9 ≡ Some (has AA)
  s9 = next 8 _ (has A) (has AA) refl (inl refl) refl s8 a8

  s10 : M 10 ≡ Some (has A)
  s10 = frame_state_is names b 10 init_frame (framed 10)

  test_sound : Sound names b 2
  test_sound = record {
    insn = insns.Jump opcode.ifnonnull end_place;
    stands = at names class init_type 0 0 keeping b i.method [] 2 _ refl;
    before = has AA;
    state_is = s2;
    after = has A;
    after_is = a2;
    next = λ falls. s3;
    stops = λ halts. absurd (halts (inr refl));
    jumps = λ r c. ⊎_elim
        (λ same. subst (λ k. HasFrame b k × (M k ≡ Some (has A))) same (has_end, s10)) (λ more. absurd (none_in r more)) (which_in 10 ([]) r c);
  }

  end_sound : Sound names b 10
  unfolding types_from rest_from
  end_sound = last_sound names class init_type 0 0 keeping b i.method [] 10 refl refl s10 refl

  all_sound : (q : ℕ) → q < length b.code → Sound names b q
  all_sound zero lt = goes 0 _ (has []) (has A) refl refl s0 a0 s1
  all_sound (suc zero) lt = goes 1 _ (has A) (has AA) refl refl s1 a1 s2
  all_sound (suc (suc zero)) lt = test_sound
  all_sound (suc (suc (suc zero))) lt = goes 3 _ (has A) (has []) refl refl s3 a3 s4
  all_sound (suc (suc (suc (suc zero)))) lt = goes 4 _ (has []) (has (long ∷ [])) refl refl s4 a4 s5
  all_sound (suc (suc (suc (suc (suc zero))))) lt = goes 5 _ (has (long ∷ [])) (has (long ∷ string ∷ [])) refl refl s5 a5 s6
  all_sound (suc (suc (suc (suc (suc (suc zero)))))) lt =
      goes 6 (push_count i.places count) (has (long ∷ string ∷ [])) (has (long ∷ string ∷ int ∷ [])) refl (count_flow i.places count) s6 a6 s7
  all_sound (suc (suc (suc (suc (suc (suc (suc zero))))))) lt = goes 7 _ (has (long ∷ string ∷ int ∷ [])) (has A) refl refl s7 a7 s8
  all_sound (suc (suc (suc (suc (suc (suc (suc (suc zero)))))))) lt = goes 8 _ (has A) (has AA) refl refl s8 a8 s9
  all_sound (suc (suc (suc (suc (suc (suc (suc (suc (suc zero))))))))) lt = goes 9 _ (has AA) (has A) refl refl s9 a9 s10
  all_sound (suc (suc (suc (suc (suc (suc (suc (suc (suc (suc zero)))))))))) lt = end_sound
  all_sound (suc (suc (suc (suc (suc (suc (suc (suc (suc (suc (suc q))))))))))) lt =
      let l = ap (λ (x : List Insn). length x) i.method.code_is in absurd (omega (arith, l, lt))

  init_begins : M 0 ≡ Some (entry_of b)
  init_begins = s0 ∙ ap Some (sym entry_is)

  init_checked : Checked names b
  init_checked = sound_checked names b all_sound i.method.handlers init_begins

  init_flows : {S : VerificationType → VerificationType → Type 0} → IsFlow S → FlowsBy S names b
  init_flows flow = sound_flows names b all_sound i.method.handlers init_begins flow

-- ---- the bootstrap method

module _ (names : Names) (class : List ℕ) (id : ℤ) (count : ℕ) (b : Body) (i : IsBootstrapBody class id count b) where
  abbrev fetching : List Insn
  fetching = bootstrap_code i.places count

  -- its arguments stay in its local variables
  abbrev given : List VerificationType
  given = in_locals 3 (arguments class init_name bootstrap_type init_flags)

  abbrev beside : List VerificationType → TypeState
  beside stack = record { locals = given; stack = stack }

  abbrev B : ℕ → Option TypeState
  B q = state_of names b q

  no_frame : (q : ℕ) → frame_at (frames_of names b) q ≡ None
  no_frame q = ap (λ l. frame_at (map (type_state_at names) l) q) i.frames

  follows : (q : ℕ) (insn : Insn) (s t : TypeState) → slice_get fetching q ≡ Some insn → flow_of insn ≡ flows.GoesOn → B q ≡ Some s
      → after_of b q s ≡ Some t → B (suc q) ≡ Some t
  follows q insn s t here flow before after =
      next_state names b q insn s t (no_frame (suc q)) (at names class bootstrap_type 3 3 fetching b i.method given q insn here) (inl flow) before after

  keeps_on : (q : ℕ) (insn : Insn) (s t : TypeState) → slice_get fetching q ≡ Some insn → flow_of insn ≡ flows.GoesOn → B q ≡ Some s
      → after_of b q s ≡ Some t → B (q + 1) ≡ Some t → Sound names b q
  keeps_on = going names class bootstrap_type 3 3 fetching b i.method given

  given_first : entry_of b ≡ beside []
  given_first = λ k. entry_seen (i.method.owner k) (i.method.name k) (i.method.desc_is k) (i.method.flags k) (i.method.max_locals_is k)

  b0 : after_of b 0 (beside []) ≡ Some (beside (long ∷ []))
  b0 = id_after names class bootstrap_type 3 3 fetching b i.method given id count i.places i.names_count 0 refl

  b1 : after_of b 1 (beside (long ∷ [])) ≡ Some (beside (long ∷ string ∷ []))
  b1 = name_after names class bootstrap_type 3 3 fetching b i.method given id count i.places i.names_count 1 refl

  b2 : after_of b 2 (beside (long ∷ string ∷ [])) ≡ Some (beside (long ∷ string ∷ int ∷ []))
  b2 = count_after names class bootstrap_type 3 3 fetching b i.method given id count i.places i.names_count 2 refl

  b3 : after_of b 3 (beside (long ∷ string ∷ int ∷ [])) ≡ Some (beside A)
  b3 = fetch_after names class bootstrap_type 3 3 fetching b i.method given id count i.places i.names_count 3 refl

  t0 : B 0 ≡ Some (beside [])
  t0 = first_state names b (no_frame 0) ∙ ap Some given_first

  t1 : B 1 ≡ Some (beside (long ∷ []))
  t1 = follows 0 _ (beside []) (beside (long ∷ [])) refl refl t0 b0

  t2 : B 2 ≡ Some (beside (long ∷ string ∷ []))
  t2 = follows 1 _ (beside (long ∷ [])) (beside (long ∷ string ∷ [])) refl refl t1 b1

  t3 : B 3 ≡ Some (beside (long ∷ string ∷ int ∷ []))
  t3 = follows 2 (push_count i.places count) (beside (long ∷ string ∷ [])) (beside (long ∷ string ∷ int ∷ [])) refl (count_flow i.places count) t2 b2

  t4 : B 4 ≡ Some (beside A)
  t4 = follows 3 _ (beside (long ∷ string ∷ int ∷ [])) (beside A) refl refl t3 b3

  return_sound : Sound names b 4
  unfolding types_from rest_from
  return_sound = last_sound names class bootstrap_type 3 3 fetching b i.method given 4 refl refl t4 refl

  each_sound : (q : ℕ) → q < length b.code → Sound names b q
  each_sound zero lt = keeps_on 0 _ (beside []) (beside (long ∷ [])) refl refl t0 b0 t1
  each_sound (suc zero) lt = keeps_on 1 _ (beside (long ∷ [])) (beside (long ∷ string ∷ [])) refl refl t1 b1 t2
  each_sound (suc (suc zero)) lt =
      keeps_on 2 (push_count i.places count) (beside (long ∷ string ∷ [])) (beside (long ∷ string ∷ int ∷ [])) refl (count_flow i.places count) t2 b2 t3
  each_sound (suc (suc (suc zero))) lt = keeps_on 3 _ (beside (long ∷ string ∷ int ∷ [])) (beside A) refl refl t3 b3 t4
  each_sound (suc (suc (suc (suc zero)))) lt = return_sound
  each_sound (suc (suc (suc (suc (suc q))))) lt =
      let l = ap (λ (x : List Insn). length x) i.method.code_is in absurd (omega (arith, l, lt))

  bootstrap_begins : B 0 ≡ Some (entry_of b)
  bootstrap_begins = t0 ∙ ap Some (sym given_first)

  bootstrap_checked : Checked names b
  bootstrap_checked = sound_checked names b each_sound i.method.handlers bootstrap_begins

  bootstrap_flows : {S : VerificationType → VerificationType → Type 0} → IsFlow S → FlowsBy S names b
  bootstrap_flows flow = sound_flows names b each_sound i.method.handlers bootstrap_begins flow

pub verified : (fetch : Fetch) (names : List (List ℕ)) (class : List ℕ) (id : ℤ) (count : ℕ) (b : Body) → IsAddedBody fetch names class id count b
    → Checked names b
verified fetches.Member names class id count b i = init_checked names class id count b i
verified fetches.Constant names class id count b i = bootstrap_checked names class id count b i

-- it flows along each relation that twins keep
pub added_flows : {S : VerificationType → VerificationType → Type 0} → IsFlow S → (fetch : Fetch) (names : List (List ℕ)) (class : List ℕ) (id : ℤ) (count : ℕ)
    (b : Body) → IsAddedBody fetch names class id count b → FlowsBy S names b
added_flows flow fetches.Member names class id count b i = init_flows names class id count b i flow
added_flows flow fetches.Constant names class id count b i = bootstrap_flows names class id count b i flow
