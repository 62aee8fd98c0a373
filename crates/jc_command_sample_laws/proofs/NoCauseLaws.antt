-- No cause refuses the class of a sample.
use Rattle.std.proofs.Common.{◌≡◌, ◌⊎◌, inl, inr, ℕ, zero, suc, ◌+◌, ◌<◌, ◌≤◌, Bool, true, false, List, [], ◌∷◌, ◌++◌, length, map, get_or, codes, Some, None, Contains, refl, sym, ◌∙◌, ap, subst, arith}
use Rattle.std.specs.Prelude.{slice_get}
use Rattle.std.specs.List.{AllByRecursion, range_with_len}
use Rattle.std.proofs.lemmas.List.FromFn.{length-map-range_with_len}
use Rattle.std.proofs.lemmas.Option.{none-some, same_Some}
use Rattle.jc_bytes.specs.Decoder.{◌>>=◌}
use Rattle.jc_bytes.specs.declared.refusal.Refusal.{Refusal}
use Rattle.jc_bytes.specs.declared.refusal.RefusalKind.{RefusalKind}
use Rattle.jc_bytes.specs.declared.refusal.RefusalKind.TheVariants as kinds
use Rattle.jc_bytes.proofs.BooleanLaws.{none_in, which_in}
use Rattle.jc_bytes.proofs.ListLaws.{all_at, head_is, stands_at}
use Rattle.jc_methods.specs.ProbeMembers.{init_name, data_name, runtime_class, fetch_of}
use Rattle.jc_methods.specs.WellMade.{kind_slots}
use Rattle.jc_methods.specs.declared.body.Body.{Body}
use Rattle.jc_methods.specs.declared.body.FrameAt.{FrameAt}
use Rattle.jc_methods.specs.declared.insn.Insn.{Insn}
use Rattle.jc_methods.specs.declared.kind.Kind.TheVariants as kind
use Rattle.jc_methods.specs.declared.probe_members.Fetch.{Fetch}
use Rattle.jc_methods.specs.declared.probe_members.Fetch.TheVariants as fetches
use Rattle.jc_pool.specs.declared.entry.Entry.TheVariants as entry
use Rattle.jc_pool.specs.Lookup.{entry_of, utf8_of, class_in, class_name_of}
use Rattle.jc_pool.specs.Pool.{PoolValue}
use Rattle.jc_class.specs.declared.class_file.ClassFile.{ClassFile}
use Rattle.jc_class.specs.declared.class_file.Member.{Member}
use Rattle.jc_class.proofs.FirstBadLaws.{apart, one_class_of}
use Rattle.jc_body.proofs.AnswerLaws.{body_or_fault}
use Rattle.jc_kinds.specs.StateShift.{IsStraddled}
use Rattle.jc_kinds.proofs.CheckLaws.{checked_not_missing, checked_not_clash}
use Rattle.jc_kinds_after.specs.Shift.{Straddles}
use Rattle.jc_layout.specs.Layout.{chosen_length}
use Rattle.jc_plan.specs.Probed.{first_id}
use Rattle.jc_emit.specs.Written.{integer_in}
use Rattle.jc_instrument.specs.Bodies.{AreBodiesUnless}
use Rattle.jc_instrument.specs.Causes.{Cause, Never, NoCause, IsFirstCause, unless}
use Rattle.jc_instrument.specs.Constants.{probed_code}
use Rattle.jc_instrument.specs.Reasons.{WrongVersion, HasAdded, IsInstrumented, IsInterfaceWithBody, HasSubroutine, HasBadCode, LacksFrame, HasClash, IsFaulty, class_causes, interface_causes, code_causes}
use Rattle.jc_instrument.specs.Refused.{Reason, probe_causes}
use Rattle.jc_instrument.specs.RoomCauses.{HasStraddling, HasTooManyProbes, HasFullMembers, HasBadBootstraps, HasFullLocals, HasFullStack, IsTooLarge, HasTooLargeCode, HasFullPool, room_causes}
use Rattle.jc_instrument.specs.declared.constants.ProbeConstants.{ProbeConstants}
use Rattle.jc_instrument.proofs.CauseLaws.{first_or_none, never_in_method}
use Rattle.jc_command_sample_laws.specs.SampleClass.{sample_pool, sample_method, sample_class_file}
use Rattle.jc_command_sample.specs.SampleFile.{method_name, sample_file}
use Rattle.jc_command_sample_laws.proofs.SampleTextLaws.{text_at, sample_is_text}
use Rattle.jc_command_sample_laws.proofs.SampleBodyLaws.{sample_body, sample_insns, sample_frame, is_body}
use Rattle.jc_command_sample_laws.proofs.SampleExactLaws.{method_below, exact, passes, not_alone, class_probes}
use Rattle.jc_command_sample_laws.proofs.SampleCodeLaws.{code_most}

-- ---- the class as a whole

pub never_version : (n : ℕ) → Never (WrongVersion (sample_class_file n))
never_version n r w = by w.outside
  where
    by : (52 < 50) ⊎ (65 < 52) → ⊥
    by (inl less) = omega (arith, less)
    by (inr less) = omega (arith, less)

-- a method's name begins with `m`, and those of the added members with `$`
other_name : (k : ℕ) (rest : List ℕ) → method_name k ≡ 36 ∷ rest → ⊥
other_name k rest e = let first : 109 ≡ 36 = head_is e in omega (arith, first)

-- the names of methods are no classes
no_class : (pool : PoolValue) (a m j : ℕ)
    → (do
      e ← entry_of (map (λ k. Some (entry.Utf8 (method_name k))) (range_with_len a m)) j
      name ← class_in e
      utf8_of pool name) ≡ None
no_class pool a zero j = refl
no_class pool a (suc m) zero = refl
no_class pool a (suc m) (suc j) = no_class pool (a + 1) m j

not_runtime : (first : ℕ) (rest : List ℕ) → first < 111 → Some (first ∷ rest) ≡ Some runtime_class → ⊥
not_runtime first rest less e = let same : first ≡ 111 = head_is (same_Some (first ∷ rest) runtime_class e) in omega (arith, same, less)

no_runtime : (n place : ℕ) → class_name_of (sample_pool n) place ≡ Some runtime_class → ⊥
unfolding class_name_of utf8_of
no_runtime n zero e = none-some runtime_class e
no_runtime n (suc zero) e = none-some runtime_class e
no_runtime n (suc (suc zero)) e = not_runtime 83 (codes "ample") (omega arith) e
no_runtime n (suc (suc (suc zero))) e = none-some runtime_class e
no_runtime n (suc (suc (suc (suc zero)))) e = not_runtime 106 (codes "ava/lang/Object") (omega arith) e
no_runtime n (suc (suc (suc (suc (suc zero))))) e = none-some runtime_class e
no_runtime n (suc (suc (suc (suc (suc (suc zero)))))) e = none-some runtime_class e
no_runtime n (suc (suc (suc (suc (suc (suc (suc zero))))))) e = none-some runtime_class e
no_runtime n (suc (suc (suc (suc (suc (suc (suc (suc j)))))))) e = none-some runtime_class (sym (no_class (sample_pool n) 0 n j) ∙ e)

module _ (n : ℕ) (some : 1 ≤ n) (within : n ≤ 1000) where
  abbrev c : ClassFile
  c = sample_class_file n

  no_added_method : (member : Member) → Contains c.methods member → (utf8_of c.pool member.name ≡ Some init_name) ⊎ (utf8_of c.pool member.name ≡ Some data_name) → ⊥
  no_added_method member there = by (stands_at c.methods member there)
    where
      by : (k : ℕ) × (slice_get c.methods k ≡ Some member) → (utf8_of c.pool member.name ≡ Some init_name) ⊎ (utf8_of c.pool member.name ≡ Some data_name) → ⊥
      by (k, at) = of
        where
          found : (k < n) × (sample_method k ≡ member)
          found = method_below n within k member at

          named : utf8_of c.pool member.name ≡ Some (method_name k)
          named = ap (λ (m : Member). utf8_of c.pool m.name) (sym found.1) ∙ text_at n k found.0

          of : (utf8_of c.pool member.name ≡ Some init_name) ⊎ (utf8_of c.pool member.name ≡ Some data_name) → ⊥
          of (inl e) = other_name k (codes "jacocoInit") (same_Some (method_name k) init_name (sym named ∙ e))
          of (inr e) = other_name k (codes "jacocoData") (same_Some (method_name k) data_name (sym named ∙ e))

  never_instrumented : Never (IsInstrumented c)
  never_instrumented r i = by i.is
    where
      by : HasAdded c → ⊥
      by (inl field) = none_in field.0 field.1
      by (inr (inl method)) = no_added_method method.0 method.1 method.2
      by (inr (inr names)) = no_runtime n names.0 names.1

  never_interface : Never (IsInterfaceWithBody c)
  never_interface r i = no i.interface
    where
      no : false ≡ true → ⊥
      no e = cc

  -- ---- its methods

  never_faulty : (kind : RefusalKind) (number place : ℕ) → IsFaulty c kind number place → ⊥
  never_faulty kind number place f = body_or_fault [] c number (sample_body number) _ (is_body [] n number within (method_below n within number f.method f.at).0) f

  never_subroutine : Never (HasSubroutine c)
  never_subroutine = never_in_method kinds.Subroutine _ (never_faulty kinds.Subroutine)

  never_bad_code : Never (HasBadCode c)
  never_bad_code = never_in_method kinds.BadCode _ (never_faulty kinds.BadCode)

  never_lacks : Never (LacksFrame c)
  never_lacks = never_in_method kinds.FrameMissing _ (λ number place o. checked_not_missing o.names o.body place (passes n within o.names number o.body o.is) o.holds)

  never_clash : Never (HasClash c)
  never_clash = never_in_method kinds.FrameClash _ (λ number place o. checked_not_clash o.names o.body place (passes n within o.names number o.body o.is) o.holds)

  pub no_code_cause : NoCause (code_causes c)
  no_code_cause = (never_subroutine, (never_bad_code, (never_lacks, (never_clash, tt))))

  -- ---- room

  one_slot_each : (k : ℕ) → AllByRecursion (λ insn. Straddles 1 insn → ⊥) (sample_insns k)
  one_slot_each k = (pair, ((λ s. s), ((λ s. s), ((λ s. s), (pair, ((λ s. s), ((λ s. s), ((λ s. s), tt))))))))
    where
      pair : (false ≡ true) × (0 + 1 ≡ 1) → ⊥
      pair (e, f) = cc

  no_straddled : (k i : ℕ) → IsStraddled (sample_body k) i → ⊥
  no_straddled k i (inl (insn, at, s)) = all_at (λ (x : Insn). Straddles 1 x → ⊥) (sample_insns k) i insn (one_slot_each k) at s
  no_straddled k i (inr (f, there, at, s)) = by (which_in sample_frame [] f there)
    where
      of : (j : ℕ) → j + 1 ≡ 1 → kind_slots (get_or sample_frame.state.locals j kind.Top) ≡ 2 → ⊥
      of zero last e = (let two : 1 ≡ 2 = e in omega (arith, two))
      of (suc j) last e = omega (arith, last)

      by : (sample_frame ≡ f) ⊎ Contains [] f → ⊥
      by (inl same) = of s.0 s.1 (ap (λ (g : FrameAt). kind_slots (get_or g.state.locals s.0 kind.Top)) same ∙ s.2)
      by (inr none) = none_in f none

  never_straddling : Never (HasStraddling c)
  never_straddling = never_in_method kinds.StraddlingLocal _
      (λ number place o. no_straddled number place (subst (λ (b : Body). IsStraddled b place) (exact n within o.names number o.body o.is) o.holds.there))

  never_many : Never (HasTooManyProbes c)
  never_many r t = let count = class_probes n some within t.bodies t.are in let more = t.many in omega (arith, count, more, within)

  never_full_members : Never (HasFullMembers c)
  unfolding fetch_of
  never_full_members r f = by f.full
    where
      by : (length c.fields ≡ 65535) ⊎ (length c.methods ≡ 65535) → ⊥
      by (inl none) = omega (arith, none)
      by (inr full) = let count = length-map-range_with_len sample_method 0 n in omega (arith, count, full, within)

  never_bad_bootstraps : Never (HasBadBootstraps c)
  unfolding fetch_of
  never_bad_bootstraps r b = no b.by_constant
    where
      no : fetches.Member ≡ fetches.Constant → ⊥
      no e = cc

  never_full_locals : Never (HasFullLocals c)
  never_full_locals = never_in_method kinds.LocalsFull _
      (λ number place o. (let one = ap (λ (b : Body). b.max_locals) (exact n within o.names number o.body o.is) in let full = o.holds.0 in omega (arith, one, full)))

  never_full_stack : Never (HasFullStack c)
  never_full_stack = never_in_method kinds.StackFull _
      (λ number place o. (let two = ap (λ (b : Body). b.max_stack) (exact n within o.names number o.body o.is) in let full = o.holds.0 in omega (arith, two, full)))

  -- ---- the size of code

  member_fetch : fetch_of 52 ≡ fetches.Member
  unfolding fetch_of
  member_fetch = refl

  small : (constants : ProbeConstants) (k first : ℕ) → constants.fetch ≡ fetches.Member → chosen_length (probed_code constants (sample_body k) first) ≤ 288
  small constants k first is =
      subst (λ (f : Fetch). chosen_length (probed_code (record constants { fetch = f }) (sample_body k) first) ≤ 288) (sym is)
      (code_most k first (integer_in constants.integers))

  never_too_large : Never (HasTooLargeCode c)
  never_too_large = never_in_method kinds.CodeTooLarge _ too_large
    where
      too_large : (number place : ℕ) → IsTooLarge c number place → ⊥
      too_large number place t =
          let bodies = subst (λ (b : Bool). AreBodiesUnless b t.are.names c t.bodies) (not_alone n some) t.are.are in
          let is = exact n within t.are.names t.body.method t.body (bodies.each t.index t.body t.stands) in
          let few = subst (λ (b : Body). chosen_length (probed_code t.constants b (first_id t.bodies t.index)) ≤ 288) (sym is)
          (small t.constants t.body.method (first_id t.bodies t.index) (t.loads.gets.fetch_is ∙ member_fetch)) in
          let size = t.size in
          let large = t.large in
          omega (arith, few, size, large)

  -- ---- the whole

  abbrev Causes : (id : ℕ) → Bool → List Cause
  Causes id stays = (class_causes c ++ unless stays (interface_causes c ++ code_causes c)) ++ unless stays (room_causes id c)

  abbrev pub HasPoolRoom : Type 0
  HasPoolRoom = (id : ℕ) → Never (HasFullPool id c)

  no_cause : HasPoolRoom → (id : ℕ) → NoCause (probe_causes id c)
  no_cause room id =
      subst (λ (stays : Bool). NoCause (Causes id stays)) (sym (not_alone n some)) (
        never_version n,
        (
          never_instrumented,
          (
            never_interface,
            (
              never_subroutine,
              (
                never_bad_code,
                (
                  never_lacks,
                  (
                    never_clash,
                    (
                      never_straddling,
                      (
                        never_many,
                        (
                          never_full_members,
                          (
                            never_bad_bootstraps,
                            (
                              never_full_locals,
                              (
                                never_full_stack,
                                (never_too_large, (room id, tt)),
                              ),
                            ),
                          ),
                        ),
                      ),
                    ),
                  ),
                ),
              ),
            ),
          ),
        ),
      )

  -- it isn't refused
  pub not_refused : HasPoolRoom → (r : Refusal) → Reason (sample_file n) (Some r) → ⊥
  not_refused room r (inl bad) = apart (sample_file n) c r.place (sample_is_text n some within) bad.1
  not_refused room r (inr first) =
      first_or_none (probe_causes _ c) r (no_cause room _)
      (subst (λ (x : ClassFile). IsFirstCause (probe_causes _ x) r) (one_class_of (sample_file n) first.0 c first.1 (sample_is_text n some within)) first.2)
