-- Each cause for which a class file isn't analysed gives a refusal, or none.
use Rattle.std.proofs.Common.{◌≡◌, ◌⊎◌, inl, inr, ℕ, ◌<◌, ◌≤◌, true, ◌++◌, length, get_or, Some, None, slice_get, refl, sym, ◌∙◌, ap, arith}
use Rattle.std.proofs.lemmas.Bool.{cases_lt}
use Rattle.std.proofs.lemmas.Option.{same_Some, slice_get_within, slice_get_cases}
use Rattle.jc_methods.specs.VerificationTypes.{Names}
use Rattle.jc_methods.specs.declared.body.Body.{Body}
use Rattle.jc_bytes.specs.declared.refusal.Refusal.{Refusal}
use Rattle.jc_bytes.specs.declared.refusal.RefusalKind.{RefusalKind}
use Rattle.jc_bytes.specs.declared.refusal.RefusalKind.TheVariants as kinds
use Rattle.jc_methods.proofs.StartsLaws.{some_insn}
use Rattle.jc_pool.specs.Lookup.{utf8_of, class_name_of}
use Rattle.jc_class.specs.Writable.{IsClassFile}
use Rattle.jc_class.specs.declared.class_file.ClassFile.{ClassFile}
use Rattle.jc_class.specs.declared.class_file.Member.{Member}
use Rattle.jc_insn.proofs.DecodedInsnLaws.{are_starts}
use Rattle.jc_body.specs.BodyOf.{BodyOf, FaultOf}
use Rattle.jc_body.proofs.AnswerLaws.{bodiless_or_body, bodiless_or_fault, body_or_fault}
use Rattle.jc_body.proofs.EachMethodLaws.{Answer, each_answer}
use Rattle.jc_kinds.specs.Checked.{Checked, FirstMissing, FirstClash}
use Rattle.jc_kinds.proofs.CheckLaws.{each_verdict, checked_not_missing, checked_not_clash, missing_not_clash}
use Rattle.jc_methods.specs.ProbeMembers.{init_name, data_name, runtime_class}
use Rattle.jc_instrument.specs.Causes.{unless, of_class, of_method, InMethod}
use Rattle.jc_instrument.specs.LeftAlone.{has_flag, has_code, is_left_alone}
use Rattle.jc_instrument.specs.Reasons.{IsOutside, WrongVersion, HasAddedName, SomeAdded, NamesRuntime, HasAdded, IsInstrumented, HasCodeAt, IsInterfaceWithBody, IsFaulty, OfBody, class_causes, interface_causes, code_causes, analysis_causes}
use Rattle.jc_instrument.proofs.DecidedLaws.{OrNot, either_or_not, true_or_not, text_or_not, some_or_none, some_below, IsDecided, AreDecided, both_decided, unless_decided, AtSomePlace, in_method_decided}
use Rattle.jc_instrument.proofs.OneBodyLaws.{same_body}
use Rattle.jc_instrument.proofs.PoolTextLaws.{no_class_past}
use Rattle.jc_instrument.proofs.ReadingLaws.{fault_cases, not_both}
use Rattle.jc_instrument_reread.proofs.SameBodyLaws.{AreSame, same_missing, same_clash}

-- ---- the class as a whole

module _ (c : ClassFile) where
  version_decided : IsDecided (WrongVersion c)
  version_decided = by (cases_lt c.major 50) (cases_lt 65 c.major)
    where
      wrong : IsOutside c.major → IsDecided (WrongVersion c)
      wrong outside = inl (of_class kinds.Version c.major, record { outside = outside; refusal = refl })

      within : 50 ≤ c.major → c.major ≤ 65 → IsOutside c.major → ⊥
      within least most (inl low) = omega (arith, least, low)
      within least most (inr high) = omega (arith, most, high)

      by : (c.major < 50) ⊎ (50 ≤ c.major) → (65 < c.major) ⊎ (c.major ≤ 65) → IsDecided (WrongVersion c)
      by (inl low) high = wrong (inl low)
      by (inr least) (inl high) = wrong (inr high)
      by (inr least) (inr most) = inr (λ r w. within least most w.outside)

  added_or_not : (member : Member) → OrNot (HasAddedName c.pool member)
  added_or_not member =
      either_or_not (utf8_of c.pool member.name ≡ Some init_name) (utf8_of c.pool member.name ≡ Some data_name)
      (text_or_not (utf8_of c.pool member.name) init_name) (text_or_not (utf8_of c.pool member.name) data_name)

  abbrev IsRuntime : ℕ → Type 0
  IsRuntime place = class_name_of c.pool place ≡ Some runtime_class

  runtime_or_not : OrNot (NamesRuntime c.pool)
  runtime_or_not = by (some_below IsRuntime (λ place. text_or_not (class_name_of c.pool place) runtime_class) (length c.pool))
    where
      none : ((place : ℕ) → place < length c.pool → IsRuntime place → ⊥) → (place : ℕ) → IsRuntime place
          → (place < length c.pool) ⊎ (length c.pool ≤ place) → ⊥
      none before place is (inl within) = before place within is
      none before place is (inr past) = no_class_past c.pool place runtime_class past is

      by : ((place : ℕ) × IsRuntime place) ⊎ ((place : ℕ) → place < length c.pool → IsRuntime place → ⊥) → OrNot (NamesRuntime c.pool)
      by (inl found) = inl found
      by (inr before) = inr (λ named. none before named.0 named.1 (cases_lt named.0 (length c.pool)))

  instrumented_decided : IsDecided (IsInstrumented c)
  instrumented_decided =
      by (either_or_not (SomeAdded c.pool c.fields) (SomeAdded c.pool c.methods ⊎ NamesRuntime c.pool)
      (some_or_none (HasAddedName c.pool) added_or_not c.fields)
      (either_or_not (SomeAdded c.pool c.methods) (NamesRuntime c.pool)
      (some_or_none (HasAddedName c.pool) added_or_not c.methods) runtime_or_not))
    where
      by : OrNot (HasAdded c) → IsDecided (IsInstrumented c)
      by (inl is) = inl (of_class kinds.AlreadyInstrumented 0, record { is = is; refusal = refl })
      by (inr none) = inr (λ r i. none i.is)

  -- ---- methods with code

  code_at : (number : ℕ) → number < length c.methods → AtSomePlace (HasCodeAt c) number
  code_at number less = by (slice_get_cases c.methods number).1
    where
      with_method : (method : Member) → slice_get c.methods number ≡ Some method → OrNot (has_code c.pool method ≡ true)
          → AtSomePlace (HasCodeAt c) number
      with_method method at (inl has) = inl (0, (method, at, has, refl))
      with_method method at (inr none) = inr (λ place f. none (ap (has_code c.pool) (same_Some method f.0 (sym at ∙ f.1)) ∙ f.2))

      by : ((method : Member) × (number < length c.methods) × (slice_get c.methods number ≡ Some method) ×
          (get_or c.methods number method ≡ method)) ⊎ ((length c.methods ≤ number) × (slice_get c.methods number ≡ None))
          → AtSomePlace (HasCodeAt c) number
      by (inl found) = with_method found.0 found.2 (true_or_not (has_code c.pool found.0))
      by (inr past) = let most = past.0 in absurd (omega (arith, less, most))

  interface_decided : IsDecided (IsInterfaceWithBody c)
  interface_decided = by (true_or_not (has_flag 0x0200 c.flags))
      (in_method_decided kinds.InterfaceBody (HasCodeAt c) (length c.methods) code_at
      (λ number place f. slice_get_within c.methods number f.0 f.1))
    where
      by : OrNot (has_flag 0x0200 c.flags ≡ true) → IsDecided (InMethod kinds.InterfaceBody (HasCodeAt c))
          → IsDecided (IsInterfaceWithBody c)
      by (inl is) (inl found) = inl (found.0, record { interface = is; method = found.1 })
      by (inl is) (inr none) = inr (λ r i. none r i.method)
      by (inr other) found = inr (λ r i. other i.interface)

-- ---- methods with faults

subroutine_or_bad : kinds.Subroutine ≡ kinds.BadCode → ⊥
subroutine_or_bad e = cc

module _ (c : ClassFile) (is : IsClassFile c) where
  abbrev FaultCases : ℕ → Refusal → Type 0
  FaultCases number r =
      ((r ≡ of_method kinds.Subroutine number r.place) × IsFaulty c kinds.Subroutine number r.place)
      ⊎ ((r ≡ of_method kinds.BadCode number r.place) × IsFaulty c kinds.BadCode number r.place)

  module _ (kind : RefusalKind) (by_fault : (number : ℕ) (r : Refusal) → FaultOf c number r → FaultCases number r
      → AtSomePlace (IsFaulty c kind) number) where
    faulty_at : (number : ℕ) → number < length c.methods → AtSomePlace (IsFaulty c kind) number
    faulty_at number less = by (each_answer c number is less)
      where
        by : Answer c number → AtSomePlace (IsFaulty c kind) number
        by (inl none) = inr (λ place f. bodiless_or_fault c number (of_method kind number place) none f)
        by (inr (inl found)) = inr (λ place f. body_or_fault found.0 c number found.1 (of_method kind number place) found.3 f)
        by (inr (inr fault)) = by_fault number fault.0 fault.1 (fault_cases c number fault.0 fault.1)

  pub subroutine_at : (number : ℕ) → number < length c.methods → AtSomePlace (IsFaulty c kinds.Subroutine) number
  subroutine_at number less = faulty_at kinds.Subroutine by number less
    where
      by : (number : ℕ) (r : Refusal) → FaultOf c number r → FaultCases number r → AtSomePlace (IsFaulty c kinds.Subroutine) number
      by number r f (inl here) = inl (r.place, here.1)
      by number r f (inr bad) = inr (λ place faulty. not_both c number kinds.Subroutine r place
          (λ e. subroutine_or_bad (sym e ∙ ap (λ (s : Refusal). s.kind) bad.0)) f faulty)

  pub bad_code_at : (number : ℕ) → number < length c.methods → AtSomePlace (IsFaulty c kinds.BadCode) number
  bad_code_at number less = faulty_at kinds.BadCode by number less
    where
      by : (number : ℕ) (r : Refusal) → FaultOf c number r → FaultCases number r → AtSomePlace (IsFaulty c kinds.BadCode) number
      by number r f (inl subroutine) =
          inr (λ place faulty. not_both c number kinds.BadCode r place
          (λ e. subroutine_or_bad (sym (ap (λ (s : Refusal). s.kind) subroutine.0) ∙ e)) f faulty)
      by number r f (inr here) = inl (r.place, here.1)

  pub faulty_below : (kind : RefusalKind) (number place : ℕ) → IsFaulty c kind number place → number < length c.methods
  faulty_below kind number place f = slice_get_within c.methods number f.method f.at

-- ---- bodies

-- a body has an instruction
pub some_code : (names : Names) (c : ClassFile) (number : ℕ) (b : Body) → BodyOf names c number b → 1 ≤ length b.code
some_code names c number b body =
    let d = body.is.coded in
    let starts = are_starts d.items.code d.insns d.starts body.is.is.spelled in
    let some = some_insn (length d.insns) (length d.items.code) d.starts starts body.is.is.items.text.some in
    let same = ap (λ l. length l) body.is.parts.code in
    omega (arith, some, same)

module _ (c : ClassFile) (is : IsClassFile c) (Fact : Names → Body → ℕ → Type 0)
    (moves : (names others : Names) (a b : Body) → AreSame names others a b → (place : ℕ) → Fact names a place → Fact others b place)
    (decide : (names : Names) (b : Body) → 1 ≤ length b.code
    → ((place : ℕ) × Fact names b place) ⊎ ((place : ℕ) → Fact names b place → ⊥)) where
  pub of_body_at : (number : ℕ) → number < length c.methods → AtSomePlace (OfBody c Fact) number
  of_body_at number less = by (each_answer c number is less)
    where
      with_body : (names : Names) (b : Body) → BodyOf names c number b
          → ((place : ℕ) × Fact names b place) ⊎ ((place : ℕ) → Fact names b place → ⊥) → AtSomePlace (OfBody c Fact) number
      with_body names b body (inl here) = inl (here.0, record { names = names; body = b; is = body; holds = here.1 })
      with_body names b body (inr not_here) =
          inr (λ place f. not_here place
          (moves f.names names f.body b (same_body f.names names c number f.body b f.is body) place f.holds))

      by : Answer c number → AtSomePlace (OfBody c Fact) number
      by (inl none) = inr (λ place f. bodiless_or_body f.names c number f.body none f.is)
      by (inr (inl found)) = with_body found.0 found.1 found.3 (decide found.0 found.1 (some_code found.0 c number found.1 found.3))
      by (inr (inr fault)) = inr (λ place f. body_or_fault f.names c number f.body fault.0 f.is fault.1)

  pub of_body_below : (number place : ℕ) → OfBody c Fact number place → number < length c.methods
  of_body_below number place f = slice_get_within c.methods number f.is.method f.is.at

abbrev Lacks : Names → Body → ℕ → Type 0
Lacks names b place = FirstMissing b place

missing_moves : (names others : Names) (a b : Body) → AreSame names others a b → (place : ℕ) → Lacks names a place → Lacks others b place
missing_moves names others a b same place f = same_missing names others a b same place f

clash_moves : (names others : Names) (a b : Body) → AreSame names others a b → (place : ℕ) → FirstClash names a place
    → FirstClash others b place
clash_moves names others a b same place f = same_clash names others a b same place f

missing_or_not : (names : Names) (b : Body) → 1 ≤ length b.code
    → ((place : ℕ) × Lacks names b place) ⊎ ((place : ℕ) → Lacks names b place → ⊥)
missing_or_not names b some = by (each_verdict names b some)
  where
    by : Checked names b ⊎ (((i : ℕ) × FirstMissing b i) ⊎ ((i : ℕ) × FirstClash names b i))
        → ((place : ℕ) × Lacks names b place) ⊎ ((place : ℕ) → Lacks names b place → ⊥)
    by (inl checked) = inr (λ place f. checked_not_missing names b place checked f)
    by (inr (inl missing)) = inl missing
    by (inr (inr clash)) = inr (λ place f. missing_not_clash names b place clash.0 f clash.1)

clash_or_not : (names : Names) (b : Body) → 1 ≤ length b.code
    → ((place : ℕ) × FirstClash names b place) ⊎ ((place : ℕ) → FirstClash names b place → ⊥)
clash_or_not names b some = by (each_verdict names b some)
  where
    by : Checked names b ⊎ (((i : ℕ) × FirstMissing b i) ⊎ ((i : ℕ) × FirstClash names b i))
        → ((place : ℕ) × FirstClash names b place) ⊎ ((place : ℕ) → FirstClash names b place → ⊥)
    by (inl checked) = inr (λ place f. checked_not_clash names b place checked f)
    by (inr (inl missing)) = inr (λ place f. missing_not_clash names b missing.0 place missing.1 f)
    by (inr (inr clash)) = inl clash

module _ (c : ClassFile) (is : IsClassFile c) where
  pub missing_at : (number : ℕ) → number < length c.methods → AtSomePlace (OfBody c Lacks) number
  missing_at number less = of_body_at c is Lacks missing_moves missing_or_not number less

  pub missing_below : (number place : ℕ) → OfBody c Lacks number place → number < length c.methods
  missing_below number place f = of_body_below c is Lacks missing_moves missing_or_not number place f

  pub clash_at : (number : ℕ) → number < length c.methods → AtSomePlace (OfBody c FirstClash) number
  clash_at number less = of_body_at c is FirstClash clash_moves clash_or_not number less

  pub clash_below : (number place : ℕ) → OfBody c FirstClash number place → number < length c.methods
  clash_below number place f = of_body_below c is FirstClash clash_moves clash_or_not number place f

  -- ---- all of them

  pub causes_decided : AreDecided (analysis_causes c)
  causes_decided =
      both_decided (class_causes c) (unless (is_left_alone c) (interface_causes c ++ code_causes c))
      (version_decided c, (instrumented_decided c, tt))
      (unless_decided (is_left_alone c) (interface_causes c ++ code_causes c) (
        interface_decided c,
        (
          in_method_decided kinds.Subroutine (IsFaulty c kinds.Subroutine) (length c.methods) (subroutine_at c is)
              (faulty_below c is kinds.Subroutine),
          (
            in_method_decided kinds.BadCode (IsFaulty c kinds.BadCode) (length c.methods) (bad_code_at c is)
                (faulty_below c is kinds.BadCode),
            (
              in_method_decided kinds.FrameMissing (OfBody c Lacks) (length c.methods) missing_at missing_below,
              (in_method_decided kinds.FrameClash (OfBody c FirstClash) (length c.methods) clash_at clash_below, tt),
            ),
          ),
        ),
      ))
