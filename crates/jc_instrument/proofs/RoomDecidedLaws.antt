-- Each cause for which there is no room in a class for its probes gives a refusal, or none, but for that of the pool.
use Rattle.std.proofs.Common.{◌≡◌, ◌≢◌, ◌⊎◌, inl, inr, ℕ, zero, suc, ◌+◌, ◌<◌, ◌≤◌, true, List, [], ◌∷◌, ◌++◌, length, get_or, Option, Some, None, slice_get, refl, sym, ◌∙◌, ap, subst, arith}
use Rattle.std.specs.Prelude.{Contains}
use Rattle.std.proofs.lemmas.Bool.{cases_lt, cases_eq}
use Rattle.std.proofs.lemmas.Option.{none-some, same_Some, slice_get_within, slice_get_cases}
use Rattle.jc_methods.specs.ProbeMembers.{fetch_of, most_probes}
use Rattle.jc_methods.specs.VerificationTypes.{Names}
use Rattle.jc_methods.specs.InsnUse.{is_of_two_slots}
use Rattle.jc_bytes.specs.Least.{IsLeast}
use Rattle.jc_methods.specs.WellMade.{kind_slots}
use Rattle.jc_methods.specs.declared.body.Body.{Body}
use Rattle.jc_methods.specs.declared.body.FrameAt.{FrameAt}
use Rattle.jc_methods.specs.declared.insn.Insn.{Insn}
use Rattle.jc_methods.specs.declared.insn.Insn.TheVariants as insns
use Rattle.jc_methods.specs.declared.kind.Kind.TheVariants as variants
use Rattle.jc_methods.specs.declared.probe_members.Fetch.{Fetch}
use Rattle.jc_methods.specs.declared.probe_members.Fetch.TheVariants as fetches
use Rattle.jc_bytes.specs.declared.refusal.Refusal.{Refusal}
use Rattle.jc_bytes.specs.declared.refusal.RefusalKind.{RefusalKind}
use Rattle.jc_bytes.specs.declared.refusal.RefusalKind.TheVariants as kinds
use Rattle.jc_bytes.proofs.BooleanLaws.{which_in, none_in}
use Rattle.jc_class.specs.Writable.{IsClassFile}
use Rattle.jc_class.specs.declared.class_file.ClassFile.{ClassFile}
use Rattle.jc_body.specs.BodyOf.{BodyOf}
use Rattle.jc_bootstraps.specs.Bootstraps.{bootstrap_bodies}
use Rattle.jc_kinds_after.specs.Shift.{Straddles}
use Rattle.jc_kinds.specs.StateShift.{FrameStraddles, IsStraddled}
use Rattle.jc_emit.specs.Straddling.{NoneStraddles}
use Rattle.jc_layout.specs.Layout.{chosen_length}
use Rattle.jc_plan.specs.Probed.{first_id}
use Rattle.jc_plan.specs.Analysed.{all_probes}
use Rattle.jc_instrument.specs.Bodies.{AreBodiesOf}
use Rattle.jc_instrument.specs.Causes.{Never, of_class, of_method, InMethod}
use Rattle.jc_instrument.specs.Constants.{AreConstants, probed_code}
use Rattle.jc_instrument.specs.Needed.{GetsBy, IsNextBootstrap}
use Rattle.jc_instrument.specs.Probing.{AreShortBelow, IsFirstTooLong}
use Rattle.jc_instrument.specs.Room.{LacksRoom}
use Rattle.jc_instrument.specs.RoomCauses.{HasStraddling, HasTooManyProbes, IsFull, HasFullMembers, HasFullLocals, HasFullStack, IsTooLarge, HasTooLargeCode, early_room_causes}
use Rattle.jc_instrument.specs.declared.constants.ProbeConstants.{ProbeConstants}
use Rattle.jc_instrument.proofs.BootstrapsDecidedLaws.{bootstraps_decided, next_or_none}
use Rattle.jc_instrument.proofs.CauseLaws.{never_in_method}
use Rattle.jc_instrument.proofs.CausesDecidedLaws.{of_body_at, of_body_below}
use Rattle.jc_instrument.proofs.ConstantsLaws.{some_constants}
use Rattle.jc_instrument.proofs.DecidedLaws.{OrNot, either_or_not, true_or_not, some_or_none, IsDecided, AreDecided, in_method_decided, nowhere}
use Rattle.jc_instrument.proofs.LastBodyLaws.{less_or_last}
use Rattle.jc_instrument.proofs.RoomLaws.{Lacking, moved_room, few_probes}
use Rattle.jc_instrument.proofs.TooLargeLaws.{none_too_large, too_large_found}

-- ---- facts

pub both_or_not : (A B : Type 0) → OrNot A → OrNot B → OrNot (A × B)
both_or_not A B (inl a) (inl b) = inl (a, b)
both_or_not A B (inl a) (inr never) = inr (λ both. never both.1)
both_or_not A B (inr never) b = inr (λ both. never both.0)

-- the least number of which it holds, or none below the bound
least_below : (P : ℕ → Type 0) → ((n : ℕ) → OrNot (P n)) → (most : ℕ) → ((n : ℕ) × IsLeast P n) ⊎ ((n : ℕ) → n < most → P n → ⊥)
least_below P decide zero = inr (λ n less p. omega (arith, less))
least_below P decide (suc most) = by (least_below P decide most) (decide most)
  where
    none : ((n : ℕ) → n < most → P n → ⊥) → (P most → ⊥) → (n : ℕ) → P n → (n < most) ⊎ (n ≡ most) → ⊥
    none before not_here n p (inl less) = before n less p
    none before not_here n p (inr last) = not_here (subst P last p)

    by : ((n : ℕ) × IsLeast P n) ⊎ ((n : ℕ) → n < most → P n → ⊥) → OrNot (P most) → ((n : ℕ) × IsLeast P n) ⊎ ((n : ℕ) → n < suc most → P n → ⊥)
    by (inl found) here = inl found
    by (inr before) (inl here) = inl (most, record { there = here; first = before })
    by (inr before) (inr not_here) = inr (λ n less p. none before not_here n p (less_or_last most n less))

-- ---- a long or a double at the last argument

insn_or_not : (v : ℕ) (insn : Insn) → OrNot (Straddles v insn)
insn_or_not v (insns.Local op slot) = both_or_not (is_of_two_slots op ≡ true) (slot + 1 ≡ v) (true_or_not (is_of_two_slots op)) (cases_eq (slot + 1) v)
insn_or_not v insn = inr (λ s. s)

abbrev AtInsn : ℕ → Option Insn → Type 0
AtInsn v o = (insn : Insn) × (o ≡ Some insn) × Straddles v insn

at_insn_or_not : (v : ℕ) (o : Option Insn) → OrNot (AtInsn v o)
at_insn_or_not v None = inr (λ found. none-some found.0 found.1)
at_insn_or_not v (Some insn) = by (insn_or_not v insn)
  where
    by : OrNot (Straddles v insn) → OrNot (AtInsn v (Some insn))
    by (inl is) = inl (insn, refl, is)
    by (inr none) = inr (λ found. none (subst (Straddles v) (sym (same_Some insn found.0 found.1)) found.2))

frame_or_not : (v : ℕ) (f : FrameAt) → OrNot (FrameStraddles v f)
frame_or_not zero f = inr (λ s. let above = s.1 in omega (arith, above))
frame_or_not (suc k) f = by (cases_eq (kind_slots (get_or f.state.locals k variants.Top)) 2)
  where
    by : OrNot (kind_slots (get_or f.state.locals k variants.Top) ≡ 2) → OrNot (FrameStraddles (suc k) f)
    by (inl two) = inl (k, let e : k + 1 ≡ suc k = omega arith in e, two)
    by (inr other) = inr (λ s.
        let above = s.1 in
        let same : s.0 ≡ k = omega (arith, above) in
        other (ap (λ (n : ℕ). kind_slots (get_or f.state.locals n variants.Top)) (sym same) ∙ s.2))

abbrev AtFrame : Body → ℕ → Type 0
AtFrame b i = (f : FrameAt) × Contains b.frames f × (f.at ≡ i) × FrameStraddles b.arg_slots f

at_frame_or_not : (b : Body) (i : ℕ) → OrNot (AtFrame b i)
at_frame_or_not b i =
    by (some_or_none (λ (f : FrameAt). (f.at ≡ i) × FrameStraddles b.arg_slots f)
    (λ f. both_or_not (f.at ≡ i) (FrameStraddles b.arg_slots f) (cases_eq f.at i) (frame_or_not b.arg_slots f)) b.frames)
  where
    by : OrNot ((f : FrameAt) × Contains b.frames f × ((f.at ≡ i) × FrameStraddles b.arg_slots f)) → OrNot (AtFrame b i)
    by (inl found) = inl (found.0, found.1, found.2.0, found.2.1)
    by (inr none) = inr (λ s. none (s.0, s.1, (s.2, s.3)))

straddled_or_not : (b : Body) (i : ℕ) → OrNot (IsStraddled b i)
straddled_or_not b i =
    either_or_not (AtInsn b.arg_slots (slice_get b.code i)) (AtFrame b i) (at_insn_or_not b.arg_slots (slice_get b.code i)) (at_frame_or_not b i)

-- a number above the places of all frames
frames_end : (frames : List FrameAt) → (most : ℕ) × ((f : FrameAt) → Contains frames f → f.at < most)
frames_end [] = (0, λ f listed. absurd (none_in f listed))
frames_end (x ∷ frames) =
    let rest = frames_end frames in
    (rest.0 + x.at + 1, λ f listed. by rest.0 rest.1 f (which_in x frames f listed))
  where
    by : (most : ℕ) → ((f : FrameAt) → Contains frames f → f.at < most) → (f : FrameAt) → (x ≡ f) ⊎ Contains frames f → f.at < most + x.at + 1
    by most all f (inl same) = let at = ap (λ (g : FrameAt). g.at) same in omega (arith, at)
    by most all f (inr later) = let less = all f later in omega (arith, less)

module _ (b : Body) (most : ℕ) (within : (f : FrameAt) → Contains b.frames f → f.at < most) where
  inside : (place : ℕ) → IsStraddled b place → place < length b.code + most
  inside place (inl insn) = let less = slice_get_within b.code place insn.0 insn.1 in omega (arith, less)
  inside place (inr frame) = let less = within frame.0 frame.1 in let at = frame.2 in omega (arith, less, at)

  found_or_not : ((n : ℕ) × IsLeast (IsStraddled b) n) ⊎ ((n : ℕ) → n < length b.code + most → IsStraddled b n → ⊥)
      → ((place : ℕ) × LacksRoom kinds.StraddlingLocal b place) ⊎ ((place : ℕ) → LacksRoom kinds.StraddlingLocal b place → ⊥)
  found_or_not (inl least) = inl least
  found_or_not (inr none) = inr (λ place lacks. none place (inside place lacks.there) lacks.there)

straddling_or_not : (names : Names) (b : Body) → 1 ≤ length b.code
    → ((place : ℕ) × LacksRoom kinds.StraddlingLocal b place) ⊎ ((place : ℕ) → LacksRoom kinds.StraddlingLocal b place → ⊥)
straddling_or_not names b some =
    let end = frames_end b.frames in
    found_or_not b end.0 end.1 (least_below (IsStraddled b) (straddled_or_not b) (length b.code + end.0))

-- ---- local variables and the stack

locals_or_not : (names : Names) (b : Body) → 1 ≤ length b.code
    → ((place : ℕ) × LacksRoom kinds.LocalsFull b place) ⊎ ((place : ℕ) → LacksRoom kinds.LocalsFull b place → ⊥)
locals_or_not names b some = by (cases_eq b.max_locals 65535)
  where
    by : (b.max_locals ≡ 65535) ⊎ (b.max_locals ≢ 65535)
        → ((place : ℕ) × LacksRoom kinds.LocalsFull b place) ⊎ ((place : ℕ) → LacksRoom kinds.LocalsFull b place → ⊥)
    by (inl full) = inl (65536, (full, refl))
    by (inr other) = inr (λ place lacks. other lacks.0)

stack_or_not : (names : Names) (b : Body) → 1 ≤ length b.code
    → ((place : ℕ) × LacksRoom kinds.StackFull b place) ⊎ ((place : ℕ) → LacksRoom kinds.StackFull b place → ⊥)
stack_or_not names b some = by (cases_lt 65532 b.max_stack)
  where
    by : (65532 < b.max_stack) ⊎ (b.max_stack ≤ 65532)
        → ((place : ℕ) × LacksRoom kinds.StackFull b place) ⊎ ((place : ℕ) → LacksRoom kinds.StackFull b place → ⊥)
    by (inl full) = inl (b.max_stack + 3, (full, refl))
    by (inr few) = inr (λ place lacks. let full = lacks.0 in omega (arith, full, few))

module _ (c : ClassFile) (is : IsClassFile c) (kind : RefusalKind)
    (decide : (names : Names) (b : Body) → 1 ≤ length b.code
    → ((place : ℕ) × LacksRoom kind b place) ⊎ ((place : ℕ) → LacksRoom kind b place → ⊥)) where
  room_decided : IsDecided (InMethod kind (Lacking c kind))
  room_decided =
      in_method_decided kind (Lacking c kind) (length c.methods)
      (of_body_at c is (λ names. LacksRoom kind) (λ names others a b same place f. moved_room kind names others a b same place f) decide)
      (of_body_below c is (λ names. LacksRoom kind) (λ names others a b same place f. moved_room kind names others a b same place f) decide)

  -- where no method is refused for it, no body lacks room
  room_nowhere : Never (InMethod kind (Lacking c kind)) → (names : Names) (number : ℕ) (b : Body) → BodyOf names c number b → (place : ℕ)
      → LacksRoom kind b place → ⊥
  room_nowhere never names number b body place lacks =
      nowhere kind (Lacking c kind) (length c.methods)
      (of_body_at c is (λ names. LacksRoom kind) (λ names others a b same place f. moved_room kind names others a b same place f) decide)
      (of_body_below c is (λ names. LacksRoom kind) (λ names others a b same place f. moved_room kind names others a b same place f) decide)
      never number place (record { names = names; body = b; is = body; holds = lacks })

pub has_local_room : (c : ClassFile) → IsClassFile c → Never (HasFullLocals c) → (names : Names) (number : ℕ) (b : Body) → BodyOf names c number b
    → b.max_locals ≢ 65535
has_local_room c is never names number b body full = room_nowhere c is kinds.LocalsFull locals_or_not never names number b body 65536 (full, refl)

pub has_stack_room : (c : ClassFile) → IsClassFile c → Never (HasFullStack c) → (names : Names) (number : ℕ) (b : Body) → BodyOf names c number b
    → b.max_stack ≤ 65532
has_stack_room c is never names number b body = by (cases_lt 65532 b.max_stack)
  where
    by : (65532 < b.max_stack) ⊎ (b.max_stack ≤ 65532) → b.max_stack ≤ 65532
    by (inl full) = absurd (room_nowhere c is kinds.StackFull stack_or_not never names number b body (b.max_stack + 3) (full, refl))
    by (inr few) = few

-- what stands somewhere stands somewhere first
least_straddled : (b : Body) (i : ℕ) → IsStraddled b i
    → ((n : ℕ) × IsLeast (IsStraddled b) n) ⊎ ((n : ℕ) → n < i + 1 → IsStraddled b n → ⊥) → (n : ℕ) × IsLeast (IsStraddled b) n
least_straddled b i there (inl least) = least
least_straddled b i there (inr none) = absurd (none i (omega arith) there)

pub none_straddles : (c : ClassFile) → IsClassFile c → Never (HasStraddling c) → (names : Names) (number : ℕ) (b : Body) → BodyOf names c number b
    → NoneStraddles b
none_straddles c is never names number b body i there =
    let least = least_straddled b i there (least_below (IsStraddled b) (straddled_or_not b) (i + 1)) in
    room_nowhere c is kinds.StraddlingLocal straddling_or_not never names number b body least.0 least.1

-- ---- counts

probes_decided : (c : ClassFile) (bodies : List Body) → AreBodiesOf c bodies → IsDecided (HasTooManyProbes c)
probes_decided c bodies are = by (cases_lt most_probes (all_probes bodies))
  where
    by : (most_probes < all_probes bodies) ⊎ (all_probes bodies ≤ most_probes) → IsDecided (HasTooManyProbes c)
    by (inl many) = inl (of_class kinds.TooManyProbes (all_probes bodies), record { bodies = bodies; are = are; many = many; refusal = refl })
    by (inr few) = inr (few_probes c bodies are few)

full_or_not : (fetch : Fetch) (c : ClassFile) → OrNot (IsFull fetch c)
full_or_not fetches.Member c = either_or_not _ _ (cases_eq (length c.fields) 65535) (cases_eq (length c.methods) 65535)
full_or_not fetches.Constant c = cases_eq (length c.methods) 65535

members_decided : (c : ClassFile) → IsDecided (HasFullMembers c)
members_decided c = by (full_or_not (fetch_of c.major) c)
  where
    by : OrNot (IsFull (fetch_of c.major) c) → IsDecided (HasFullMembers c)
    by (inl full) = inl (of_class kinds.MembersFull 65536, record { full = full; refusal = refl })
    by (inr room) = inr (λ r full. room full.full)

-- ---- code that is too large

module _ (constants : ProbeConstants) (bodies : List Body) where
  abbrev size_at : ℕ → Body → ℕ
  size_at i b = chosen_length (probed_code constants b (first_id bodies i))

  module _ (n : ℕ) (before : AreShortBelow constants bodies n) where
    short : (b : Body) → slice_get bodies n ≡ Some b → size_at n b ≤ 65535 → (i : ℕ) (x : Body) → slice_get bodies i ≡ Some x
        → (i < n) ⊎ (i ≡ n) → size_at i x ≤ 65535
    short b stands few i x at (inl less) = before i x less at
    short b stands few i x at (inr last) =
        let same : b ≡ x = same_Some b x (sym stands ∙ ap (slice_get bodies) (sym last) ∙ at) in
        subst (λ (y : Body). size_at i y ≤ 65535) same (subst (λ (k : ℕ). size_at k b ≤ 65535) (sym last) few)

    past : (i : ℕ) (x : Body) → length bodies ≤ n → slice_get bodies i ≡ Some x → size_at i x ≤ 65535
    past i x end at = let less = slice_get_within bodies i x at in before i x (omega (arith, less, end)) at

    with_body : (b : Body) → slice_get bodies n ≡ Some b → (65535 < size_at n b) ⊎ (size_at n b ≤ 65535)
        → ((r : Refusal) × IsFirstTooLong constants bodies r) ⊎ AreShortBelow constants bodies (suc n)
    with_body b stands (inl large) = inl (
      of_method kinds.CodeTooLarge b.method (size_at n b),
      record { index = n; body = b; stands = stands; large = record { refusal = refl; large = large }; before = before },
    )
    with_body b stands (inr few) = inr (λ i x less at. short b stands few i x at (less_or_last n i less))

  first_long : (n : ℕ) → ((r : Refusal) × IsFirstTooLong constants bodies r) ⊎ AreShortBelow constants bodies n
  first_long zero = inr (λ i b less at. absurd (omega (arith, less)))
  first_long (suc n) = by (first_long n) (slice_get_cases bodies n).1
    where
      by : ((r : Refusal) × IsFirstTooLong constants bodies r) ⊎ AreShortBelow constants bodies n
          → ((b : Body) × (n < length bodies) × (slice_get bodies n ≡ Some b) × (get_or bodies n b ≡ b)) ⊎ ((length bodies ≤ n) × (slice_get bodies n ≡ None))
          → ((r : Refusal) × IsFirstTooLong constants bodies r) ⊎ AreShortBelow constants bodies (suc n)
      by (inl found) here = inl found
      by (inr before) (inl here) = with_body n before here.0 here.2 (cases_lt 65535 (size_at n here.0))
      by (inr before) (inr end) = inr (λ i x less at. past n before i x end.0 at)

-- a class gets its array by a bootstrap method with some number, or with none
gets_or_none : (c : ClassFile) → ((bootstrap : ℕ) × GetsBy c (fetch_of c.major) bootstrap) ⊎ ((fetch : Fetch) (bootstrap : ℕ) → GetsBy c fetch bootstrap → ⊥)
gets_or_none c = by (next_or_none (fetch_of c.major) (bootstrap_bodies c.pool c.attributes))
  where
    none : ((bootstrap : ℕ) → IsNextBootstrap (fetch_of c.major) (bootstrap_bodies c.pool c.attributes) bootstrap → ⊥)
        → (fetch : Fetch) (bootstrap : ℕ) → GetsBy c fetch bootstrap → ⊥
    none never fetch bootstrap gets =
        never bootstrap (subst (λ (f : Fetch). IsNextBootstrap f (bootstrap_bodies c.pool c.attributes) bootstrap) gets.fetch_is gets.bootstrap_is)

    by : ((bootstrap : ℕ) × IsNextBootstrap (fetch_of c.major) (bootstrap_bodies c.pool c.attributes) bootstrap)
        ⊎ ((bootstrap : ℕ) → IsNextBootstrap (fetch_of c.major) (bootstrap_bodies c.pool c.attributes) bootstrap → ⊥)
        → ((bootstrap : ℕ) × GetsBy c (fetch_of c.major) bootstrap) ⊎ ((fetch : Fetch) (bootstrap : ℕ) → GetsBy c fetch bootstrap → ⊥)
    by (inl next) = inl (next.0, record { fetch_is = refl; bootstrap_is = next.1 })
    by (inr never) = inr (none never)

module _ (c : ClassFile) (bodies : List Body) (are : AreBodiesOf c bodies) where
  large_with : (bootstrap : ℕ) (constants : ProbeConstants) → AreConstants c (all_probes bodies) bootstrap constants → IsDecided (HasTooLargeCode c)
  large_with bootstrap constants loads = by (first_long constants bodies (length bodies))
    where
      by : ((r : Refusal) × IsFirstTooLong constants bodies r) ⊎ AreShortBelow constants bodies (length bodies) → IsDecided (HasTooLargeCode c)
      by (inl found) = inl (found.0, too_large_found c bodies are bootstrap constants loads found.0 found.1)
      by (inr short) = inr (none_too_large c bodies are bootstrap constants loads short)

  -- where no bootstrap method can be added, no code is made
  large_decided : IsDecided (HasTooLargeCode c)
  large_decided = by (gets_or_none c)
    where
      by : ((bootstrap : ℕ) × GetsBy c (fetch_of c.major) bootstrap) ⊎ ((fetch : Fetch) (bootstrap : ℕ) → GetsBy c fetch bootstrap → ⊥)
          → IsDecided (HasTooLargeCode c)
      by (inl gets) = let some = some_constants c (all_probes bodies) gets.0 gets.1 in large_with gets.0 some.0 some.1
      by (inr none) = inr (never_in_method kinds.CodeTooLarge (IsTooLarge c) (λ number place t. none t.constants.fetch t.bootstrap t.loads.gets))

  -- where no method is refused for it, no code is too large
  pub short_code : (bootstrap : ℕ) (constants : ProbeConstants) → AreConstants c (all_probes bodies) bootstrap constants → Never (HasTooLargeCode c)
      → AreShortBelow constants bodies (length bodies)
  short_code bootstrap constants loads never = by (first_long constants bodies (length bodies))
    where
      by : ((r : Refusal) × IsFirstTooLong constants bodies r) ⊎ AreShortBelow constants bodies (length bodies) → AreShortBelow constants bodies (length bodies)
      by (inl found) = absurd (never found.0 (too_large_found c bodies are bootstrap constants loads found.0 found.1))
      by (inr short) = short

-- ---- all of them

pub rooms_decided : (c : ClassFile) (bodies : List Body) → IsClassFile c → AreBodiesOf c bodies → AreDecided (early_room_causes c ++ (HasTooLargeCode c ∷ []))
rooms_decided c bodies is are = (
  room_decided c is kinds.StraddlingLocal straddling_or_not,
  (
    probes_decided c bodies are,
    (
      members_decided c,
      (
        bootstraps_decided c,
        (
          room_decided c is kinds.LocalsFull locals_or_not,
          (room_decided c is kinds.StackFull stack_or_not, (large_decided c bodies are, tt)),
        ),
      ),
    ),
  ),
)
