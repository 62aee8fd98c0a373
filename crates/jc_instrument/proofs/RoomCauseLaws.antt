-- A class has one reason at most for which there is no room in it for its probes.
use Rattle.std.proofs.Common.{◌≡◌, ◌⊎◌, inl, inr, ⊎_elim, ℕ, zero, suc, ◌+◌, ◌<◌, Bool, true, false, List, [], ◌∷◌, map, get_or, Option, Some, refl, sym, ◌∙◌, ap, ap₂, subst, arith}
use Rattle.std.specs.Prelude.{Contains, slice_get}
use Rattle.std.proofs.lemmas.Bool.{cases_order}
use Rattle.std.proofs.lemmas.Option.{same_Some}
use Rattle.jc_methods.specs.VerificationTypes.{Names, top, TypeStateAt, type_state_at, verification_type, width}
use Rattle.jc_bytes.specs.Least.{IsLeast}
use Rattle.jc_methods.specs.WellMade.{kind_slots}
use Rattle.jc_methods.specs.declared.body.Body.{Body}
use Rattle.jc_methods.specs.declared.body.FrameAt.{FrameAt}
use Rattle.jc_methods.specs.declared.kind.Kind.{Kind}
use Rattle.jc_methods.specs.declared.kind.Kind.TheVariants as variants
use Rattle.jc_bytes.specs.declared.refusal.Refusal.{Refusal}
use Rattle.jc_bytes.specs.declared.refusal.RefusalKind.TheVariants as kinds
use Rattle.jc_bytes.proofs.BooleanLaws.{which_in, none_in, later_in, first_in}
use Rattle.jc_class.specs.ClassId.{class_id}
use Rattle.jc_class.specs.declared.class_file.ClassFile.{ClassFile}
use Rattle.jc_kinds_after.proofs.LocalsLaws.{get_held}
use Rattle.jc_kinds_after.proofs.MovesLaws.{width_is}
use Rattle.jc_kinds.specs.StateShift.{FrameStraddles, IsStraddled}
use Rattle.jc_plan.specs.Probed.{first_id}
use Rattle.jc_layout.specs.Layout.{chosen_length}
use Rattle.jc_plan.specs.Analysed.{all_probes}
use Rattle.jc_instrument.specs.Bodies.{AreBodiesUnless, AreBodiesOf}
use Rattle.jc_instrument.specs.Causes.{of_class, unless}
use Rattle.jc_instrument.specs.Constants.{AreConstants, probed_code}
use Rattle.jc_instrument.specs.LeftAlone.{is_left_alone}
use Rattle.jc_instrument.specs.Reasons.{analysis_causes}
use Rattle.jc_instrument.specs.Refused.{probe_causes, Reason}
use Rattle.jc_instrument.specs.RoomCauses.{StraddlesArguments, HasTooManyProbes, HasFullMembers, FillsLocals, FillsStack, IsTooLarge, HasFullPool, room_causes}
use Rattle.jc_instrument.specs.SameAnalysis.{without_frames}
use Rattle.jc_instrument.specs.declared.constants.ProbeConstants.{ProbeConstants}
use Rattle.jc_instrument.proofs.BootstrapsDecidedLaws.{one_bootstraps}
use Rattle.jc_instrument.proofs.CauseLaws.{IsSingle, AreSingle, both_single, one_method}
use Rattle.jc_instrument.proofs.ConstantsLaws.{one_constants}
use Rattle.jc_instrument.proofs.OneBodyLaws.{same_body}
use Rattle.jc_instrument.proofs.OneReasonLaws.{causes_single, single_unless, one_reason_by}
use Rattle.jc_instrument.proofs.SameAnalysisLaws.{same_bodies, same_probes, same_first}
use Rattle.jc_instrument_reread.proofs.SameBodyLaws.{AreSame, turned, same_head, same_tail}
use Rattle.jc_instrument.proofs.SameItemsLaws.{same_code}

-- ---- a long or a double at the last argument

pub no_frames : {s : TypeStateAt} {ss : List TypeStateAt} → s ∷ ss ≡ [] → ⊥
no_frames e = cc

-- a frame of the one list has one of the other that says the same
seen_there : (names others : Names) (fs gs : List FrameAt) → map (type_state_at names) fs ≡ map (type_state_at others) gs → (f : FrameAt) → Contains fs f
    → (g : FrameAt) × Contains gs g × (type_state_at others g ≡ type_state_at names f)
seen_there names others [] gs same f listed = absurd (none_in f listed)
seen_there names others (x ∷ fs) [] same f listed = absurd (no_frames same)
seen_there names others (x ∷ fs) (y ∷ gs) same f listed = ⊎_elim
    (λ here. (y, first_in y gs, sym (same_head same) ∙ ap (type_state_at names) here))
    (λ later. let r = seen_there names others fs gs (same_tail same) f later in (r.0, later_in y gs r.0 r.1, r.2))
    (which_in x fs f listed)

-- the slots of the kind of a local variable, by what it holds
slots_held : (names : Names) (ks : List Kind) (k : ℕ) → width (get_or (map (verification_type names) ks) k top) ≡ kind_slots (get_or ks k variants.Top)
slots_held names ks k = ap width (get_held names ks k) ∙ width_is names (get_or ks k variants.Top)

frame_straddles : (names others : Names) (v : ℕ) (f g : FrameAt) → type_state_at others g ≡ type_state_at names f → FrameStraddles v f → FrameStraddles v g
frame_straddles names others v f g same s = (
  s.0,
  s.1,
  sym (slots_held others g.state.locals s.0)
      ∙ ap (λ (x : TypeStateAt). width (get_or x.state.locals s.0 top)) same
      ∙ slots_held names f.state.locals s.0
      ∙ s.2,
)

straddled : (names others : Names) (b : Body) (fs gs : List FrameAt) → map (type_state_at names) fs ≡ map (type_state_at others) gs → (i : ℕ)
    → IsStraddled (record b { frames = fs }) i → IsStraddled (record b { frames = gs }) i
straddled names others b fs gs same i (inl insn) = inl insn
straddled names others b fs gs same i (inr frame) =
    let g = seen_there names others fs gs same frame.0 frame.1 in
    inr (g.0, g.1, ap (λ (x : TypeStateAt). x.at) g.2 ∙ frame.2, frame_straddles names others b.arg_slots frame.0 g.0 g.2 frame.3)

pub same_straddled : (names others : Names) (a b : Body) → AreSame names others a b → (i : ℕ) → IsStraddled a i → IsStraddled b i
same_straddled names others a b same i s =
    straddled names others b a.frames b.frames same.seen i (subst (λ (x : Body). IsStraddled x i) same.rest s)

pub one_least : (Fact Other : ℕ → Type 0) → ((i : ℕ) → Fact i → Other i) → ((i : ℕ) → Other i → Fact i) → (p q : ℕ) → IsLeast Fact p → IsLeast Other q → p ≡ q
one_least Fact Other to back p q a b = by (cases_order p q)
  where
    by : (p ≡ q) ⊎ ((p < q) ⊎ (q < p)) → p ≡ q
    by (inl same) = same
    by (inr (inl less)) = absurd (b.first p less (to p a.there))
    by (inr (inr more)) = absurd (a.first q more (back q b.there))

one_straddling : (c : ClassFile) (number p q : ℕ) → StraddlesArguments c number p → StraddlesArguments c number q → p ≡ q
one_straddling c number p q a b =
    let same = same_body a.names b.names c number a.body b.body a.is b.is in
    one_least (IsStraddled a.body) (IsStraddled b.body) (same_straddled a.names b.names a.body b.body same)
    (same_straddled b.names a.names b.body a.body (turned a.names b.names a.body b.body same)) p q a.holds b.holds

-- ---- the other causes of one class, and of one method

one_count : (c : ClassFile) → IsSingle (HasTooManyProbes c)
one_count c r s a b =
    let bodies = same_bodies c a.bodies b.bodies a.are b.are in
    a.refusal
    ∙ ap (of_class kinds.TooManyProbes) (same_probes a.bodies ∙ ap all_probes bodies ∙ sym (same_probes b.bodies))
    ∙ sym b.refusal

one_members : (c : ClassFile) → IsSingle (HasFullMembers c)
one_members c r s a b = a.refusal ∙ sym b.refusal

one_locals : (c : ClassFile) (number p q : ℕ) → FillsLocals c number p → FillsLocals c number q → p ≡ q
one_locals c number p q a b = a.holds.1 ∙ sym b.holds.1

one_stack : (c : ClassFile) (number p q : ℕ) → FillsStack c number p → FillsStack c number q → p ≡ q
one_stack c number p q a b =
    let same = same_body a.names b.names c number a.body b.body a.is b.is in
    a.holds.1 ∙ ap (λ (x : Body). x.max_stack + 3) same.rest ∙ sym b.holds.1

one_pool : (id : ℕ) (c : ClassFile) → IsSingle (HasFullPool id c)
one_pool id c r s a b = a.refusal ∙ sym b.refusal

-- ---- code that is too large

no_bodies : {x : Body} {xs : List Body} → x ∷ xs ≡ [] → ⊥
no_bodies e = cc

head_body : {x y : Body} {xs ys : List Body} → x ∷ xs ≡ y ∷ ys → x ≡ y
head_body e = cc

tail_bodies : {x y : Body} {xs ys : List Body} → x ∷ xs ≡ y ∷ ys → xs ≡ ys
tail_bodies e = cc

pub none_at : (i : ℕ) (x : Body) → slice_get [] i ≡ Some x → ⊥
none_at zero x at = cc
none_at (suc i) x at = cc

pub body_there : (xs ys : List Body) → map without_frames xs ≡ map without_frames ys → (i : ℕ) (x : Body) → slice_get xs i ≡ Some x
    → (y : Body) × (slice_get ys i ≡ Some y) × (without_frames x ≡ without_frames y)
body_there [] ys same i x at = absurd (none_at i x at)
body_there (z ∷ xs) [] same i x at = absurd (no_bodies same)
body_there (z ∷ xs) (y ∷ ys) same zero x at = (y, refl, ap without_frames (sym (same_Some z x at)) ∙ head_body same)
body_there (z ∷ xs) (y ∷ ys) same (suc i) x at = body_there xs ys (tail_bodies same) i x at

-- the constants of one class are the same, by whichever bodies its probes are counted
pub same_constants : (c : ClassFile) (xs ys : List Body) → map without_frames xs ≡ map without_frames ys → (a b : ℕ) (p q : ProbeConstants)
    → AreConstants c (all_probes xs) a p → AreConstants c (all_probes ys) b q → p ≡ q
same_constants c xs ys bodies a b p q from to =
    let count = same_probes xs ∙ ap all_probes bodies ∙ sym (same_probes ys) in
    (one_constants c (all_probes ys) a b p q (subst (λ (n : ℕ). AreConstants c n a p) count from) to).0

-- a class has one body of the method with this number
one_index : (c : ClassFile) (bodies : List Body) → AreBodiesOf c bodies → (i j : ℕ) (x y : Body) → slice_get bodies i ≡ Some x → slice_get bodies j ≡ Some y
    → x.method ≡ y.method → i ≡ j
one_index c bodies are i j x y p q same = by (is_left_alone c) are.are
  where
    by : (t : Bool) → AreBodiesUnless t are.names c bodies → i ≡ j
    by true none = absurd (none_at i x (sym (ap (λ (l : List Body). slice_get l i) none) ∙ p))
    by false each = ⊎_elim (λ same_place. same_place) (λ other. absurd (⊎_elim
        (λ less. let low = each.rising i j x y less p q in omega (arith, low, same))
        (λ more. let high = each.rising j i y x more q p in omega (arith, high, same)) other))
        (cases_order i j)

one_large : (c : ClassFile) (number p q : ℕ) → IsTooLarge c number p → IsTooLarge c number q → p ≡ q
one_large c number p q a b =
    let bodies = same_bodies c a.bodies b.bodies a.are b.are in
    let y = body_there a.bodies b.bodies bodies a.index a.body a.stands in
    let numbers : y.0.method ≡ b.body.method = ap (λ (x : Body). x.method) (sym y.2) ∙ a.number_is ∙ sym b.number_is in
    let places = one_index c b.bodies b.are a.index b.index y.0 b.body y.1 b.stands numbers in
    let same : y.0 ≡ b.body = same_Some y.0 b.body (sym y.1 ∙ ap (slice_get b.bodies) places ∙ b.stands) in
    let bare : without_frames a.body ≡ without_frames b.body = y.2 ∙ ap without_frames same in
    let first : first_id a.bodies a.index ≡ first_id b.bodies b.index =
    same_first a.bodies a.index ∙ ap (λ (l : List Body). first_id l a.index) bodies ∙ sym (same_first b.bodies a.index)
    ∙ ap (first_id b.bodies) places in
    a.size
    ∙ ap (λ (k : ProbeConstants). chosen_length (probed_code k a.body (first_id a.bodies a.index)))
    (same_constants c a.bodies b.bodies bodies a.bootstrap b.bootstrap a.constants b.constants a.loads b.loads)
    ∙ ap chosen_length
    (same_code b.constants a.body (first_id a.bodies a.index) ∙ ap₂ (probed_code b.constants) bare first
    ∙ sym (same_code b.constants b.body (first_id b.bodies b.index)))
    ∙ sym b.size

-- ---- all of them

room_single : (id : ℕ) (c : ClassFile) → AreSingle (room_causes id c)
room_single id c = (
  one_method kinds.StraddlingLocal (StraddlesArguments c) (one_straddling c),
  (
    one_count c,
    (
      one_members c,
      (
        one_bootstraps c,
        (
          one_method kinds.LocalsFull (FillsLocals c) (one_locals c),
          (
            one_method kinds.StackFull (FillsStack c) (one_stack c),
            (one_method kinds.CodeTooLarge (IsTooLarge c) (one_large c), (one_pool id c, tt)),
          ),
        ),
      ),
    ),
  ),
)

probe_single : (id : ℕ) (c : ClassFile) → AreSingle (probe_causes id c)
probe_single id c =
    both_single (analysis_causes c) (unless (is_left_alone c) (room_causes id c)) (causes_single c)
    (single_unless (is_left_alone c) (room_causes id c) (room_single id c))

pub one_reason : (bytes : List ℕ) (a b : Option Refusal) → Reason bytes a → Reason bytes b → a ≡ b
one_reason bytes a b p q = one_reason_by (probe_causes (class_id bytes)) (probe_single (class_id bytes)) bytes a b p q
