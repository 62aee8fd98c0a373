-- The text of full frames, part by part.
use Rattle.std.proofs.Common.{◌≡◌, ℕ, zero, suc, ◌+◌, ◌-◌, ◌<◌, ◌≤◌, List, [], ◌∷◌, ◌++◌, length, map, drop, get_or, sym, ◌∙◌, ap, arith, append_assoc}
use Rattle.std.proofs.lemmas.List.{append-nil, drop_all}
use Rattle.std.specs.List.{AllByRecursion, flat_map}
use Rattle.jc_bytes.proofs.AppendingLaws.{drop_at, drop_is, joined}
use Rattle.jc_methods.specs.FrameOrder.{RiseFrom}
use Rattle.jc_methods.specs.VerificationTypes.{Names, VerificationType, verification_type, type_state_at}
use Rattle.jc_methods.specs.declared.body.FrameAt.{FrameAt}
use Rattle.jc_methods.specs.declared.kind.Kind.{Kind}
use Rattle.jc_frames.specs.FullFrames.{Places, full_text, full_texts}
use Rattle.jc_frames.specs.FullTable.{AreRisingOffsets, OffsetsRise, FitsFull}

-- ---- facts of parts

pub both_parts : {X : Type 0} (P : X → Type 0) (xs ys : List X) → AllByRecursion P (xs ++ ys) → AllByRecursion P xs × AllByRecursion P ys
both_parts P [] ys all = (tt, all)
both_parts P (x ∷ xs) ys all = let more = both_parts P xs ys all.1 in ((all.0, more.0), more.1)

-- ---- one frame

pub full_parts : (old a b c d s u v : List ℕ) → a ≡ old ++ 255 ∷ [] → b ≡ a ++ s → c ≡ b ++ u → d ≡ c ++ v → d ≡ old ++ (255 ∷ (s ++ (u ++ v)))
full_parts old a b c d s u v p q r t = joined old a d (255 ∷ []) (s ++ (u ++ v)) p (joined a b d s (u ++ v) q (joined b c d u v r t))

-- ---- in a loop

-- the text of the items that are left completes the text of all of them
pub kinds_more : (T : VerificationType → List ℕ) (names : Names) (ks : List Kind) (i : ℕ) (d : Kind) (whole now next : List ℕ) → i < length ks
    → next ≡ now ++ T (verification_type names (get_or ks i d)) → now ++ flat_map T (map (verification_type names) (drop i ks)) ≡ whole
    → next ++ flat_map T (map (verification_type names) (drop (i + 1) ks)) ≡ whole
kinds_more T names ks i d whole now next lt is before =
    let rest = flat_map T (map (verification_type names) (drop (i + 1) ks)) in
    let h = verification_type names (get_or ks i d) in
    ap (λ (l : List ℕ). l ++ rest) is ∙ append_assoc now (T h) rest
    ∙ ap (λ (l : List Kind). now ++ flat_map T (map (verification_type names) l)) (sym (drop_at ks i d lt)) ∙ before

pub kinds_written : (T : VerificationType → List ℕ) (names : Names) (ks : List Kind) (i : ℕ) (whole now : List ℕ) → length ks ≤ i
    → now ++ flat_map T (map (verification_type names) (drop i ks)) ≡ whole → now ≡ whole
kinds_written T names ks i whole now le before =
    sym (append-nil now) ∙ ap (λ (l : List Kind). now ++ flat_map T (map (verification_type names) l)) (sym (drop_all i ks le)) ∙ before

pub frames_more : (p : Places) (names : Names) (fs : List FrameAt) (i base next_base : ℕ) (f : FrameAt) (whole now next : List ℕ) → i < length fs → f ≡ get_or fs i f
    → next_base ≡ p.start f.at + 1 → next ≡ now ++ full_text p base (type_state_at names f) → now ++ full_texts p base (map (type_state_at names) (drop i fs)) ≡ whole
    → next ++ full_texts p next_base (map (type_state_at names) (drop (i + 1) fs)) ≡ whole
frames_more p names fs i base next_base f whole now next lt there after is before =
    let rest = map (type_state_at names) (drop (i + 1) fs) in
    ap (λ (n : ℕ). next ++ full_texts p n rest) after
    ∙ ap (λ (l : List ℕ). l ++ full_texts p (p.start f.at + 1) rest) is
    ∙ append_assoc now (full_text p base (type_state_at names f)) (full_texts p (p.start f.at + 1) rest)
    ∙ ap (λ (l : List FrameAt). now ++ full_texts p base (map (type_state_at names) l)) (sym (drop_is fs i f lt there)) ∙ before

pub frames_written : (p : Places) (names : Names) (fs : List FrameAt) (i base : ℕ) (whole now : List ℕ) → length fs ≤ i
    → now ++ full_texts p base (map (type_state_at names) (drop i fs)) ≡ whole → now ≡ whole
frames_written p names fs i base whole now le before =
    sym (append-nil now) ∙ ap (λ (l : List FrameAt). now ++ full_texts p base (map (type_state_at names) l)) (sym (drop_all i fs le)) ∙ before

-- ---- offsets that rise

sorted : (starts : List ℕ) → AreRisingOffsets starts → (i d : ℕ) → i + suc d < length starts → get_or starts i 0 < get_or starts (i + suc d) 0
sorted starts rising i zero lt = let e : i + 1 ≡ i + suc 0 = omega arith in let q = ap (λ (k : ℕ). get_or starts k 0) e in omega (arith, rising i (omega (arith, lt)), q)
sorted starts rising i (suc d) lt =
    let a = sorted starts rising i d (omega (arith, lt)) in
    let b = rising (i + suc d) (omega (arith, lt)) in
    let e : i + suc d + 1 ≡ i + suc (suc d) = omega arith in
    let q = ap (λ (k : ℕ). get_or starts k 0) e in
    omega (arith, a, b, q)

pub later_offset : (starts : List ℕ) → AreRisingOffsets starts → (i j : ℕ) → i < j → j < length starts → get_or starts i 0 < get_or starts j 0
later_offset starts rising i j less within =
    let e : i + suc (j - suc i) ≡ j = omega (arith, less) in
    let q = ap (λ (k : ℕ). get_or starts k 0) e in
    omega (arith, sorted starts rising i (j - suc i) (omega (arith, less, within)), q)

-- frames in rising order stand at rising offsets
pub offsets_rise : (starts : List ℕ) (names : ℕ) → AreRisingOffsets starts → (first base : ℕ) → ((j : ℕ) → first ≤ j → j < length starts → base ≤ get_or starts j 0)
    → (fs : List FrameAt) → RiseFrom first fs → AllByRecursion (FitsFull (length starts) names) fs → OffsetsRise starts base fs
offsets_rise starts names rising first base above [] rise each = tt
offsets_rise starts names rising first base above (f ∷ fs) rise each = (
  above f.at rise.0 each.0.at,
  offsets_rise starts names rising (f.at + 1) (get_or starts f.at 0 + 1)
      (λ j le lt. let a = later_offset starts rising f.at j (omega (arith, le)) lt in omega (arith, a)) fs rise.1 each.1,
)
