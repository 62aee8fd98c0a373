-- The frames of a layout: which they are, and that they are in rising order.
use Rattle.std.proofs.Common.{◌≡◌, ◌⊎◌, inl, inr, ⊎_elim, ℕ, zero, suc, ◌+◌, ◌<◌, ◌≤◌, Bool, true, false, List, [], ◌∷◌, map, refl, sym, ap, ap₂, ◌∙◌, subst, arith, nat_lt, nat_eq, if◌then◌else◌}
use Rattle.std.specs.Prelude.{Contains}
use Rattle.std.proofs.lemmas.Bool.{ltb-true, eqb-true}
use Rattle.std.proofs.lemmas.Bool.Decides.{nat_tests}
use Rattle.jc_methods.specs.Flow.{flow_of}
use Rattle.jc_methods.specs.Widened.{WideSet, widths_by, wide_place_from, wide_place}
use Rattle.jc_methods.specs.declared.insn.Insn.{Insn}
use Rattle.jc_methods.specs.declared.insn.Flow.{Flow}
use Rattle.jc_methods.specs.declared.insn.Flow.TheVariants as flows
use Rattle.jc_methods.specs.declared.body.FrameAt.{FrameAt}
use Rattle.jc_bytes.proofs.FirstSeenLaws.{contains_one}
use Rattle.jc_methods.specs.FrameOrder.{RiseFrom}
use Rattle.jc_bytes.proofs.BooleanLaws.{none_in, which_in, first_in, later_in}
use Rattle.jc_emit.specs.Emission.{IsUsed, widened_frame}
use Rattle.jc_emit.proofs.TwinPremisesLaws.{risen}
use Rattle.jc_layout.specs.Merged.{with_frame, merged, is_used_by, used_frames}

-- ---- places

pub is_below : (a b : ℕ) → a < b → nat_lt a b ≡ true
is_below a b lt = grind (arith, nat_tests)

pub is_not_below : (a b : ℕ) → b ≤ a → nat_lt a b ≡ false
is_not_below a b le = grind (arith, nat_tests)

is_apart : (a b : ℕ) → b < a → nat_eq a b ≡ false
is_apart a b lt = grind (arith, nat_tests)

is_same : (a b : ℕ) → a ≡ b → nat_eq a b ≡ true
is_same a b e = grind (arith, nat_tests)

above_of : (a b : ℕ) → nat_lt a b ≡ false → nat_eq a b ≡ false → b < a
above_of a b e d = grind (arith, nat_tests)

-- ---- a frame with those of a list

-- the first of a list and the rest of it, with a frame, by how their places compare
abbrev with_by : (below same : Bool) → (f g : FrameAt) → (frames rest : List FrameAt) → List FrameAt
with_by below same f g frames rest = if below then f ∷ g ∷ frames else if same then g ∷ frames else g ∷ rest

-- behind the first
pub with_behind : (f g : FrameAt) (frames : List FrameAt) → g.at < f.at → with_frame f (g ∷ frames) ≡ g ∷ with_frame f frames
with_behind f g frames lt =
    ap₂ (λ (t u : Bool). with_by t u f g frames (with_frame f frames)) (is_not_below f.at g.at (omega (arith, lt))) (is_apart f.at g.at lt)

-- at the first
pub with_same : (f g : FrameAt) (frames : List FrameAt) → g.at ≡ f.at → with_frame f (g ∷ frames) ≡ g ∷ frames
with_same f g frames e =
    ap₂ (λ (t u : Bool). with_by t u f g frames (with_frame f frames)) (is_not_below f.at g.at (omega (arith, e))) (is_same f.at g.at (sym e))

-- in front of the first
pub with_before : (f g : FrameAt) (frames : List FrameAt) → f.at < g.at → with_frame f (g ∷ frames) ≡ f ∷ g ∷ frames
with_before f g frames lt = ap (λ (t : Bool). with_by t (nat_eq f.at g.at) f g frames (with_frame f frames)) (is_below f.at g.at lt)

-- ---- what is listed

with_cases : (f : FrameAt) (frames : List FrameAt) (g : FrameAt) → Contains (with_frame f frames) g → (f ≡ g) ⊎ Contains frames g
with_cases f [] g c = inl (contains_one f g c)
with_cases f (h ∷ frames) g c = by (λ later. with_cases f frames g later) (nat_lt f.at h.at) (nat_eq f.at h.at) c
  where
    by : (Contains (with_frame f frames) g → (f ≡ g) ⊎ Contains frames g) → (t u : Bool)
        → Contains (with_by t u f h frames (with_frame f frames)) g → (f ≡ g) ⊎ Contains (h ∷ frames) g
    by rest true u c = which_in f (h ∷ frames) g c
    by rest false true c = inr c
    by rest false false c =
        ⊎_elim (λ same. inr (subst (λ x. Contains (h ∷ frames) x) same (first_in h frames)))
        (λ later. ⊎_elim (λ same. inl same) (λ more. inr (later_in h frames g more)) (rest later))
        (which_in h (with_frame f frames) g c)

-- a frame of these stands at the place
abbrev pub IsThere : List FrameAt → (place : ℕ) → Type 0
IsThere frames place = (g : FrameAt) × Contains frames g × (g.at ≡ place)

there_later : (h : FrameAt) (frames : List FrameAt) (place : ℕ) → IsThere frames place → IsThere (h ∷ frames) place
there_later h frames place (g, c, e) = (g, later_in h frames g c, e)

-- the frame is one of them then, or another stands at its place
with_here : (f : FrameAt) (frames : List FrameAt) → Contains (with_frame f frames) f ⊎ IsThere frames f.at
with_here f [] = inl (first_in f [])
with_here f (h ∷ frames) = by (nat_lt f.at h.at) (nat_eq f.at h.at) refl (with_here f frames)
  where
    by : (t u : Bool) → nat_eq f.at h.at ≡ u → Contains (with_frame f frames) f ⊎ IsThere frames f.at
        → Contains (with_by t u f h frames (with_frame f frames)) f ⊎ IsThere (h ∷ frames) f.at
    by true u e more = inl (first_in f (h ∷ frames))
    by false true e more = inr (h, first_in h frames, sym (eqb-true f.at h.at e))
    by false false e more =
        ⊎_elim (λ here. inl (later_in h (with_frame f frames) f here)) (λ there. inr (there_later h frames f.at there)) more

with_others : (f : FrameAt) (frames : List FrameAt) (g : FrameAt) → Contains frames g → Contains (with_frame f frames) g
with_others f [] g c = absurd (none_in g c)
with_others f (h ∷ frames) g c = by (λ later. with_others f frames g later) (nat_lt f.at h.at) (nat_eq f.at h.at)
  where
    by : (Contains frames g → Contains (with_frame f frames) g) → (t u : Bool)
        → Contains (with_by t u f h frames (with_frame f frames)) g
    by rest true u = later_in f (h ∷ frames) g c
    by rest false true = c
    by rest false false =
        ⊎_elim (λ same. subst (λ x. Contains (h ∷ with_frame f frames) x) same (first_in h (with_frame f frames)))
        (λ later. later_in h (with_frame f frames) g (rest later)) (which_in h frames g c)

pub merged_cases : (frames others : List FrameAt) (g : FrameAt) → Contains (merged frames others) g → Contains frames g ⊎ Contains others g
merged_cases frames [] g c = inl c
merged_cases frames (f ∷ others) g c =
    ⊎_elim (λ same. inr (subst (λ x. Contains (f ∷ others) x) same (first_in f others)))
    (λ more. ⊎_elim (λ old. inl old) (λ later. inr (later_in f others g later)) (merged_cases frames others g more))
    (with_cases f (merged frames others) g c)

pub merged_left : (frames others : List FrameAt) (g : FrameAt) → Contains frames g → Contains (merged frames others) g
merged_left frames [] g c = c
merged_left frames (f ∷ others) g c = with_others f (merged frames others) g (merged_left frames others g c)

-- of the others each is one of them, or one of the frames stands at its place
pub merged_right : (frames others : List FrameAt) (from : ℕ) → RiseFrom from others → (g : FrameAt) → Contains others g
    → Contains (merged frames others) g ⊎ IsThere frames g.at
merged_right frames [] from r g c = absurd (none_in g c)
merged_right frames (f ∷ others) from r g c =
    ⊎_elim
    (λ same. subst (λ x. Contains (with_frame f (merged frames others)) x ⊎ IsThere frames x.at) same
    (⊎_elim (λ here. inl here) (λ there. inr (in_first there)) (with_here f (merged frames others))))
    (λ later. ⊎_elim (λ here. inl (with_others f (merged frames others) g here)) (λ there. inr there) (merged_right frames others (f.at + 1) r.1 g later))
    (which_in f others g c)
  where
    in_first : IsThere (merged frames others) f.at → IsThere frames f.at
    in_first (h, d, e) =
        ⊎_elim (λ old. (h, old, e))
        (λ later. let above = risen (f.at + 1) others h r.1 later in absurd (omega (arith, above, e)))
        (merged_cases frames others h d)

-- a frame at whose place one of them stands changes nothing
pub with_there : (from : ℕ) (f : FrameAt) (frames : List FrameAt) → RiseFrom from frames → IsThere frames f.at → with_frame f frames ≡ frames
with_there from f [] r (g, c, e) = absurd (none_in g c)
with_there from f (h ∷ frames) r (g, c, e) =
    ⊎_elim (λ same. with_same f h frames (ap (λ (x : FrameAt). x.at) same ∙ e))
    (λ later.
    let above = risen (h.at + 1) frames g r.1 later in
    with_behind f h frames (omega (arith, above, e)) ∙ ap (λ (l : List FrameAt). h ∷ l) (with_there (h.at + 1) f frames r.1 (g, later, e)))
    (which_in h frames g c)

-- ---- their order

with_rises : (from : ℕ) (f : FrameAt) (frames : List FrameAt) → RiseFrom from frames → from ≤ f.at → RiseFrom from (with_frame f frames)
with_rises from f [] r le = (le, tt)
with_rises from f (h ∷ frames) r le =
    by (λ above. with_rises (h.at + 1) f frames r.1 above) (nat_lt f.at h.at) refl (nat_eq f.at h.at) refl
  where
    by : (h.at + 1 ≤ f.at → RiseFrom (h.at + 1) (with_frame f frames)) → (t : Bool) → nat_lt f.at h.at ≡ t → (u : Bool) → nat_eq f.at h.at ≡ u
        → RiseFrom from (with_by t u f h frames (with_frame f frames))
    by rest true e u d = let below = ltb-true f.at h.at e in (le, (omega (arith, below), r.1))
    by rest false e true d = r
    by rest false e false d = let above = above_of f.at h.at e d in (r.0, rest (omega (arith, above)))

pub merged_rises : (frames others : List FrameAt) → RiseFrom 0 frames → RiseFrom 0 (merged frames others)
merged_rises frames [] r = r
merged_rises frames (f ∷ others) r = with_rises 0 f (merged frames others) (merged_rises frames others r) (omega arith)

-- ---- those behind wide jumps

used_at : (wide : WideSet) (f : FrameAt) → is_used_by wide f.at ≡ true → IsUsed wide f
used_at wide f e = by f.at refl e
  where
    by : (place : ℕ) → f.at ≡ place → is_used_by wide place ≡ true → IsUsed wide f
    by zero is t = absurd cc
    by (suc q) is t = (q, omega (arith, is), t)

pub is_used : (wide : WideSet) (f : FrameAt) → IsUsed wide f → is_used_by wide f.at ≡ true
is_used wide f (q, is, t) = ap (is_used_by wide) {x = f.at} {y = suc q} (omega (arith, is)) ∙ t

pub used_cases : (wide : WideSet) (frames : List FrameAt) (g : FrameAt) → Contains (used_frames wide frames) g → Contains frames g × IsUsed wide g
used_cases wide [] g c = absurd (none_in g c)
used_cases wide (f ∷ frames) g c = by (λ d. used_cases wide frames g d) (is_used_by wide f.at) refl c
  where
    by : (Contains (used_frames wide frames) g → Contains frames g × IsUsed wide g) → (t : Bool) → is_used_by wide f.at ≡ t
        → Contains (if t then f ∷ used_frames wide frames else used_frames wide frames) g → Contains (f ∷ frames) g × IsUsed wide g
    by rest true is c =
        ⊎_elim (λ same. subst (λ x. Contains (f ∷ frames) x × IsUsed wide x) same (first_in f frames, used_at wide f is))
        (λ later. let p = rest later in (later_in f frames g p.0, p.1))
        (which_in f (used_frames wide frames) g c)
    by rest false is c = let p = rest c in (later_in f frames g p.0, p.1)

pub used_in : (wide : WideSet) (frames : List FrameAt) (g : FrameAt) → Contains frames g → IsUsed wide g → Contains (used_frames wide frames) g
used_in wide [] g c u = absurd (none_in g c)
used_in wide (f ∷ frames) g c u = by (λ d. used_in wide frames g d u) (is_used_by wide f.at) refl (which_in f frames g c)
  where
    by : (Contains frames g → Contains (used_frames wide frames) g) → (t : Bool) → is_used_by wide f.at ≡ t → (f ≡ g) ⊎ Contains frames g
        → Contains (if t then f ∷ used_frames wide frames else used_frames wide frames) g
    by rest true is (inl same) = subst (λ x. Contains (f ∷ used_frames wide frames) x) same (first_in f (used_frames wide frames))
    by rest true is (inr later) = later_in f (used_frames wide frames) g (rest later)
    by rest false is (inl same) = absurd (differ (sym is ∙ ap (λ (x : FrameAt). is_used_by wide x.at) same ∙ is_used wide g u))
      where
        differ : false ≡ true → ⊥
        differ e = cc
    by rest false is (inr later) = rest later

pub rising_weaker : (a b : ℕ) (frames : List FrameAt) → b ≤ a → RiseFrom a frames → RiseFrom b frames
rising_weaker a b [] le r = tt
rising_weaker a b (f ∷ frames) le r = let above = r.0 in (omega (arith, le, above), r.1)

pub used_rise : (wide : WideSet) (from : ℕ) (frames : List FrameAt) → RiseFrom from frames → RiseFrom from (used_frames wide frames)
used_rise wide from [] r = tt
used_rise wide from (f ∷ frames) r = by (is_used_by wide f.at) (used_rise wide (f.at + 1) frames r.1)
  where
    by : (t : Bool) → RiseFrom (f.at + 1) (used_frames wide frames) → RiseFrom from (if t then f ∷ used_frames wide frames else used_frames wide frames)
    by true rest = (r.0, rest)
    by false rest = let above = r.0 in rising_weaker (f.at + 1) from (used_frames wide frames) (omega (arith, above)) rest

-- ---- in the wide form of code

pub some_width : (flow : Flow) (wide : Bool) → 1 ≤ widths_by flow wide
some_width flows.Branches true = omega arith
some_width flow wide = omega arith

module _ (wide : WideSet) where
  places_rise : (n : ℕ) (code : List Insn) (i j : ℕ) → i < j → wide_place_from wide n code i < wide_place_from wide n code j
  places_rise n [] i j lt = lt
  places_rise n (insn ∷ code) i zero lt = absurd (omega (arith, lt))
  places_rise n (insn ∷ code) zero (suc j) lt = let some = some_width (flow_of insn) (wide n) in omega (arith, some)
  places_rise n (insn ∷ code) (suc i) (suc j) lt = let more = places_rise (suc n) code i j (omega (arith, lt)) in omega (arith, more)

  pub wide_places_rise : (code : List Insn) (i j : ℕ) → i < j → wide_place wide code i < wide_place wide code j
  wide_places_rise code i j lt = places_rise 0 code i j lt

  widened_rise : (code : List Insn) (a b : ℕ) (frames : List FrameAt) → RiseFrom a frames
      → ((r : ℕ) → a ≤ r → b ≤ wide_place wide code r) → RiseFrom b (map (widened_frame (wide_place wide code)) frames)
  widened_rise code a b [] r h = tt
  widened_rise code a b (f ∷ frames) r h = (
    h f.at r.0,
    widened_rise code (f.at + 1) (wide_place wide code f.at + 1) frames r.1
        (λ q le. let up = wide_places_rise code f.at q (omega (arith, le)) in omega (arith, up)),
  )

  pub rising_widened : (code : List Insn) (frames : List FrameAt) → RiseFrom 0 frames → RiseFrom 0 (map (widened_frame (wide_place wide code)) frames)
  rising_widened code frames r = widened_rise code 0 0 frames r (λ q le. omega arith)
