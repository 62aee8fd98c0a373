-- Lists of frames in rising order.
use Rattle.std.proofs.Common.{◌≡◌, ⊎_elim, ℕ, zero, suc, ◌+◌, ◌<◌, ◌≤◌, Bool, true, false, List, [], ◌∷◌, ◌++◌, refl, ap, subst, arith}
use Rattle.std.specs.Prelude.{Contains}
use Rattle.std.proofs.lemmas.Bool.{cases_lt}
use Rattle.std.proofs.lemmas.List.Elements.{Contains-append_left, Contains-append_right, Contains-append_cases}
use Rattle.jc_bytes.specs.PlainLists.{pieces}
use Rattle.jc_methods.specs.declared.body.FrameAt.{FrameAt}
use Rattle.jc_bytes.proofs.FirstSeenLaws.{contains_one}
use Rattle.jc_methods.specs.FrameOrder.{RiseFrom}
use Rattle.jc_bytes.proofs.BooleanLaws.{none_in, which_in, first_in}
use Rattle.jc_emit.specs.Emission.{frame_if}

-- each stands behind the one before it, from a place on and below another
abbrev pub Rises : ℕ → ℕ → List FrameAt → Type 0
Rises from to [] = from ≤ to
Rises from to (f ∷ frames) = (from ≤ f.at) × Rises (f.at + 1) to frames

pub rises_from : (a b c : ℕ) (frames : List FrameAt) → a ≤ b → Rises b c frames → Rises a c frames
rises_from a b c [] le r = omega (arith, le, r)
rises_from a b c (f ∷ frames) le r = (omega (arith, le, r.0), r.1)

pub rises_to : (a b c : ℕ) (frames : List FrameAt) → b ≤ c → Rises a b frames → Rises a c frames
rises_to a b c [] le r = omega (arith, le, r)
rises_to a b c (f ∷ frames) le r = (r.0, rises_to (f.at + 1) b c frames le r.1)

pub rises_both : (a b c : ℕ) (xs ys : List FrameAt) → Rises a b xs → Rises b c ys → Rises a c (xs ++ ys)
rises_both a b c [] ys r s = rises_from a b c ys r s
rises_both a b c (f ∷ xs) ys r s = (r.0, rises_both (f.at + 1) b c xs ys r.1 s)

pub rises_pieces : (g : ℕ → List FrameAt) (at : ℕ → ℕ) → ((i : ℕ) → Rises (at i) (at (suc i)) (g i)) → (n : ℕ)
    → Rises (at 0) (at n) (pieces g n)
rises_pieces g at r zero = omega arith
rises_pieces g at r (suc n) = rises_both (at 0) (at n) (at (suc n)) (pieces g n) (g n) (rises_pieces g at r n) (r n)

pub are_rising : (a b : ℕ) (frames : List FrameAt) → Rises a b frames → RiseFrom a frames
are_rising a b [] r = tt
are_rising a b (f ∷ frames) r = (r.0, are_rising (f.at + 1) b frames r.1)

-- it stands between them
pub rises_within : (a b : ℕ) (frames : List FrameAt) → Rises a b frames → (f : FrameAt) → Contains frames f → (a ≤ f.at) × (f.at < b)
rises_within a b [] r f c = absurd (none_in f c)
rises_within a b (g ∷ frames) r f c =
    ⊎_elim
    (λ same. let e : g.at ≡ f.at = ap (λ x. x.at) same in let end = rises_end (g.at + 1) b frames r.1 in (omega (arith, e, r.0), omega (arith, e, end)))
    (λ later. let w = rises_within (g.at + 1) b frames r.1 f later in (omega (arith, w.0, r.0), w.1))
    (which_in g frames f c)
  where
    rises_end : (a b : ℕ) (frames : List FrameAt) → Rises a b frames → a ≤ b
    rises_end a b [] r = r
    rises_end a b (f ∷ frames) r = let more = rises_end (f.at + 1) b frames r.1 in omega (arith, more, r.0)

-- ---- pieces

pub record InPiece (g : ℕ → List FrameAt) (n : ℕ) (f : FrameAt) : Type 0 where
  pub piece : ℕ
  pub within : piece < n
  pub listed : Contains (g piece) f

pub in_piece : (g : ℕ → List FrameAt) (n : ℕ) (f : FrameAt) → Contains (pieces g n) f → InPiece g n f
in_piece g zero f c = absurd (none_in f c)
in_piece g (suc n) f c =
    ⊎_elim (λ front. let p = in_piece g n f front in let w = p.within in record { piece = p.piece; within = omega arith; listed = p.listed })
    (λ last. record { piece = n; within = omega arith; listed = last })
    (Contains-append_cases (pieces g n) (g n) f c)

pub of_piece : (g : ℕ → List FrameAt) (n i : ℕ) (f : FrameAt) → i < n → Contains (g i) f → Contains (pieces g n) f
of_piece g zero i f lt c = absurd (omega arith)
of_piece g (suc n) i f lt c =
    ⊎_elim (λ below. Contains-append_left (pieces g n) (g n) f (of_piece g n i f below c))
    (λ above. let e : i ≡ n = omega arith in Contains-append_right (pieces g n) (g n) f (subst (λ k. Contains (g k) f) e c))
    (cases_lt i n)

-- ---- one frame or none

pub if_listed : (t : Bool) (f g : FrameAt) → Contains (frame_if t f) g → (t ≡ true) × (f ≡ g)
if_listed true f g c = (refl, contains_one f g c)
if_listed false f g c = absurd (none_in g c)

pub listed_if : (t : Bool) (f : FrameAt) → t ≡ true → Contains (frame_if t f) f
listed_if true f e = first_in f ([])
listed_if false f e = cc

pub rises_if : (t : Bool) (f : FrameAt) (a b : ℕ) → (t ≡ true → (a ≤ f.at) × (f.at < b)) → a ≤ b → Rises a b (frame_if t f)
rises_if true f a b h le = let w = h refl in (w.0, omega (arith, w.1))
rises_if false f a b h le = le
