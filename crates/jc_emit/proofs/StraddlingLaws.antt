-- The first instruction with a long or a double round the local variable behind the arguments, and where frames stand.
use Rattle.std.proofs.Common.{◌≡◌, ◌⊎◌, inl, inr, ⊎_elim, ℕ, ◌+◌, ◌<◌, ◌≤◌, Bool, true, false, List, [], ◌∷◌, ◌++◌, length, take, get_or, Option, Some, None, nat_lt, if◌then◌else◌, refl, sym, ap, ◌∙◌, subst, arith}
use Rattle.std.specs.Prelude.{Contains, slice_get}
use Rattle.std.proofs.lemmas.Bool.{cases_lt, ltb-true, ltb-false}
use Rattle.std.proofs.lemmas.List.{take_more, take_all}
use Rattle.std.proofs.lemmas.List.Elements.{Contains-append_left, Contains-append_right, Contains-append_cases}
use Rattle.std.proofs.lemmas.Option.{slice_get_within, slice_get-get_or, same_Some}
use Rattle.jc_methods.specs.declared.insn.Insn.{Insn}
use Rattle.jc_methods.specs.declared.body.Body.{Body}
use Rattle.jc_methods.specs.declared.body.FrameAt.{FrameAt}
use Rattle.jc_methods.specs.WellMade.{AreFramesFrom}
use Rattle.jc_bytes.proofs.BooleanLaws.{none_in, which_in}
use Rattle.jc_kinds_after.specs.Shift.{Straddles}
use Rattle.jc_emit.specs.Straddling.{InsnStraddles, FramesStraddle, IsFirstOf, IsFirstStraddling, lesser}

-- ---- frames

-- each frame of a body stands at one of its instructions
pub frame_within : (first : ℕ) (code : List Insn) (max_locals max_stack : ℕ) (frames : List FrameAt)
    → AreFramesFrom first code max_locals max_stack frames → (f : FrameAt) → Contains frames f → f.at < length code
frame_within first code max_locals max_stack [] a f c = absurd (none_in f c)
frame_within first code max_locals max_stack (g ∷ frames) a f c =
    ⊎_elim (λ same. subst (λ z. z.at < length code) same a.1)
    (λ later. frame_within (g.at + 1) code max_locals max_stack frames a.3 f later)
    (which_in g frames f c)

-- ---- the first place

-- the lesser of two first places is the first place of either
pub first_lesser : (F G : ℕ → Type 0) (a b : Option ℕ) → IsFirstOf F a → IsFirstOf G b → IsFirstOf (λ i. F i ⊎ G i) (lesser a b)
first_lesser F G None None f g = λ i h. ⊎_elim (λ x. f i x) (λ y. g i y) h
first_lesser F G None (Some b) f g = record {
  there = inr g.there;
  first = λ i less h. ⊎_elim (λ x. f i x) (λ y. g.first i less y) h;
}
first_lesser F G (Some a) None f g = record {
  there = inl f.there;
  first = λ i less h. ⊎_elim (λ x. f.first i less x) (λ y. g i y) h;
}
first_lesser F G (Some a) (Some b) f g = by (nat_lt a b) refl
  where
    by : (t : Bool) → nat_lt a b ≡ t → IsFirstOf (λ i. F i ⊎ G i) (Some (if t then a else b))
    by true e = let lt = ltb-true a b e in record {
      there = inl f.there;
      first = λ i less h. ⊎_elim (λ x. f.first i less x) (λ y. g.first i (omega (arith, less, lt)) y) h;
    }
    by false e = let ge = ltb-false a b e in record {
      there = inr g.there;
      first = λ i less h. ⊎_elim (λ x. f.first i (omega (arith, less, ge)) x) (λ y. g.first i less y) h;
    }

-- something else that holds at the same places
first_instead : (F G : ℕ → Type 0) (o : Option ℕ) → ((i : ℕ) → F i → G i) → ((i : ℕ) → G i → F i) → IsFirstOf F o → IsFirstOf G o
first_instead F G None to back f = λ i g. f i (back i g)
first_instead F G (Some place) to back f = record { there = to place f.there; first = λ i less g. f.first i less (back i g) }

-- ---- the first instruction

-- none straddles up to one that doesn't either
pub insn_next : (v : ℕ) (code : List Insn) (at : ℕ) (insn : Insn) → at < length code → insn ≡ get_or code at insn
    → (Straddles v insn → ⊥) → ((k : ℕ) → k < at → InsnStraddles v code k → ⊥)
    → (k : ℕ) → k < at + 1 → InsnStraddles v code k → ⊥
insn_next v code at insn within is free before k lt s =
    ⊎_elim (λ less. before k less s)
    (λ ge.
    let same : k ≡ at = omega (arith, ge, lt) in
    let stands : slice_get code at ≡ Some insn = slice_get-get_or code at insn within ∙ ap Some (sym is) in
    free (subst (Straddles v) (same_Some s.0 insn (sym s.1 ∙ ap (slice_get code) same ∙ stands)) s.2))
    (cases_lt k at)

pub insn_none : (v : ℕ) (code : List Insn) (end : ℕ) → length code ≤ end → ((k : ℕ) → k < end → InsnStraddles v code k → ⊥)
    → IsFirstOf (InsnStraddles v code) None
insn_none v code end le before = λ i s. let lt = slice_get_within code i s.0 s.1 in before i (omega (arith, lt, le)) s

-- ---- the first frame

pub next_frame : (v : ℕ) (frames : List FrameAt) (i : ℕ) (f : FrameAt) (a o : Option ℕ) → i < length frames → f ≡ get_or frames i f
    → IsFirstOf (FramesStraddle v (take i frames)) a → IsFirstOf (FramesStraddle v (f ∷ [])) o
    → IsFirstOf (FramesStraddle v (take (i + 1) frames)) (lesser a o)
next_frame v frames i f a o lt is old new =
    let more = take_more frames i f lt ∙ ap (λ (g : FrameAt). take i frames ++ g ∷ []) (sym is) in
    subst (λ (l : List FrameAt). IsFirstOf (FramesStraddle v l) (lesser a o)) (sym more)
    (first_instead (λ j. FramesStraddle v (take i frames) j ⊎ FramesStraddle v (f ∷ []) j) (FramesStraddle v (take i frames ++ f ∷ []))
    (lesser a o)
    (λ j e. ⊎_elim
    (λ s. (s.0, Contains-append_left (take i frames) (f ∷ []) s.0 s.1, s.2, s.3))
    (λ s. (s.0, Contains-append_right (take i frames) (f ∷ []) s.0 s.1, s.2, s.3))
    e)
    (λ j s. ⊎_elim (λ c. inl (s.0, c, s.2, s.3)) (λ c. inr (s.0, c, s.2, s.3)) (Contains-append_cases (take i frames) (f ∷ []) s.0 s.1))
    (first_lesser (FramesStraddle v (take i frames)) (FramesStraddle v (f ∷ [])) a o old new))

pub all_frames : (v : ℕ) (frames : List FrameAt) (i : ℕ) (o : Option ℕ) → length frames ≤ i
    → IsFirstOf (FramesStraddle v (take i frames)) o → IsFirstOf (FramesStraddle v frames) o
all_frames v frames i o le first = subst (λ (l : List FrameAt). IsFirstOf (FramesStraddle v l) o) (take_all i frames le) first

-- ---- the first of both

pub first_of_both : (b : Body) (a o found : Option ℕ) → found ≡ lesser a o → IsFirstOf (InsnStraddles b.arg_slots b.code) a
    → IsFirstOf (FramesStraddle b.arg_slots b.frames) o → IsFirstStraddling b found
first_of_both b a o found is one other =
    subst (IsFirstStraddling b) (sym is)
    (first_lesser (InsnStraddles b.arg_slots b.code) (FramesStraddle b.arg_slots b.frames) a o one other)
