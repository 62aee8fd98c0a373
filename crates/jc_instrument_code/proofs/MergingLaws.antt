-- Frames of two lists, one after the other.
use Rattle.std.proofs.Common.{◌≡◌, ◌⊎◌, inl, inr, ℕ, zero, suc, ◌+◌, ◌<◌, ◌≤◌, Bool, true, false, List, [], ◌∷◌, ◌++◌, length, drop, get_or, nat_lt, nat_eq, if◌then◌else◌, refl, sym, ◌∙◌, ap, subst, arith, append_assoc, length-drop, true≢false}
use Rattle.std.specs.Prelude.{⊤}
use Rattle.std.specs.List.{slice_range}
use Rattle.std.proofs.lemmas.Bool.{cases_lt, ltb-true, eqb-true}
use Rattle.std.proofs.lemmas.Bool.Decides.{nat_tests}
use Rattle.std.proofs.lemmas.List.{drop_all, get_or_default, take_rest}
use Rattle.jc_bytes.proofs.AppendingLaws.{drop_is}
use Rattle.jc_methods.specs.FrameOrder.{RiseFrom}
use Rattle.jc_methods.specs.declared.body.FrameAt.{FrameAt}
use Rattle.jc_layout.specs.Merged.{with_frame, merged}
use Rattle.jc_layout.proofs.MergedLaws.{rising_weaker, with_before, with_behind, with_same}
use Rattle.jc_instrument_code.specs.Merging.{other_first, same_first}

-- ---- frames in rising order

rising_left : (frames : List FrameAt) (k a : ℕ) → RiseFrom a frames → RiseFrom 0 (drop k frames)
rising_left frames zero a r = rising_weaker a 0 frames (omega arith) r
rising_left [] (suc k) a r = tt
rising_left (f ∷ frames) (suc k) a r = rising_left frames k (f.at + 1) r.1

-- ---- the first frame

-- the first frame, if there is one, stands there or behind
abbrev BeginsFrom : ℕ → List FrameAt → Type 0
BeginsFrom n [] = ⊤
BeginsFrom n (f ∷ frames) = n ≤ f.at

begins : (n : ℕ) (frames others : List FrameAt) → RiseFrom n frames → RiseFrom n others → BeginsFrom n (merged frames others)
begins n [] [] r s = tt
begins n (f ∷ frames) [] r s = r.0
begins n frames (o ∷ others) r s =
    with_begins (merged frames others) (begins n frames others r (rising_weaker (o.at + 1) n others (let above = s.0 in omega (arith, above)) s.1))
  where
    with_begins : (all : List FrameAt) → BeginsFrom n all → BeginsFrom n (with_frame o all)
    with_begins [] b = s.0
    with_begins (g ∷ all) b = by (nat_lt o.at g.at) (nat_eq o.at g.at)
      where
        by : (t u : Bool) → BeginsFrom n (if t then o ∷ g ∷ all else if u then g ∷ all else g ∷ with_frame o all)
        by true u = s.0
        by false true = b
        by false false = b

with_front : (o : FrameAt) (all : List FrameAt) → BeginsFrom (o.at + 1) all → with_frame o all ≡ o ∷ all
with_front o [] b = refl
with_front o (g ∷ all) b = with_before o g all (omega (arith, b))

other_before : (o : FrameAt) (frames others : List FrameAt) → RiseFrom (o.at + 1) frames → RiseFrom (o.at + 1) others
    → merged frames (o ∷ others) ≡ o ∷ merged frames others
other_before o frames others r s = with_front o (merged frames others) (begins (o.at + 1) frames others r s)

frame_before : (f : FrameAt) (frames others : List FrameAt) → RiseFrom (f.at + 1) others → merged (f ∷ frames) others ≡ f ∷ merged frames others
frame_before f frames [] s = refl
frame_before f frames (o ∷ others) s =
    let above = s.0 in
    ap (λ (l : List FrameAt). with_frame o l) (frame_before f frames others (rising_weaker (o.at + 1) (f.at + 1) others (omega (arith, above)) s.1))
    ∙ with_behind o f (merged frames others) (omega (arith, above))

-- the other frame is left out where the first of these stands at its place
other_left : (f o : FrameAt) (frames others : List FrameAt) → RiseFrom (o.at + 1) others → o.at ≡ f.at
    → merged (f ∷ frames) (o ∷ others) ≡ merged (f ∷ frames) others
other_left f o frames others s e =
    let front = frame_before f frames others (subst (λ n. RiseFrom (n + 1) others) e s) in
    ap (λ (l : List FrameAt). with_frame o l) front ∙ with_same o f (merged frames others) (sym e) ∙ sym front

-- ---- the test

some_first : (others : List FrameAt) → 0 < length others → other_first [] others ≡ true
some_first [] lt = absurd (omega (arith, lt))
some_first (o ∷ others) lt = refl

-- where one of the others comes first, all of these frames stand behind it
first_before : (o : FrameAt) (frames others : List FrameAt) → RiseFrom 0 frames → true ≡ other_first frames (o ∷ others) → RiseFrom (o.at + 1) frames
first_before o [] others r e = tt
first_before o (f ∷ frames) others r e = let less = ltb-true o.at f.at (sym e) in (omega (arith, less), r.1)

-- where the first of the others stands neither in front of the first frame nor at its place, all of them stand behind it
none_before : (f : FrameAt) (frames others : List FrameAt) → RiseFrom 0 others → false ≡ other_first (f ∷ frames) others
    → false ≡ same_first (f ∷ frames) others → RiseFrom (f.at + 1) others
none_before f frames [] r e d = tt
none_before f frames (o ∷ others) r e d = (above_of o.at f.at (sym e) (sym d), r.1)
  where
    above_of : (a b : ℕ) → nat_lt a b ≡ false → nat_eq a b ≡ false → b + 1 ≤ a
    above_of a b above apart = grind (arith, nat_tests)

none_same : (frames : List FrameAt) → same_first frames ([]) ≡ false
none_same [] = refl
none_same (f ∷ frames) = refl

-- a frame of a list that has one
some_frame : (frames : List FrameAt) → 0 < length frames → FrameAt
some_frame [] lt = absurd (omega (arith, lt))
some_frame (f ∷ frames) lt = f

other_out : (o : FrameAt) (others frames : List FrameAt) → RiseFrom (o.at + 1) others → true ≡ same_first frames (o ∷ others)
    → merged frames (o ∷ others) ≡ merged frames others
other_out o others [] s e = absurd (true≢false e)
other_out o others (f ∷ frames) s e = other_left f o frames others s (eqb-true o.at f.at (sym e))

-- ---- in a loop

module _ (frames others : List FrameAt) (at other : ℕ) where
  abbrev First : Bool → Type 0
  First t = t ≡ other_first (slice_range frames at (length frames)) (slice_range others other (length others))

  abbrev Same : Bool → Type 0
  Same t = t ≡ same_first (slice_range frames at (length frames)) (slice_range others other (length others))

  same_is : (t : Bool) → Same t → t ≡ same_first (drop at frames) (drop other others)
  same_is t e =
      e ∙ ap (λ (l : List FrameAt). same_first l (slice_range others other (length others))) (take_rest frames at)
      ∙ ap (λ (l : List FrameAt). same_first (drop at frames) l) (take_rest others other)

  first_is : (t : Bool) → First t → t ≡ other_first (drop at frames) (drop other others)
  first_is t e =
      e ∙ ap (λ (l : List FrameAt). other_first l (slice_range others other (length others))) (take_rest frames at)
      ∙ ap (λ (l : List FrameAt). other_first (drop at frames) l) (take_rest others other)

  -- no other frame comes first, and some frame is left, so one of these is
  pub frame_there : First false → (at < length frames) ⊎ (other < length others) → at < length frames
  frame_there e left = elim (cases_lt at (length frames)) [
    | inl less ↦ less
    | inr done ↦ elim left [
      | inl less ↦ less
      | inr more ↦
          let size = length-drop other others in
          let is = first_is false e ∙ ap (λ (l : List FrameAt). other_first l (drop other others)) (drop_all at frames done)
          ∙ some_first (drop other others) (omega (arith, size, more)) in
          absurd (true≢false (sym is))
    ]
  ]

  -- an other frame that comes first is one of those that are left
  pub other_there : First true → other < length others
  other_there e = elim (cases_lt other (length others)) [
    | inl less ↦ less
    | inr done ↦
        let is = first_is true e ∙ ap (λ (l : List FrameAt). other_first (drop at frames) l) (drop_all other others done) in absurd (true≢false is)
  ]

  pub takes_other : RiseFrom 0 frames → RiseFrom 0 others → (o copy : FrameAt) (all next whole : List FrameAt) → other < length others
      → o ≡ get_or others other o → First true → copy ≡ o → next ≡ all ++ copy ∷ []
      → all ++ merged (drop at frames) (drop other others) ≡ whole → next ++ merged (drop at frames) (drop (other + 1) others) ≡ whole
  takes_other r s o copy all next whole lt is first same grown before =
      let rest = drop (other + 1) others in
      let split = drop_is others other o lt is in
      let left = subst (λ (l : List FrameAt). RiseFrom 0 l) split (rising_left others other 0 s) in
      let behind = first_before o (drop at frames) rest (rising_left frames at 0 r)
      (first_is true first ∙ ap (λ (l : List FrameAt). other_first (drop at frames) l) split) in
      ap (λ (l : List FrameAt). l ++ merged (drop at frames) rest) (grown ∙ ap (λ (x : FrameAt). all ++ x ∷ []) same)
      ∙ append_assoc all (o ∷ []) (merged (drop at frames) rest)
      ∙ ap (λ (l : List FrameAt). all ++ l) (sym (other_before o (drop at frames) rest behind left.1))
      ∙ ap (λ (l : List FrameAt). all ++ merged (drop at frames) l) (sym split)
      ∙ before

  -- an other frame that stands at the place of a frame is one of those that are left, and is left out
  pub same_there : Same true → other < length others
  same_there e = elim (cases_lt other (length others)) [
    | inl less ↦ less
    | inr done ↦
        let is = same_is true e ∙ ap (λ (l : List FrameAt). same_first (drop at frames) l) (drop_all other others done) in
        absurd (true≢false (is ∙ none_same (drop at frames)))
  ]

  pub leaves_other : RiseFrom 0 others → (all whole : List FrameAt) → Same true
      → all ++ merged (drop at frames) (drop other others) ≡ whole → all ++ merged (drop at frames) (drop (other + 1) others) ≡ whole
  leaves_other s all whole same before =
      let lt = same_there same in
      let any = some_frame others (omega (arith, lt)) in
      let o = get_or others other any in
      let rest = drop (other + 1) others in
      let split = drop_is others other o lt (get_or_default others other any o lt) in
      let left = subst (λ (l : List FrameAt). RiseFrom 0 l) split (rising_left others other 0 s) in
      let at_first = same_is true same ∙ ap (λ (l : List FrameAt). same_first (drop at frames) l) split in
      ap (λ (l : List FrameAt). all ++ l) (sym (other_out o rest (drop at frames) left.1 at_first))
      ∙ ap (λ (l : List FrameAt). all ++ merged (drop at frames) l) (sym split)
      ∙ before

  pub takes_frame : RiseFrom 0 others → (f copy : FrameAt) (all next whole : List FrameAt) → at < length frames
      → f ≡ get_or frames at f → First false → Same false → copy ≡ f → next ≡ all ++ copy ∷ []
      → all ++ merged (drop at frames) (drop other others) ≡ whole → next ++ merged (drop (at + 1) frames) (drop other others) ≡ whole
  takes_frame s f copy all next whole lt is first apart same grown before =
      let rest = drop (at + 1) frames in
      let split = drop_is frames at f lt is in
      let behind = none_before f rest (drop other others) (rising_left others other 0 s)
      (first_is false first ∙ ap (λ (l : List FrameAt). other_first l (drop other others)) split)
      (same_is false apart ∙ ap (λ (l : List FrameAt). same_first l (drop other others)) split) in
      ap (λ (l : List FrameAt). l ++ merged rest (drop other others)) (grown ∙ ap (λ (x : FrameAt). all ++ x ∷ []) same)
      ∙ append_assoc all (f ∷ []) (merged rest (drop other others))
      ∙ ap (λ (l : List FrameAt). all ++ l) (sym (frame_before f rest (drop other others) behind))
      ∙ ap (λ (l : List FrameAt). all ++ merged l (drop other others)) (sym split)
      ∙ before
