-- The offsets of a layout are one list, and the wide jumps that are chosen leave room for the others.
use Rattle.std.proofs.Common.{◌≡◌, ℕ, zero, suc, ◌+◌, Bool, true, false, ◌||◌, not, List, [], ◌∷◌, length, replicate, get_or, refl, sym, ap, ◌∙◌, nat_lt, nat_le, subst, arith, Some}
use Rattle.std.specs.Prelude.{slice_index}
use Rattle.std.proofs.lemmas.Bool.{and_parts, ltb-true, leb-true}
use Rattle.jc_methods.specs.declared.insn.Insn.{Insn}
use Rattle.jc_methods.specs.declared.insn.Insn.TheVariants as insns
use Rattle.jc_methods.specs.Insn.{with_places}
use Rattle.jc_methods.specs.Widened.{WideSet, listed}
use Rattle.jc_insn.specs.Sizes.{IsJump, size_of, StartFrom, StartAt}
use Rattle.jc_insn.specs.Writing.{IsNear, IsNearJump, AllNear}
use Rattle.jc_layout.specs.Layout.{starts_from, starts_of, is_near, is_far_by, with_far, rounds, AreJumps, OthersNear, chosen, chosen_list}
use Rattle.jc_layout.proofs.RoundsLaws.{chosen_is, rounds_length}

-- ---- offsets

stand_from : (wide : WideSet) (n at : ℕ) (code : List Insn) → StartFrom wide n at code (starts_from wide n at code)
stand_from wide n at [] = refl
stand_from wide n at (insn ∷ code) =
    (starts_from wide (suc n) (at + size_of at (wide n) insn) code, refl, stand_from wide (suc n) (at + size_of at (wide n) insn) code)

pub starts_stand : (wide : WideSet) (code : List Insn) → StartAt wide code (starts_of wide code)
unfolding starts_of
starts_stand wide code = stand_from wide 0 0 code

one_from : (wide : WideSet) (n at : ℕ) (code : List Insn) (starts : List ℕ) → StartFrom wide n at code starts → starts ≡ starts_from wide n at code
one_from wide n at [] starts s = s
one_from wide n at (insn ∷ code) starts (later, is, more) =
    is ∙ ap (λ (l : List ℕ). at ∷ l) (one_from wide (suc n) (at + size_of at (wide n) insn) code later more)

pub one_list : (wide : WideSet) (code : List Insn) (starts : List ℕ) → StartAt wide code starts → starts ≡ starts_of wide code
unfolding starts_of
one_list wide code starts s = one_from wide 0 0 code starts s

-- ---- room

near_to : (at to : ℕ) → is_near at to ≡ true → IsNear at to
near_to at to h = let p = and_parts (nat_lt to (at + 32768)) (nat_le at (to + 32768)) h in
    (ltb-true to (at + 32768) p.0, leb-true at (to + 32768) p.1)

was_near : (near : Bool) → not near ≡ false → near ≡ true
was_near true e = refl
was_near false e = sym e

-- an instruction that isn't far, and begins at this offset, has room
near_by : (starts : List ℕ) (n at : ℕ) (insn : Insn) → slice_index starts n ≡ at → is_far_by starts n insn ≡ false
    → IsNearJump at (with_places (slice_index starts) insn)
near_by starts n at (insns.Jump op to) is e =
    subst (λ a. IsNear a (slice_index starts to)) is
    (near_to (slice_index starts n) (slice_index starts to) (was_near (is_near (slice_index starts n) (slice_index starts to)) e))
near_by starts n at insn is e = tt

-- the truth values of these instructions are those of the set
abbrev AreOf : WideSet → (n : ℕ) → List Bool → Type 0
AreOf set n [] = Unit {0}
AreOf set n (w ∷ wide) = (set n ≡ w) × AreOf set (suc n) wide

module _ (starts : List ℕ) (set : WideSet) where
  -- these offsets are those from the instruction with this number on
  abbrev AreFrom : (n : ℕ) → (here : List ℕ) → Type 0
  AreFrom n here = (k : ℕ) → slice_index starts (k + n) ≡ slice_index here k

  -- a round makes no further one of these jumps wide
  abbrev IsStill : ℕ → List Insn → List Bool → Type 0
  IsStill n code wide = with_far starts n code wide ≡ wide

  all_near : (n at : ℕ) (code : List Insn) (wide : List Bool) (here : List ℕ) → length wide ≡ length code
      → AreOf set n wide → StartFrom set n at code here → AreFrom n here → IsStill n code wide → AllNear (slice_index starts) set n code here
  all_near n at [] wide here size are s same still = tt
  all_near n at (insn ∷ code) [] here size are s same still = absurd (omega (arith, size))
  all_near n at (insn ∷ code) (w ∷ wide) here size are (later, is, more) same still =
      subst (AllNear (slice_index starts) set n (insn ∷ code)) (sym is) (
        λ narrow. near_by starts n at insn (ap (slice_index starts) {x = n} {y = zero + n} (omega arith) ∙ same zero ∙ ap (λ (l : List ℕ). slice_index l 0) is)
            (not_far w (is_far_by starts n insn) (sym are.0 ∙ narrow) (first still)),
        all_near (suc n) (at + size_of at (set n) insn) code wide later (omega (arith, size)) are.1 more
            (λ k. ap (slice_index starts) {x = k + suc n} {y = suc k + n} (omega arith) ∙ same (suc k) ∙ ap (λ (l : List ℕ). slice_index l (suc k)) is)
            (rest still),
      )
    where
      first : (w || is_far_by starts n insn) ∷ with_far starts (suc n) code wide ≡ w ∷ wide → (w || is_far_by starts n insn) ≡ w
      first e = cc

      rest : (w || is_far_by starts n insn) ∷ with_far starts (suc n) code wide ≡ w ∷ wide → with_far starts (suc n) code wide ≡ wide
      rest e = cc

      not_far : (w far : Bool) → w ≡ false → (w || far) ≡ w → far ≡ false
      not_far true far e d = absurd cc
      not_far false far e d = d

are_of : (set : WideSet) (n : ℕ) (wide : List Bool) → ((k : ℕ) → set (k + n) ≡ get_or wide k false) → AreOf set n wide
are_of set n [] h = tt
are_of set n (w ∷ wide) h =
    (ap set {x = n} {y = zero + n} (omega arith) ∙ h zero, are_of set (suc n) wide (λ k. ap set {x = k + suc n} {y = suc k + n} (omega arith) ∙ h (suc k)))

chosen_size : (code : List Insn) → length (chosen_list code) ≡ length code
unfolding chosen_list
chosen_size code = rounds_length code (length code)

pub chosen_near : (code : List Insn) → OthersNear code (chosen code)
chosen_near code =
    let wide = chosen_list code in
    let starts = starts_of (listed (chosen_list code)) code in
    all_near starts (listed wide) 0 0 code wide starts (chosen_size code)
    (are_of (listed wide) 0 wide (λ k. ap (listed wide) {x = k + 0} {y = k} (omega arith))) (starts_stand (listed wide) code)
    (λ k. ap (slice_index starts) {x = k + 0} {y = k} (omega arith)) (chosen_is code).ended

-- ---- nothing but jumps is wide

abbrev AreOnly : List Insn → List Bool → Type 0
AreOnly [] wide = Unit {0}
AreOnly (insn ∷ code) [] = Unit {0}
AreOnly (insn ∷ code) (w ∷ wide) = (w ≡ true → IsJump insn) × AreOnly code wide

was_wide : (w : Bool) → (w || false) ≡ true → w ≡ true
was_wide true e = refl
was_wide false e = e

jump_of : (starts : List ℕ) (n : ℕ) (insn : Insn) (w : Bool) → (w ≡ true → IsJump insn) → (w || is_far_by starts n insn) ≡ true → IsJump insn
jump_of starts n (insns.Jump op to) w h e = tt
jump_of starts n insn w h e = h (was_wide w e)

only_far : (starts : List ℕ) (n : ℕ) (code : List Insn) (wide : List Bool) → AreOnly code wide → AreOnly code (with_far starts n code wide)
only_far starts n [] wide o = tt
only_far starts n (insn ∷ code) [] o = tt
only_far starts n (insn ∷ code) (w ∷ wide) o = (jump_of starts n insn w o.0, only_far starts (suc n) code wide o.1)

only_none : (code : List Insn) → AreOnly code (replicate (length code) false)
only_none [] = tt
only_none (insn ∷ code) = ((λ e. absurd cc), only_none code)

only_rounds : (code : List Insn) (k : ℕ) → AreOnly code (rounds code k)
only_rounds code zero = only_none code
only_rounds code (suc k) = only_far (starts_of (listed (rounds code k)) code) 0 code (rounds code k) (only_rounds code k)

only_told : (code : List Insn) (wide : List Bool) → AreOnly code wide → AreJumps code (listed wide)
only_told [] wide o place insn has is = absurd cc
only_told (x ∷ code) [] o place insn has is = absurd cc
only_told (x ∷ code) (w ∷ wide) o zero insn has is = subst IsJump (same has) (o.0 is)
  where
    same : Some x ≡ Some insn → x ≡ insn
    same e = cc
only_told (x ∷ code) (w ∷ wide) o (suc place) insn has is = only_told code wide o.1 place insn has is

pub chosen_jumps : (code : List Insn) → AreJumps code (chosen code)
unfolding chosen_list
chosen_jumps code = only_told code (rounds code (length code)) (only_rounds code (length code))
