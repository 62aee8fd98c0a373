-- The jumps of a round that become wide are those of its definition.
use Rattle.std.proofs.Common.{◌≡◌, ◌⊎◌, inl, inr, ⊎_elim, ℕ, zero, suc, ◌+◌, ◌<◌, ◌≤◌, Bool, true, false, ◌&&◌, ◌||◌, not, List, [], ◌∷◌, map, length, get_or, set, refl, sym, ap, ◌∙◌, subst, arith, nat_le, Some, if◌then◌else◌}
use Rattle.std.specs.Prelude.{Contains, slice_index}
use Rattle.std.specs.List.{AllByRecursion}
use Rattle.std.proofs.lemmas.Bool.{and_parts, not-true}
use Rattle.std.proofs.lemmas.Bool.Decides.{nat_tests}
use Rattle.std.proofs.lemmas.List.{get_or-set_same, get_or_default, length-set, same_lists}
use Rattle.std.proofs.lemmas.Option.{slice_get-get_or, slice_get_within}
use Rattle.jc_bytes.proofs.BooleanLaws.{none_in, which_in, first_in, later_in}
use Rattle.jc_methods.specs.declared.insn.Insn.{Insn}
use Rattle.jc_methods.specs.declared.insn.Insn.TheVariants as insns
use Rattle.jc_methods.specs.Widened.{HasAt, listed}
use Rattle.jc_layout.specs.Layout.{is_near, is_far_by, with_far}
use Rattle.jc_layout.specs.Shift.{AreJumpsOf, IsJumpOf, ends_in, far_in}
use Rattle.jc_layout.specs.Widening.{widened_each}
use Rattle.jc_layout.specs.declared.jumps.Jump.{Jump}
use Rattle.jc_layout.proofs.RoundsLaws.{count, far_length, far_same}

-- ---- truth values

both_true : (a b : Bool) → (a ≡ true → b ≡ true) → (b ≡ true → a ≡ true) → a ≡ b
both_true true b h g = sym (h refl)
both_true false true h g = g refl
both_true false false h g = refl

or_cases : (a b : Bool) → (a || b) ≡ true → (a ≡ true) ⊎ ((a ≡ false) × (b ≡ true))
or_cases true b e = inl refl
or_cases false b e = inr (refl, e)

or_right : (a b : Bool) → b ≡ true → (a || b) ≡ true
or_right true b e = refl
or_right false b e = e

-- ---- jumps that become wide one after the other

set_stays : (wide : List Bool) (i k : ℕ) → get_or wide k false ≡ true → get_or (set wide i true) k false ≡ true
set_stays [] i k e = e
set_stays (w ∷ wide) zero zero e = refl
set_stays (w ∷ wide) zero (suc k) e = e
set_stays (w ∷ wide) (suc i) zero e = e
set_stays (w ∷ wide) (suc i) (suc k) e = set_stays wide i k e

set_new : (wide : List Bool) (i k : ℕ) → get_or (set wide i true) k false ≡ true → (get_or wide k false ≡ true) ⊎ (i ≡ k)
set_new [] i k e = inl e
set_new (w ∷ wide) zero zero e = inr refl
set_new (w ∷ wide) zero (suc k) e = inl e
set_new (w ∷ wide) (suc i) zero e = inl e
set_new (w ∷ wide) (suc i) (suc k) e = ⊎_elim (λ old. inl old) (λ same. inr (ap suc same)) (set_new wide i k e)

pub each_size : (far : List Jump) (wide : List Bool) → length (widened_each far wide) ≡ length wide
each_size [] wide = refl
each_size (j ∷ far) wide = each_size far (set wide j.number true) ∙ length-set wide j.number true

each_stays : (far : List Jump) (wide : List Bool) (k : ℕ) → get_or wide k false ≡ true → get_or (widened_each far wide) k false ≡ true
each_stays [] wide k e = e
each_stays (j ∷ far) wide k e = each_stays far (set wide j.number true) k (set_stays wide j.number k e)

each_in : (far : List Jump) (wide : List Bool) (j : Jump) → Contains far j → j.number < length wide → get_or (widened_each far wide) j.number false ≡ true
each_in [] wide j c lt = absurd (none_in j c)
each_in (f ∷ far) wide j c lt =
    ⊎_elim
    (λ same. each_stays far (set wide f.number true) j.number
    (ap (λ (x : Jump). get_or (set wide x.number true) j.number false) same ∙ get_or-set_same wide j.number true false lt))
    (λ later. each_in far (set wide f.number true) j later (let size = length-set wide f.number true in omega (arith, size, lt)))
    (which_in f far j c)

-- a jump of these stands at the place
abbrev IsAmong : List Jump → (place : ℕ) → Type 0
IsAmong far place = (j : Jump) × Contains far j × (j.number ≡ place)

each_out : (far : List Jump) (wide : List Bool) (k : ℕ) → get_or (widened_each far wide) k false ≡ true → (get_or wide k false ≡ true) ⊎ IsAmong far k
each_out [] wide k e = inl e
each_out (f ∷ far) wide k e =
    ⊎_elim
    (λ set_there. ⊎_elim (λ old. inl old) (λ same. inr (f, first_in f far, same)) (set_new wide f.number k set_there))
    (λ p. inr (p.0, later_in f far p.0 p.1, p.2))
    (each_out far (set wide f.number true) k e)

-- ---- which jumps they are

module _ (starts : List ℕ) (wide : List Bool) where
  abbrev IsLeft : Jump → Bool
  IsLeft j = not (listed wide j.number) && not (is_near (slice_index starts j.number) (slice_index starts j.to))

  abbrev far : List Jump → List Jump
  far jumps = far_in jumps (map (ends_in starts) jumps) wide

  far_out : (jumps : List Jump) (j : Jump) → Contains (far jumps) j → Contains jumps j × (IsLeft j ≡ true)
  far_out [] j c = absurd (none_in j c)
  far_out (x ∷ jumps) j c = by (λ d. far_out jumps j d) (IsLeft x) refl c
    where
      by : (Contains (far jumps) j → Contains jumps j × (IsLeft j ≡ true)) → (t : Bool) → IsLeft x ≡ t
          → Contains (if t then x ∷ far jumps else far jumps) j → Contains (x ∷ jumps) j × (IsLeft j ≡ true)
      by rest true is c =
          ⊎_elim (λ same. subst (λ y. Contains (x ∷ jumps) y × (IsLeft y ≡ true)) same (first_in x jumps, is))
          (λ later. let p = rest later in (later_in x jumps j p.0, p.1)) (which_in x (far jumps) j c)
      by rest false is c = let p = rest c in (later_in x jumps j p.0, p.1)

  far_there : (jumps : List Jump) (j : Jump) → Contains jumps j → IsLeft j ≡ true → Contains (far jumps) j
  far_there [] j c left = absurd (none_in j c)
  far_there (x ∷ jumps) j c left = by (λ d. far_there jumps j d left) (IsLeft x) refl (which_in x jumps j c)
    where
      by : (Contains jumps j → Contains (far jumps) j) → (t : Bool) → IsLeft x ≡ t → (x ≡ j) ⊎ Contains jumps j
          → Contains (if t then x ∷ far jumps else far jumps) j
      by rest true is (inl same) = subst (λ y. Contains (x ∷ far jumps) y) same (first_in x (far jumps))
      by rest true is (inr later) = later_in x (far jumps) j (rest later)
      by rest false is (inl same) = absurd (differ (sym is ∙ ap (λ (y : Jump). IsLeft y) same ∙ left))
        where
          differ : false ≡ true → ⊥
          differ e = cc
      by rest false is (inr later) = rest later

-- ---- a round

far_at : (starts : List ℕ) (n : ℕ) (code : List Insn) (wide : List Bool) (k : ℕ) (insn : Insn) → length wide ≡ length code → HasAt code k insn
    → get_or (with_far starts n code wide) k false ≡ (get_or wide k false || is_far_by starts (k + n) insn)
far_at starts n [] wide k insn size has = absurd cc
far_at starts n (x ∷ code) [] k insn size has = absurd (omega (arith, size))
far_at starts n (x ∷ code) (w ∷ wide) zero insn size has =
    ap (λ (i : Insn). w || is_far_by starts n i) (same has) ∙ ap (λ (m : ℕ). w || is_far_by starts m insn) {x = n} {y = zero + n} (omega arith)
  where
    same : Some x ≡ Some insn → x ≡ insn
    same e = cc
far_at starts n (x ∷ code) (w ∷ wide) (suc k) insn size has =
    far_at starts (suc n) code wide k insn (omega (arith, size)) has
    ∙ ap (λ (m : ℕ). get_or wide k false || is_far_by starts m insn) {x = k + suc n} {y = suc k + n} (omega arith)

-- a far instruction is a jump
record IsFarJump (starts : List ℕ) (k : ℕ) (insn : Insn) : Type 0 where
  op : ℕ
  to : ℕ
  is : insn ≡ insns.Jump op to
  far : not (is_near (slice_index starts k) (slice_index starts to)) ≡ true

far_jump : (starts : List ℕ) (k : ℕ) (insn : Insn) → is_far_by starts k insn ≡ true → IsFarJump starts k insn
far_jump starts k (insns.Jump op to) e = record { op = op; to = to; is = refl; far = e }
far_jump starts k insn e = absurd cc

one_jump : (insn : Insn) (a b c d : ℕ) → Some insn ≡ Some (insns.Jump a b) → Some insn ≡ Some (insns.Jump c d) → b ≡ d
one_jump insn a b c d e f = cc

jump_is : (insn : Insn) (a b : ℕ) → Some insn ≡ Some (insns.Jump a b) → insn ≡ insns.Jump a b
jump_is insn a b e = cc

each_of : (code : List Insn) (jumps : List Jump) (j : Jump) → AllByRecursion (IsJumpOf code) jumps → Contains jumps j → IsJumpOf code j
each_of code [] j all c = absurd (none_in j c)
each_of code (x ∷ jumps) j all c =
    ⊎_elim (λ same. subst (λ y. IsJumpOf code y) same all.0) (λ later. each_of code jumps j all.1 later) (which_in x jumps j c)

module _ (code : List Insn) (jumps : List Jump) (starts : List ℕ) (wide : List Bool) (are : AreJumpsOf code jumps) (size : length wide ≡ length code) where
  abbrev new : List Bool
  new = widened_each (far starts wide jumps) wide

  module _ (k : ℕ) (insn : Insn) (has : HasAt code k insn) (lt : k < length code) where
    becomes : get_or new k false ≡ true → (get_or wide k false || is_far_by starts k insn) ≡ true
    becomes e =
        ⊎_elim (λ old. ap (λ (t : Bool). t || is_far_by starts k insn) old)
        (λ p.
        let j = p.0 in
        let at : j.number ≡ k = p.2 in
        let told = far_out starts wide jumps j p.1 in
        let jump = each_of code jumps j are.each told.0 in
        let here : HasAt code k (insns.Jump jump.op j.to) = subst (λ (m : ℕ). HasAt code m (insns.Jump jump.op j.to)) at jump.has in
        let is : insn ≡ insns.Jump jump.op j.to = jump_is insn jump.op j.to (sym has ∙ here) in
        let left = (and_parts (not (listed wide j.number)) (not (is_near (slice_index starts j.number) (slice_index starts j.to))) told.1).1 in
        or_right (get_or wide k false) (is_far_by starts k insn)
        (ap (is_far_by starts k) is ∙ ap (λ (m : ℕ). not (is_near (slice_index starts m) (slice_index starts j.to))) (sym at) ∙ left))
        (each_out (far starts wide jumps) wide k e)

    was : (get_or wide k false || is_far_by starts k insn) ≡ true → get_or new k false ≡ true
    was e =
        ⊎_elim (λ old. each_stays (far starts wide jumps) wide k old)
        (λ p.
        let narrow = p.0 in
        let jump = far_jump starts k insn p.1 in
        let there : HasAt code k (insns.Jump jump.op jump.to) = has ∙ ap (λ (i : Insn). Some i) jump.is in
        let found = are.every k jump.op jump.to there in
        let j = found.0 in
        let at : j.number ≡ k = found.2 in
        let told = each_of code jumps j are.each found.1 in
        let here : HasAt code k (insns.Jump told.op j.to) = subst (λ (m : ℕ). HasAt code m (insns.Jump told.op j.to)) at told.has in
        let to : jump.to ≡ j.to = one_jump insn jump.op jump.to told.op j.to (sym has ∙ there) (sym has ∙ here) in
        let left : IsLeft starts wide j ≡ true =
        ap (λ (m : ℕ). not (listed wide m) && not (is_near (slice_index starts m) (slice_index starts j.to))) at
        ∙ ap (λ (m : ℕ). not (listed wide k) && not (is_near (slice_index starts k) (slice_index starts m))) (sym to)
        ∙ ap (λ (t : Bool). not t && not (is_near (slice_index starts k) (slice_index starts jump.to))) narrow ∙ jump.far in
        subst (λ (m : ℕ). get_or (widened_each (far starts wide jumps) wide) m false ≡ true) at
        (each_in (far starts wide jumps) wide j (far_there starts wide jumps j found.1 left) (omega (arith, at, lt, size))))
        (or_cases (get_or wide k false) (is_far_by starts k insn) e)

  -- the jumps that have no room, made wide one after the other, make a round
  pub one_round : widened_each (far_in jumps (map (ends_in starts) jumps) wide) wide ≡ with_far starts 0 code wide
  one_round =
      let long = far_length starts 0 code wide size in
      same_lists new (with_far starts 0 code wide) sizes (λ k d lt. each k d (omega (arith, lt, sizes, long)))
    where
      sizes : length new ≡ length (with_far starts 0 code wide)
      sizes = each_size (far starts wide jumps) wide ∙ size ∙ sym (far_length starts 0 code wide size)

      each : (k : ℕ) (d : Bool) → k < length code → get_or new k d ≡ get_or (with_far starts 0 code wide) k d
      each k d lt =
          let insn = get_or code k (insns.Simple 0) in
          let has = slice_get-get_or code k (insns.Simple 0) lt in
          let long = far_length starts 0 code wide size in
          get_or_default new k d false (omega (arith, lt, sizes, long))
          ∙ both_true (get_or new k false) (get_or wide k false || is_far_by starts k insn) (becomes k insn has lt) (was k insn has lt)
          ∙ ap (λ (m : ℕ). get_or wide k false || is_far_by starts m insn) {x = k} {y = k + 0} (omega arith)
          ∙ sym (far_at starts 0 code wide k insn size has)
          ∙ get_or_default (with_far starts 0 code wide) k false d (omega (arith, lt, long))

  -- where none is left without room, a round changes nothing
  pub none_left : far_in jumps (map (ends_in starts) jumps) wide ≡ [] → with_far starts 0 code wide ≡ wide
  none_left none = sym one_round ∙ ap (λ (l : List Jump). widened_each l wide) none

  -- where one is left, a round makes more jumps wide
  pub more_wide : (j : Jump) → Contains (far_in jumps (map (ends_in starts) jumps) wide) j → count wide < count (with_far starts 0 code wide)
  more_wide j c = by (nat_le (count (with_far starts 0 code wide)) (count wide)) refl
    where
      told : Contains jumps j × (IsLeft starts wide j ≡ true)
      told = far_out starts wide jumps j c

      within : j.number < length wide
      within = let lt = slice_get_within code j.number _ (each_of code jumps j are.each told.0).has in omega (arith, lt, size)

      narrow : listed wide j.number ≡ false
      narrow = not-true (listed wide j.number) (and_parts (not (listed wide j.number)) (not (is_near (slice_index starts j.number) (slice_index starts j.to))) told.1).0

      differ : true ≡ false → ⊥
      differ e = cc

      below : (a b : ℕ) → nat_le a b ≡ true → a ≤ b
      below a b e = grind (arith, nat_tests)

      above : (a b : ℕ) → nat_le a b ≡ false → b < a
      above a b e = grind (arith, nat_tests)

      by : (t : Bool) → nat_le (count (with_far starts 0 code wide)) (count wide) ≡ t → count wide < count (with_far starts 0 code wide)
      by false e = above (count (with_far starts 0 code wide)) (count wide) e
      by true e =
          let same = far_same starts 0 code wide size (below (count (with_far starts 0 code wide)) (count wide) e) in
          absurd (differ (sym (each_in (far starts wide jumps) wide j c within) ∙ ap (λ (l : List Bool). get_or l j.number false) (one_round ∙ same) ∙ narrow))

  -- each of them is a jump of the code
  pub jumps_far : AllByRecursion (IsJumpOf code) (far_in jumps (map (ends_in starts) jumps) wide)
  jumps_far = by jumps are.each
    where
      one : (t : Bool) (j : Jump) (rest : List Jump) → IsJumpOf code j → AllByRecursion (IsJumpOf code) rest
          → AllByRecursion (IsJumpOf code) (if t then j ∷ rest else rest)
      one true j rest is all = (is, all)
      one false j rest is all = all

      by : (more : List Jump) → AllByRecursion (IsJumpOf code) more → AllByRecursion (IsJumpOf code) (far_in more (map (ends_in starts) more) wide)
      by [] all = tt
      by (j ∷ more) all = one (IsLeft starts wide j) j (far_in more (map (ends_in starts) more) wide) all.0 (by more all.1)
