-- One more jump wide: the offsets up to the jump stay. Behind it, up to the next switch, they rise by what the wide jump takes more.
-- Behind that switch they rise by a multiple of four, which the padding of the switch makes of it, so that no later padding changes.
use Rattle.std.proofs.Common.{◌≡◌, ◌≢◌, ℕ, zero, suc, ◌+◌, ◌%◌, ◌<◌, ◌≤◌, Bool, true, false, List, [], ◌∷◌, length, get_or, set, nat_eq, if◌then◌else◌, refl, sym, ap, ◌∙◌, subst, arith, Some}
use Rattle.std.specs.Prelude.{slice_index}
use Rattle.std.proofs.lemmas.List.{get_or-set_same, get_or-set_other}
use Rattle.jc_methods.specs.Opcode as opcode
use Rattle.jc_methods.specs.declared.insn.Insn.{Insn}
use Rattle.jc_methods.specs.declared.insn.Insn.TheVariants as insns
use Rattle.jc_methods.specs.Widened.{WideSet, HasAt, listed}
use Rattle.jc_insn.specs.Items.{padding}
use Rattle.jc_insn.specs.Sizes.{size_of}
use Rattle.jc_layout.specs.Layout.{starts_from, starts_of}
use Rattle.jc_layout.specs.Shift.{IsNext, is_stop, is_switch, widening}

-- ---- sizes

-- what is no switch has one size at each offset
same_sized : (at other : ℕ) (w : Bool) (insn : Insn) → is_switch insn ≡ false → size_of other w insn ≡ size_of at w insn
same_sized at other w (insns.Table low default arms) e = absurd cc
same_sized at other w (insns.Lookup default arms) e = absurd cc
same_sized at other w insn e = refl

-- a switch differs by its padding alone
padded : (at other : ℕ) (w : Bool) (insn : Insn) → is_switch insn ≡ true → size_of other w insn + padding at ≡ size_of at w insn + padding other
padded at other w (insns.Table low default arms) e = omega arith
padded at other w (insns.Lookup default arms) e = omega arith
padded at other w insn e = absurd cc

same_padded : (at other : ℕ) (w : Bool) (insn : Insn) → padding other ≡ padding at → size_of other w insn ≡ size_of at w insn
same_padded at other w (insns.Table low default arms) e = omega (arith, e)
same_padded at other w (insns.Lookup default arms) e = omega (arith, e)
same_padded at other w insn e = refl

same_padding : (at more : ℕ) → more % 4 ≡ 0 → padding (at + more) ≡ padding at
same_padding at more m = omega (arith, m)

-- what an offset behind a switch rises by, where the switch stands at this offset and rises by so many bytes
pub record IsPassedOn (offset more passed : ℕ) : Type 0 where
  pub sum : passed + padding offset ≡ more + padding (offset + more)

pub fours : (offset more passed : ℕ) → IsPassedOn offset more passed → passed % 4 ≡ 0
fours offset more passed h = let e = h.sum in omega (arith, e)

-- ---- switches

-- none of so many instructions is a switch, and the next one is, or the code ends
abbrev pub AreFree : List Insn → (count : ℕ) → Type 0
AreFree [] count = Unit {0}
AreFree (insn ∷ code) zero = is_switch insn ≡ true
AreFree (insn ∷ code) (suc count) = (is_switch insn ≡ false) × AreFree code count

-- behind the instruction at the place x so many instructions are free
abbrev AreFreeBehind : List Insn → (x p : ℕ) → Type 0
AreFreeBehind [] x p = Unit {0}
AreFreeBehind (insn ∷ code) zero zero = ⊥
AreFreeBehind (insn ∷ code) zero (suc p) = AreFree code p
AreFreeBehind (insn ∷ code) (suc x) zero = ⊥
AreFreeBehind (insn ∷ code) (suc x) (suc p) = AreFreeBehind code x p

free_of : (code : List Insn) (p : ℕ) → ((k : ℕ) → k < p → is_stop code k ≡ false) → is_stop code p ≡ true → AreFree code p
free_of [] p none stop = tt
free_of (insn ∷ code) zero none stop = stop
free_of (insn ∷ code) (suc p) none stop =
    (none zero (omega arith), free_of code p (λ k lt. none (suc k) (omega (arith, lt))) stop)

free_behind : (code : List Insn) (x p : ℕ) → x < p → ((k : ℕ) → x < k → k < p → is_stop code k ≡ false) → is_stop code p ≡ true
    → AreFreeBehind code x p
free_behind [] x p lt none stop = tt
free_behind (insn ∷ code) zero zero lt none stop = omega (arith, lt)
free_behind (insn ∷ code) zero (suc p) lt none stop = free_of code p (λ k below. none (suc k) (omega arith) (omega (arith, below))) stop
free_behind (insn ∷ code) (suc x) zero lt none stop = omega (arith, lt)
free_behind (insn ∷ code) (suc x) (suc p) lt none stop =
    free_behind code x p (omega (arith, lt)) (λ k above below. none (suc k) (omega (arith, above)) (omega (arith, below))) stop

-- ---- offsets

-- an offset behind the jump, at this place, was the first one and is the second one
pub record IsRaised (p more passed k old new : ℕ) : Type 0 where
  pub near : k ≤ p → new ≡ old + more
  pub behind : p < k → new ≡ old + passed

-- an offset at this place was the first one and is the second one
pub record IsShifted (x p more passed k old new : ℕ) : Type 0 where
  pub front : k ≤ x → new ≡ old
  pub raised : x < k → IsRaised p more passed k old new

module _ (before after : WideSet) where
  -- both sets say the same of these instructions
  abbrev Agree : (n : ℕ) → List Insn → Type 0
  Agree n [] = Unit {0}
  Agree n (insn ∷ code) = (after n ≡ before n) × Agree (suc n) code

  -- the instruction at the place x takes so many bytes more by the second set, and the others as many as they did
  abbrev IsWidened : (n : ℕ) → List Insn → (x more : ℕ) → Type 0
  IsWidened n [] x more = ⊥
  IsWidened n (insn ∷ code) zero more = ((at : ℕ) → size_of at (after n) insn ≡ size_of at (before n) insn + more) × Agree (suc n) code
  IsWidened n (insn ∷ code) (suc x) more = (after n ≡ before n) × IsWidened (suc n) code x more

  behind_from : (n at passed : ℕ) (code : List Insn) → passed % 4 ≡ 0 → Agree n code → (k : ℕ) → k ≤ length code
      → slice_index (starts_from after n (at + passed) code) k ≡ slice_index (starts_from before n at code) k + passed
  behind_from n at passed [] m a zero le = refl
  behind_from n at passed [] m a (suc k) le = absurd (omega (arith, le))
  behind_from n at passed (insn ∷ code) m a zero le = refl
  behind_from n at passed (insn ∷ code) m a (suc k) le =
      let size : size_of (at + passed) (after n) insn ≡ size_of at (before n) insn =
      ap (λ (w : Bool). size_of (at + passed) w insn) a.0 ∙ same_padded at (at + passed) (before n) insn (same_padding at passed m) in
      let next : at + passed + size_of (at + passed) (after n) insn ≡ at + size_of at (before n) insn + passed = omega (arith, size) in
      ap (λ (o : ℕ). slice_index (starts_from after (suc n) o code) k) next
      ∙ behind_from (suc n) (at + size_of at (before n) insn) passed code m a.1 k (omega (arith, le))

  raised_from : (n at more passed : ℕ) (code : List Insn) (p : ℕ) → AreFree code p → Agree n code
      → IsPassedOn (slice_index (starts_from before n at code) p) more passed → (k : ℕ) → k ≤ length code
      → IsRaised p more passed k (slice_index (starts_from before n at code) k) (slice_index (starts_from after n (at + more) code) k)
  raised_from n at more passed [] p free a on zero le = record { near = λ h. refl; behind = λ lt. absurd (omega (arith, lt)) }
  raised_from n at more passed [] p free a on (suc k) le = absurd (omega (arith, le))
  raised_from n at more passed (insn ∷ code) p free a on zero le = record { near = λ h. refl; behind = λ lt. absurd (omega (arith, lt)) }
  raised_from n at more passed (insn ∷ code) zero free a on (suc k) le = record {
    near = λ h. absurd (omega (arith, h));
    behind = λ lt.
        let size : size_of (at + more) (after n) insn + padding at ≡ size_of at (before n) insn + padding (at + more) =
        ap (λ (w : Bool). size_of (at + more) w insn + padding at) a.0 ∙ padded at (at + more) (before n) insn free in
        let sum = on.sum in
        let next : at + more + size_of (at + more) (after n) insn ≡ at + size_of at (before n) insn + passed = omega (arith, size, sum) in
        ap (λ (o : ℕ). slice_index (starts_from after (suc n) o code) k) next
        ∙ behind_from (suc n) (at + size_of at (before n) insn) passed code (fours at more passed on) a.1 k (omega (arith, le));
  }
  raised_from n at more passed (insn ∷ code) (suc p) free a on (suc k) le =
      let size : size_of (at + more) (after n) insn ≡ size_of at (before n) insn =
      ap (λ (w : Bool). size_of (at + more) w insn) a.0 ∙ same_sized at (at + more) (before n) insn free.0 in
      let next : at + more + size_of (at + more) (after n) insn ≡ at + size_of at (before n) insn + more = omega (arith, size) in
      let start = ap (λ (o : ℕ). slice_index (starts_from after (suc n) o code) k) next in
      let rest = raised_from (suc n) (at + size_of at (before n) insn) more passed code p free.1 a.1 on k (omega (arith, le)) in
      record { near = λ h. start ∙ rest.near (omega (arith, h)); behind = λ lt. start ∙ rest.behind (omega (arith, lt)) }

  shifted_from : (n at more passed : ℕ) (code : List Insn) (x p : ℕ) → AreFreeBehind code x p → IsWidened n code x more
      → IsPassedOn (slice_index (starts_from before n at code) p) more passed → (k : ℕ) → k ≤ length code
      → IsShifted x p more passed k (slice_index (starts_from before n at code) k) (slice_index (starts_from after n at code) k)
  shifted_from n at more passed [] x p next w on k le = absurd w
  shifted_from n at more passed (insn ∷ code) zero zero next w on k le = absurd next
  shifted_from n at more passed (insn ∷ code) (suc x) zero next w on k le = absurd next
  shifted_from n at more passed (insn ∷ code) x (suc p) next w on zero le = record { front = λ h. refl; raised = λ lt. absurd (omega (arith, lt)) }
  shifted_from n at more passed (insn ∷ code) zero (suc p) next w on (suc k) le = record {
    front = λ h. absurd (omega (arith, h));
    raised = λ lt.
        let size = w.0 at in
        let sum : at + size_of at (after n) insn ≡ at + size_of at (before n) insn + more = omega (arith, size) in
        let start = ap (λ (o : ℕ). slice_index (starts_from after (suc n) o code) k) sum in
        let rest = raised_from (suc n) (at + size_of at (before n) insn) more passed code p next w.1 on k (omega (arith, le)) in
        record { near = λ h. start ∙ rest.near (omega (arith, h)); behind = λ gt. start ∙ rest.behind (omega (arith, gt)) };
  }
  shifted_from n at more passed (insn ∷ code) (suc x) (suc p) next w on (suc k) le =
      let start = ap (λ (b : Bool). slice_index (starts_from after (suc n) (at + size_of at b insn) code) k) w.0 in
      let rest = shifted_from (suc n) (at + size_of at (before n) insn) more passed code x p next w.1 on k (omega (arith, le)) in
      record {
        front = λ h. start ∙ rest.front (omega (arith, h));
        raised = λ lt.
            let up = rest.raised (omega (arith, lt)) in
            record { near = λ h. start ∙ up.near (omega (arith, h)); behind = λ gt. start ∙ up.behind (omega (arith, gt)) };
      }

  -- ---- sets that differ at one place

  agree_of : (n : ℕ) (code : List Insn) → ((k : ℕ) → after (k + n) ≡ before (k + n)) → Agree n code
  agree_of n [] h = tt
  agree_of n (insn ∷ code) h = (
    subst (λ (m : ℕ). after m ≡ before m) {x = 0 + n} {y = n} (omega arith) (h 0),
    agree_of (suc n) code (λ k. subst (λ (m : ℕ). after m ≡ before m) {x = suc k + n} {y = k + suc n} (omega arith) (h (suc k))),
  )

  widened_of : (n : ℕ) (code : List Insn) (x more : ℕ) (insn : Insn) → HasAt code x insn → ((k : ℕ) → k ≢ x → after (k + n) ≡ before (k + n))
      → ((at : ℕ) → size_of at (after (x + n)) insn ≡ size_of at (before (x + n)) insn + more) → IsWidened n code x more
  widened_of n [] x more insn has other size = absurd cc
  widened_of n (y ∷ code) zero more insn has other size = (
    λ at. subst (λ (m : ℕ). size_of at (after m) y ≡ size_of at (before m) y + more) {x = 0 + n} {y = n} (omega arith)
        (subst (λ (i : Insn). size_of at (after (0 + n)) i ≡ size_of at (before (0 + n)) i + more) (same has) (size at)),
    agree_of (suc n) code (λ k. subst (λ (m : ℕ). after m ≡ before m) {x = suc k + n} {y = k + suc n} (omega arith) (other (suc k) (λ e. absurd cc))),
  )
    where
      same : Some y ≡ Some insn → insn ≡ y
      same e = cc
  widened_of n (y ∷ code) (suc x) more insn has other size = (
    subst (λ (m : ℕ). after m ≡ before m) {x = 0 + n} {y = n} (omega arith) (other 0 (λ e. absurd cc)),
    widened_of (suc n) code x more insn has
        (λ k apart. subst (λ (m : ℕ). after m ≡ before m) {x = suc k + n} {y = k + suc n} (omega arith)
        (other (suc k) (λ e. apart (let d : suc k ≡ suc x = e in omega (arith, d)))))
        (λ at. subst (λ (m : ℕ). size_of at (after m) insn ≡ size_of at (before m) insn + more) {x = suc x + n} {y = x + suc n} (omega arith) (size at)),
  )

-- ---- the law

wide_size : (at op to : ℕ) → size_of at true (insns.Jump op to) ≡ size_of at false (insns.Jump op to) + widening op
wide_size at op to = by (nat_eq op opcode.goto)
  where
    by : (t : Bool) → (if t then 5 else 8) ≡ 3 + (if t then 2 else 5)
    by true = refl
    by false = refl

pub one_more_wide : (code : List Insn) (wide : List Bool) (x op to p passed : ℕ) → HasAt code x (insns.Jump op to) → x < length wide
    → get_or wide x false ≡ false → IsNext code x p → IsPassedOn (slice_index (starts_of (listed wide) code) p) (widening op) passed
    → (k : ℕ) → k ≤ length code
    → IsShifted x p (widening op) passed k (slice_index (starts_of (listed wide) code) k) (slice_index (starts_of (listed (set wide x true)) code) k)
unfolding starts_of
one_more_wide code wide x op to p passed has lt narrow next on k le =
    shifted_from (listed wide) (listed (set wide x true)) 0 0 (widening op) passed code x p (free_behind code x p next.behind next.none next.stop)
    (widened_of (listed wide) (listed (set wide x true)) 0 code x (widening op) (insns.Jump op to) has other size) on k le
  where
    at_zero : (m : ℕ) → m + 0 ≡ m
    at_zero m = omega arith

    other : (m : ℕ) → m ≢ x → listed (set wide x true) (m + 0) ≡ listed wide (m + 0)
    other m apart = subst (λ (i : ℕ). listed (set wide x true) i ≡ listed wide i) (sym (at_zero m)) (get_or-set_other wide x m true false apart)

    size : (at : ℕ) → size_of at (listed (set wide x true) (x + 0)) (insns.Jump op to) ≡ size_of at (listed wide (x + 0)) (insns.Jump op to) + widening op
    size at =
        subst (λ (i : ℕ). size_of at (listed (set wide x true) i) (insns.Jump op to) ≡ size_of at (listed wide i) (insns.Jump op to) + widening op) (sym (at_zero x))
        (ap (λ (w : Bool). size_of at w (insns.Jump op to)) (get_or-set_same wide x true false lt) ∙ wide_size at op to
        ∙ ap (λ (w : Bool). size_of at w (insns.Jump op to) + widening op) (sym narrow))
