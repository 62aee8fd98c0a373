-- Local variables round that of the probe array.
use Rattle.std.proofs.Common.{◌≡◌, ℕ, zero, suc, ◌+◌, ◌<◌, ◌≤◌, Bool, true, false, nat_eq, nat_lt, add-one, List, [], ◌∷◌, ◌++◌, length, replicate, Option, Some, None, insert, refl, sym, ap, ◌∙◌, ⊎_elim, arith, if◌then◌else◌}
use Rattle.std.specs.Prelude.{slice_get, slice_set, slice_index_or}
use Rattle.std.proofs.lemmas.Bool.{cases_lt, lt-ltb, le-ltb, cond-true, cond-false, eqb-true, eqb-false}
use Rattle.std.proofs.Math.ListN.{length-set}
use Rattle.jc_kinds_after.proofs.ShiftLaws.{up-below, up-above}
use Rattle.jc_machine_model.specs.Values.{Value, is_pair}
use Rattle.jc_machine_model.specs.Locals.{is_pair_there, clear_before, clear_behind, put_local}
use Rattle.jc_twin_simulation.specs.Same.{twin_slot}

abbrev pub Locals : Type 0
Locals = List (Option Value)

-- a long begins in the local variable
abbrev pub has_pair : Locals → ℕ → Bool
has_pair ls k = is_pair_there (slice_index_or ls k None)

-- ---- one local variable more

abbrev shifted : ℕ → ℕ → ℕ
shifted v j = twin_slot (Some v) j

-- the same as `shifted`, by recursion
abbrev up : ℕ → ℕ → ℕ
up zero j = suc j
up (suc v) zero = zero
up (suc v) (suc j) = suc (up v j)

shifted-up : (v j : ℕ) → shifted v j ≡ up v j
shifted-up v j = ⊎_elim
    (λ lt. cond-true (nat_lt j v) j (j + 1) (lt-ltb j v lt) ∙ sym (up-below v j lt))
    (λ le. cond-false (nat_lt j v) j (j + 1) (le-ltb j v le) ∙ sym (up-above v j le))
    (cases_lt j v)

get_up : (v j : ℕ) (ls : Locals) (e : Option Value) → v ≤ length ls → slice_get (insert ls v e) (up v j) ≡ slice_get ls j
get_up zero j ls e le = refl
get_up (suc v) j [] e le = absurd (omega arith)
get_up (suc v) zero (x ∷ ls) e le = refl
get_up (suc v) (suc j) (x ∷ ls) e le = get_up v j ls e (omega arith)

read_up : (v j : ℕ) (ls : Locals) (e : Option Value) → v ≤ length ls → slice_index_or (insert ls v e) (up v j) None ≡ slice_index_or ls j None
read_up zero j ls e le = refl
read_up (suc v) j [] e le = absurd (omega arith)
read_up (suc v) zero (x ∷ ls) e le = refl
read_up (suc v) (suc j) (x ∷ ls) e le = read_up v j ls e (omega arith)

set_up : (v j : ℕ) (ls : Locals) (e x : Option Value) → v ≤ length ls → slice_set (insert ls v e) (up v j) x ≡ insert (slice_set ls j x) v e
set_up zero j ls e x le = refl
set_up (suc v) j [] e x le = absurd (omega arith)
set_up (suc v) zero (y ∷ ls) e x le = refl
set_up (suc v) (suc j) (y ∷ ls) e x le = ap (λ l. y ∷ l) (set_up v j ls e x (omega arith))

pub get-shifted : (v j : ℕ) (ls : Locals) (e : Option Value) → v ≤ length ls → slice_get (insert ls v e) (twin_slot (Some v) j) ≡ slice_get ls j
get-shifted v j ls e le = ap (λ k. slice_get (insert ls v e) k) (shifted-up v j) ∙ get_up v j ls e le

pub read-shifted : (v j : ℕ) (ls : Locals) (e : Option Value) → v ≤ length ls
    → slice_index_or (insert ls v e) (twin_slot (Some v) j) None ≡ slice_index_or ls j None
read-shifted v j ls e le = ap (λ k. slice_index_or (insert ls v e) k None) (shifted-up v j) ∙ read_up v j ls e le

pub set-shifted : (v j : ℕ) (ls : Locals) (e x : Option Value) → v ≤ length ls
    → slice_set (insert ls v e) (twin_slot (Some v) j) x ≡ insert (slice_set ls j x) v e
set-shifted v j ls e x le = ap (λ k. slice_set (insert ls v e) k x) (shifted-up v j) ∙ set_up v j ls e x le

-- the local variable of the probe array itself
pub get_own : (v : ℕ) (ls : Locals) (e : Option Value) → v ≤ length ls → slice_get (insert ls v e) v ≡ Some e
get_own zero ls e le = refl
get_own (suc v) [] e le = absurd (omega arith)
get_own (suc v) (x ∷ ls) e le = get_own v ls e (omega arith)

pub read_own : (v : ℕ) (ls : Locals) (e : Option Value) → v ≤ length ls → slice_index_or (insert ls v e) v None ≡ e
read_own zero ls e le = refl
read_own (suc v) [] e le = absurd (omega arith)
read_own (suc v) (x ∷ ls) e le = read_own v ls e (omega arith)

set_own : (v : ℕ) (ls : Locals) (e x : Option Value) → v ≤ length ls → slice_set (insert ls v e) v x ≡ insert ls v x
set_own zero ls e x le = refl
set_own (suc v) [] e x le = absurd (omega arith)
set_own (suc v) (y ∷ ls) e x le = ap (λ l. y ∷ l) (set_own v ls e x (omega arith))

-- ---- longs

-- the local variable that is set has one only where one is put there
pub no_pair_set : (ls : Locals) (i k : ℕ) (x : Option Value) → is_pair_there x ≡ false → has_pair ls k ≡ false → has_pair (slice_set ls i x) k ≡ false
no_pair_set [] i k x n h = h
no_pair_set (y ∷ ls) zero zero x n h = n
no_pair_set (y ∷ ls) zero (suc k) x n h = h
no_pair_set (y ∷ ls) (suc i) zero x n h = h
no_pair_set (y ∷ ls) (suc i) (suc k) x n h = no_pair_set ls i k x n h

no_pair_other : (ls : Locals) (i k : ℕ) (x : Option Value) → (i ≡ k → ⊥) → has_pair ls k ≡ false → has_pair (slice_set ls i x) k ≡ false
no_pair_other [] i k x other h = h
no_pair_other (y ∷ ls) zero zero x other h = absurd (other refl)
no_pair_other (y ∷ ls) zero (suc k) x other h = h
no_pair_other (y ∷ ls) (suc i) zero x other h = h
no_pair_other (y ∷ ls) (suc i) (suc k) x other h = no_pair_other ls i k x (λ e. other (ap suc e)) h

-- what is cleared
abbrev cleared : Bool → ℕ → Locals → Locals
cleared true k ls = slice_set ls k None
cleared false k ls = ls

cleared_before : (k : ℕ) (ls : Locals) → clear_before (suc k) ls ≡ cleared (has_pair ls k) k ls
cleared_before k ls = by (has_pair ls k)
  where
    by : (b : Bool) → (if b then slice_set ls k None else ls) ≡ cleared b k ls
    by true = refl
    by false = refl

cleared_behind : (k : ℕ) (x : Value) (ls : Locals) → clear_behind k x ls ≡ cleared (is_pair x) (k + 1) ls
cleared_behind k x ls = by (is_pair x)
  where
    by : (b : Bool) → (if b then slice_set ls (k + 1) None else ls) ≡ cleared b (k + 1) ls
    by true = refl
    by false = refl

no_pair_cleared : (b : Bool) (i k : ℕ) (ls : Locals) → has_pair ls k ≡ false → has_pair (cleared b i ls) k ≡ false
no_pair_cleared true i k ls h = no_pair_set ls i k None refl h
no_pair_cleared false i k ls h = h

no_pair_before : (j k : ℕ) (ls : Locals) → has_pair ls k ≡ false → has_pair (clear_before j ls) k ≡ false
no_pair_before zero k ls h = h
no_pair_before (suc i) k ls h = ap (λ l. has_pair l k) (cleared_before i ls) ∙ no_pair_cleared (has_pair ls i) i k ls h

no_pair_at : (b : Bool) (x : Value) (i k : ℕ) (ls : Locals) → is_pair x ≡ b → (b ≡ true → i ≡ k → ⊥) → has_pair ls k ≡ false
    → has_pair (slice_set ls i (Some x)) k ≡ false
no_pair_at true x i k ls e other h = no_pair_other ls i k (Some x) (other refl) h
no_pair_at false x i k ls e other h = no_pair_set ls i k (Some x) e h

pub no_pair_put : (j k : ℕ) (x : Value) (ls : Locals) → (is_pair x ≡ true → j ≡ k → ⊥) → has_pair ls k ≡ false → has_pair (put_local j x ls) k ≡ false
no_pair_put j k x ls other h =
    ap (λ l. has_pair l k) (cleared_behind j x (slice_set (clear_before j ls) j (Some x)))
    ∙ no_pair_cleared (is_pair x) (j + 1) k (slice_set (clear_before j ls) j (Some x))
    (no_pair_at (is_pair x) x j k (clear_before j ls) refl other (no_pair_before j k ls h))

length_cleared : (b : Bool) (k : ℕ) (ls : Locals) → length (cleared b k ls) ≡ length ls
length_cleared true k ls = length-set ls k None
length_cleared false k ls = refl

length_before : (j : ℕ) (ls : Locals) → length (clear_before j ls) ≡ length ls
length_before zero ls = refl
length_before (suc k) ls = ap length (cleared_before k ls) ∙ length_cleared (has_pair ls k) k ls

pub length_put : (j : ℕ) (x : Value) (ls : Locals) → length (put_local j x ls) ≡ length ls
length_put j x ls =
    ap length (cleared_behind j x (slice_set (clear_before j ls) j (Some x)))
    ∙ length_cleared (is_pair x) (j + 1) (slice_set (clear_before j ls) j (Some x))
    ∙ length-set (clear_before j ls) j (Some x) ∙ length_before j ls

cleared_up : (b : Bool) (v k : ℕ) (ls : Locals) (e : Option Value) → v ≤ length ls → cleared b (up v k) (insert ls v e) ≡ insert (cleared b k ls) v e
cleared_up true v k ls e le = set_up v k ls e None le
cleared_up false v k ls e le = refl

-- the local variable behind another one, but for the one in front of v
up_next : (v k : ℕ) → (suc k ≡ v → ⊥) → up v (suc k) ≡ suc (up v k)
up_next v k other = ⊎_elim
    (λ lt. let a = up-below v k lt in let b = up-below v (suc k) (below v k lt other) in omega arith)
    (λ le. let a = up-above v k le in let b = up-above v (suc k) (omega arith) in omega arith)
    (cases_lt k v)
  where
    below : (v k : ℕ) → k < v → (suc k ≡ v → ⊥) → suc k < v
    below v k lt other = ⊎_elim (λ l. l) (λ le. absurd (other (omega arith))) (cases_lt (suc k) v)

module _ (v : ℕ) (ls : Locals) (e : Option Value) (le : v ≤ length ls) (narrow : is_pair_there e ≡ false)
    (apart : (k : ℕ) → v ≡ suc k → has_pair ls k ≡ false) where
  before_at : (k : ℕ) → (b : Bool) → nat_eq (suc k) v ≡ b → clear_before (up v (suc k)) (insert ls v e) ≡ insert (clear_before (suc k) ls) v e
  before_at k true q =
      let same : suc k ≡ v = eqb-true (suc k) v q in
      let at : up v (suc k) ≡ suc v = (let a = up-above v (suc k) (omega arith) in omega arith) in
      ap (λ i. clear_before i (insert ls v e)) at
      ∙ cleared_before v (insert ls v e)
      ∙ ap (λ o. cleared (is_pair_there o) v (insert ls v e)) (read_own v ls e le)
      ∙ ap (λ b. cleared b v (insert ls v e)) narrow
      ∙ sym (ap (λ l. insert l v e) (cleared_before k ls) ∙ ap (λ b. insert (cleared b k ls) v e) (apart k (sym same)))
  before_at k false q =
      let other = eqb-false (suc k) v q in
      ap (λ i. clear_before i (insert ls v e)) (up_next v k other)
      ∙ cleared_before (up v k) (insert ls v e)
      ∙ ap (λ o. cleared (is_pair_there o) (up v k) (insert ls v e)) (read_up v k ls e le)
      ∙ cleared_up (has_pair ls k) v k ls e le
      ∙ sym (ap (λ l. insert l v e) (cleared_before k ls))

  before_zero : (u : ℕ) → u ≡ v → clear_before (up u 0) (insert ls u e) ≡ insert (clear_before 0 ls) u e
  before_zero zero same = cleared_before 0 (insert ls 0 e) ∙ ap (λ b. cleared b 0 (insert ls 0 e)) narrow
  before_zero (suc u) same = refl

  before_up : (j : ℕ) → clear_before (up v j) (insert ls v e) ≡ insert (clear_before j ls) v e
  before_up zero = before_zero v refl
  before_up (suc k) = before_at k (nat_eq (suc k) v) refl

  after_up : (b : Bool) (j : ℕ) (l2 : Locals) → v ≤ length l2 → (b ≡ true → j + 1 ≡ v → ⊥)
      → cleared b (up v j + 1) (insert l2 v e) ≡ insert (cleared b (j + 1) l2) v e
  after_up false j l2 room other = refl
  after_up true j l2 room other =
      let n : up v j + 1 ≡ up v (j + 1) = omega (arith, up_next v j (λ q. other refl (omega arith)), ap (up v) (add-one j)) in
      ap (λ i. slice_set (insert l2 v e) i None) n ∙ set_up v (j + 1) l2 e None room

  put_up : (j : ℕ) (x : Value) → (is_pair x ≡ true → j + 1 ≡ v → ⊥) → put_local (up v j) x (insert ls v e) ≡ insert (put_local j x ls) v e
  put_up j x other =
      let l1 = clear_before j ls in
      let room1 : v ≤ length l1 = (let n = length_before j ls in omega arith) in
      let room2 : v ≤ length (slice_set l1 j (Some x)) = (let n = length-set l1 j (Some x) in omega arith) in
      cleared_behind (up v j) x (slice_set (clear_before (up v j) (insert ls v e)) (up v j) (Some x))
      ∙ ap (λ l. cleared (is_pair x) (up v j + 1) (slice_set l (up v j) (Some x))) (before_up j)
      ∙ ap (λ l. cleared (is_pair x) (up v j + 1) l) (set_up v j l1 e (Some x) room1)
      ∙ after_up (is_pair x) j (slice_set l1 j (Some x)) room2 other
      ∙ sym (ap (λ l. insert l v e) (cleared_behind j x (slice_set l1 j (Some x))))

  -- a value is put into a local variable and into that of the twin, but for a long right in front of the probe array
  pub put-shifted : (j : ℕ) (x : Value) → (is_pair x ≡ true → j + 1 ≡ v → ⊥)
      → put_local (twin_slot (Some v) j) x (insert ls v e) ≡ insert (put_local j x ls) v e
  put-shifted j x other = ap (λ k. put_local k x (insert ls v e)) (shifted-up v j) ∙ put_up j x other

-- ---- the array is put into its local variable

read_front : (v k : ℕ) (ls : Locals) (e : Option Value) → k < v → v ≤ length ls → slice_index_or (insert ls v e) k None ≡ slice_index_or ls k None
read_front v k ls e lt le = ap (λ j. slice_index_or (insert ls v e) j None) (sym (up-below v k lt)) ∙ read_up v k ls e le

pub put_own : (v : ℕ) (ls : Locals) (e : Option Value) (x : Value) → v ≤ length ls → is_pair x ≡ false → ((k : ℕ) → v ≡ suc k → has_pair ls k ≡ false)
    → put_local v x (insert ls v e) ≡ insert ls v (Some x)
put_own zero ls e x le n apart = cleared_behind 0 x (Some x ∷ ls) ∙ ap (λ b. cleared b 1 (Some x ∷ ls)) n
put_own (suc k) ls e x le n apart =
    let there = insert ls (suc k) e in
    cleared_behind (suc k) x (slice_set (clear_before (suc k) there) (suc k) (Some x))
    ∙ ap (λ b. cleared b (suc k + 1) (slice_set (clear_before (suc k) there) (suc k) (Some x))) n
    ∙ ap (λ l. slice_set l (suc k) (Some x))
    (cleared_before k there ∙ ap (λ o. cleared (is_pair_there o) k there) (read_front (suc k) k ls e (omega arith) le)
    ∙ ap (λ b. cleared b k there) (apart k refl))
    ∙ set_own (suc k) ls e (Some x) le

-- ---- the local variables of a new frame

insert_free : (k n : ℕ) → k ≤ n → insert (replicate n None) k None ≡ replicate (suc n) (let o : Option Value = None in o)
insert_free zero n le = refl
insert_free (suc k) zero le = absurd (omega arith)
insert_free (suc k) (suc n) le = ap (λ l. None ∷ l) (insert_free k n (omega arith))

-- those of a method with one more behind the arguments
pub fill : (args : Locals) (v k : ℕ) → length args ≤ v → v ≤ length args + k → insert (args ++ replicate k None) v None ≡ args ++ replicate (suc k) None
fill [] v k short room = insert_free v k (omega arith)
fill (x ∷ args) zero k short room = absurd (omega arith)
fill (x ∷ args) (suc v) k short room = ap (λ l. x ∷ l) (fill args v k (omega arith) (omega arith))

pub read_args : (args r : Locals) (k : ℕ) → k < length args → slice_index_or (args ++ r) k None ≡ slice_index_or args k None
read_args [] r k lt = absurd (omega arith)
read_args (x ∷ args) r zero lt = refl
read_args (x ∷ args) r (suc k) lt = read_args args r k (omega arith)
