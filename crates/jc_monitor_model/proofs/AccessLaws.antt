-- Who holds which lock, once one was taken or given back.
use Rattle.std.proofs.Common.{◌≡◌, ℕ, zero, suc, ◌-◌, Bool, true, false, cond, List, [], ◌∷◌, ◌++◌, Option, Some, None, option_map, nat_eq, refl, sym, ap, ap₂, ◌∙◌, subst, arith}
use Rattle.std.specs.Prelude.{find}
use Rattle.std.specs.List.{AllByRecursion}
use Rattle.std.proofs.lemmas.Bool.{eqb-true, eq-eqb, ne_eqb, true≢false, false≢true}
use Rattle.jc_monitor_model.specs.Locks.{Lock, of_object, of_class, Held, is_same_lock, is_of_lock, Access, free, its_own, another's, access_by, access, with_count, taken_as, taken_by, without, given_as, given_by}
use Rattle.jc_monitor_model.specs.KeptLocks.{AreApart, times_taken}

-- ---- locks

pub same_itself : (l : Lock) → is_same_lock l l ≡ true
same_itself (of_object k) = eq-eqb k k refl
same_itself (of_class k) = eq-eqb k k refl

pub same_is : (a b : Lock) → is_same_lock a b ≡ true → a ≡ b
same_is (of_object a) (of_object b) e = ap of_object (eqb-true a b e)
same_is (of_class a) (of_class b) e = ap of_class (eqb-true a b e)
same_is (of_object a) (of_class b) e = absurd (false≢true e)
same_is (of_class a) (of_object b) e = absurd (false≢true e)

-- locks that differ do so either way
pub other_way : (a b : Lock) → is_same_lock a b ≡ false → is_same_lock b a ≡ false
other_way a b e = by (is_same_lock b a) refl
  where
    by : (z : Bool) → is_same_lock b a ≡ z → z ≡ false
    by false q = refl
    by true q = absurd (true≢false (sym (same_itself a) ∙ ap (is_same_lock a) (sym (same_is b a q)) ∙ e))

-- ---- finding

abbrev or_else : {X : Type 0} → Option X → Option X → Option X
or_else (Some x) other = Some x
or_else None other = other

or_none : {X : Type 0} (o : Option X) → or_else o None ≡ o
or_none (Some x) = refl
or_none None = refl

find_append : {X : Type 0} (p : X → Bool) (xs ys : List X) → find p (xs ++ ys) ≡ or_else (find p xs) (find p ys)
find_append p [] ys = refl
find_append p (x ∷ xs) ys = by (p x) (find_append p xs ys)
  where
    by : (z : Bool) → find p (xs ++ ys) ≡ or_else (find p xs) (find p ys)
        → cond z (Some x) (find p (xs ++ ys)) ≡ or_else (cond z (Some x) (find p xs)) (find p ys)
    by true rest = refl
    by false rest = rest

-- the lock with another count
abbrev counted_so : ℕ → Held → Held
counted_so n h = record h { count = n }

pub none_of : (lock : Lock) (held : List Held) → AllByRecursion (λ (other : Held). is_of_lock lock other ≡ false) held → find (is_of_lock lock) held ≡ None
none_of lock [] a = refl
none_of lock (h ∷ held) a = ap (λ y. cond y (Some h) (find (is_of_lock lock) held)) a.0 ∙ none_of lock held a.1

with_count_own : (lock : Lock) (n : ℕ) (held : List Held)
    → find (is_of_lock lock) (with_count lock n held) ≡ option_map (counted_so n) (find (is_of_lock lock) held)
with_count_own lock n [] = refl
with_count_own lock n (h ∷ held) = by (is_of_lock lock h) refl (with_count_own lock n held)
  where
    by : (z : Bool) → is_of_lock lock h ≡ z
        → find (is_of_lock lock) (with_count lock n held) ≡ option_map (counted_so n) (find (is_of_lock lock) held)
        → find (is_of_lock lock) (cond z (counted_so n h ∷ held) (h ∷ with_count lock n held))
        ≡ option_map (counted_so n) (cond z (Some h) (find (is_of_lock lock) held))
    by true e rest = ap (λ y. cond y (Some (counted_so n h)) (find (is_of_lock lock) held)) e
    by false e rest = ap (λ y. cond y (Some h) (find (is_of_lock lock) (with_count lock n held))) e ∙ rest

-- where the locks differ, this one isn't the other
is_not : (lock other : Lock) (h : Held) → is_same_lock other lock ≡ false → is_of_lock lock h ≡ true → is_of_lock other h ≡ false
is_not lock other h differ e = subst (λ l. is_same_lock other l ≡ false) (same_is lock h.lock e) differ

with_count_other : (lock other : Lock) (n : ℕ) (held : List Held) → is_same_lock other lock ≡ false
    → find (is_of_lock other) (with_count lock n held) ≡ find (is_of_lock other) held
with_count_other lock other n [] differ = refl
with_count_other lock other n (h ∷ held) differ = by (is_of_lock lock h) refl (with_count_other lock other n held differ)
  where
    by : (z : Bool) → is_of_lock lock h ≡ z → find (is_of_lock other) (with_count lock n held) ≡ find (is_of_lock other) held
        → find (is_of_lock other) (cond z (counted_so n h ∷ held) (h ∷ with_count lock n held)) ≡ find (is_of_lock other) (h ∷ held)
    by true e rest =
        ap (λ y. cond y (Some (counted_so n h)) (find (is_of_lock other) held)) (is_not lock other h differ e)
        ∙ sym (ap (λ y. cond y (Some h) (find (is_of_lock other) held)) (is_not lock other h differ e))
    by false e rest = ap (λ o. cond (is_of_lock other h) (Some h) o) rest

without_own : (lock : Lock) (held : List Held) → AreApart held → find (is_of_lock lock) (without lock held) ≡ None
without_own lock [] apart = refl
without_own lock (h ∷ held) apart = by (is_of_lock lock h) refl (without_own lock held apart.1)
  where
    by : (z : Bool) → is_of_lock lock h ≡ z → find (is_of_lock lock) (without lock held) ≡ None
        → find (is_of_lock lock) (cond z held (h ∷ without lock held)) ≡ None
    by true e rest = none_of lock held
        (subst (λ l. AllByRecursion (λ (other : Held). is_of_lock l other ≡ false) held) (sym (same_is lock h.lock e)) apart.0)
    by false e rest = ap (λ y. cond y (Some h) (find (is_of_lock lock) (without lock held))) e ∙ rest

without_other : (lock other : Lock) (held : List Held) → is_same_lock other lock ≡ false
    → find (is_of_lock other) (without lock held) ≡ find (is_of_lock other) held
without_other lock other [] differ = refl
without_other lock other (h ∷ held) differ = by (is_of_lock lock h) refl (without_other lock other held differ)
  where
    by : (z : Bool) → is_of_lock lock h ≡ z → find (is_of_lock other) (without lock held) ≡ find (is_of_lock other) held
        → find (is_of_lock other) (cond z held (h ∷ without lock held)) ≡ find (is_of_lock other) (h ∷ held)
    by true e rest = sym (ap (λ y. cond y (Some h) (find (is_of_lock other) held)) (is_not lock other h differ e))
    by false e rest = ap (λ o. cond (is_of_lock other h) (Some h) o) rest

not_one : (m : ℕ) → nat_eq (suc (suc m)) 1 ≡ false
not_one m = ne_eqb (suc (suc m)) 1 (λ e. omega (arith, e))

one_less : (m : ℕ) → suc (suc m) - 1 ≡ suc m
one_less m = omega arith

-- ---- what the thread holds

-- a lock that a thread holds
pub record Holds (t : ℕ) (o : Option Held) (n : ℕ) : Type 0 where
  pub entry : Held
  pub is : o ≡ Some entry
  pub thread : nat_eq entry.thread t ≡ true
  pub count : entry.count ≡ n

free_no_own : (n : ℕ) → free ≡ its_own n → ⊥
free_no_own n e = cc

others_no_own : (n : ℕ) → another's ≡ its_own n → ⊥
others_no_own n e = cc

own_count : (m n : ℕ) → its_own m ≡ its_own n → m ≡ n
own_count m n e = ap times_taken e

pub holds : (t : ℕ) (o : Option Held) (n : ℕ) → access_by t o ≡ its_own n → Holds t o n
holds t None n e = absurd (free_no_own n e)
holds t (Some h) n e = by (nat_eq h.thread t) refl e
  where
    by : (z : Bool) → nat_eq h.thread t ≡ z → cond z (its_own h.count) another's ≡ its_own n → Holds t (Some h) n
    by true q e = record { entry = h; is = refl; thread = q; count = own_count h.count n e }
    by false q e = absurd (others_no_own n e)

-- what another thread holds is nothing of this one's
others : (t k : ℕ) (h : Held) → nat_eq h.thread t ≡ true → nat_eq t k ≡ false → (n : ℕ) → access_by k (Some (counted_so n h)) ≡ another's
others t k h mine differ n =
    ap (λ y. cond y (its_own n) another's) (subst (λ m. nat_eq m k ≡ false) (sym (eqb-true h.thread t mine)) differ)

module _ (t : ℕ) (lock : Lock) (held : List Held) where
  abbrev new : Held
  new = record { lock = lock; thread = t; count = 1 }

  new_there : find (is_of_lock lock) held ≡ None → find (is_of_lock lock) (held ++ new ∷ []) ≡ Some new
  new_there e =
      find_append (is_of_lock lock) held (new ∷ []) ∙ ap (λ o. or_else o (find (is_of_lock lock) (new ∷ []))) e
      ∙ ap (λ y. cond y (Some new) None) (same_itself lock)

  -- ---- a lock is taken

  pub taken_own : (access t lock held ≡ another's → ⊥) → access t lock (taken_by t lock held) ≡ its_own (suc (times_taken (access t lock held)))
  taken_own may = by (find (is_of_lock lock) held) refl may
    where
      by : (o : Option Held) → find (is_of_lock lock) held ≡ o → (access_by t o ≡ another's → ⊥)
          → access_by t (find (is_of_lock lock) (taken_as t lock (access_by t o) held)) ≡ its_own (suc (times_taken (access_by t o)))
      by None e may = ap (access_by t) (new_there e) ∙ ap (λ y. cond y (its_own 1) another's) (eq-eqb t t refl)
      by (Some h) e may = mine (nat_eq h.thread t) refl may
        where
          mine : (z : Bool) → nat_eq h.thread t ≡ z → (cond z (its_own h.count) another's ≡ another's → ⊥)
              → access_by t (find (is_of_lock lock) (taken_as t lock (cond z (its_own h.count) another's) held))
              ≡ its_own (suc (times_taken (cond z (its_own h.count) another's)))
          mine true q may =
              ap (access_by t) (with_count_own lock (suc h.count) held ∙ ap (option_map (counted_so (suc h.count))) e)
              ∙ ap (λ y. cond y (its_own (suc h.count)) another's) q
          mine false q may = absurd (may refl)

  pub taken_others : (k : ℕ) → nat_eq t k ≡ false → times_taken (access k lock (taken_by t lock held)) ≡ times_taken (access k lock held)
  taken_others k differ = by (find (is_of_lock lock) held) refl
    where
      by : (o : Option Held) → find (is_of_lock lock) held ≡ o
          → times_taken (access_by k (find (is_of_lock lock) (taken_as t lock (access_by t o) held))) ≡ times_taken (access_by k (find (is_of_lock lock) held))
      by None e =
          ap (λ o. times_taken (access_by k o)) (new_there e) ∙ ap (λ y. times_taken (cond y (its_own 1) another's)) differ
          ∙ sym (ap (λ o. times_taken (access_by k o)) e)
      by (Some h) e = mine (nat_eq h.thread t) refl
        where
          mine : (z : Bool) → nat_eq h.thread t ≡ z
              → times_taken (access_by k (find (is_of_lock lock) (taken_as t lock (cond z (its_own h.count) another's) held)))
              ≡ times_taken (access_by k (find (is_of_lock lock) held))
          mine true q =
              ap (λ o. times_taken (access_by k o)) (with_count_own lock (suc h.count) held ∙ ap (option_map (counted_so (suc h.count))) e)
              ∙ ap times_taken (others t k h q differ (suc h.count) ∙ sym (others t k h q differ h.count)) ∙ sym (ap (λ o. times_taken (access_by k o)) e)
          mine false q = refl

  pub taken_elsewhere : (k : ℕ) (other : Lock) → is_same_lock other lock ≡ false → access k other (taken_by t lock held) ≡ access k other held
  taken_elsewhere k other differ = by (access t lock held)
    where
      by : (a : Access) → access k other (taken_as t lock a held) ≡ access k other held
      by free = ap (access_by k) (find_append (is_of_lock other) held (new ∷ [])
          ∙ ap (λ y. or_else (find (is_of_lock other) held) (cond y (Some new) None)) differ ∙ or_none (find (is_of_lock other) held))
      by (its_own n) = ap (access_by k) (with_count_other lock other (suc n) held differ)
      by another's = refl

  -- ---- a lock is given back

  pub given_own : (n : ℕ) → AreApart held → access t lock held ≡ its_own (suc n) → times_taken (access t lock (given_by t lock held)) ≡ n
  given_own n apart e = ap (λ a. times_taken (access t lock (given_as lock a held))) e ∙ by n (holds t (find (is_of_lock lock) held) (suc n) e)
    where
      by : (m : ℕ) → Holds t (find (is_of_lock lock) held) (suc m) → times_taken (access t lock (given_as lock (its_own (suc m)) held)) ≡ m
      by zero h = ap (λ o. times_taken (access_by t o)) (without_own lock held apart)
      by (suc m) h =
          ap₂ (λ z k. times_taken (access t lock (cond z (without lock held) (with_count lock k held)))) (not_one m) (one_less m)
          ∙ (ap (λ o. times_taken (access_by t o)) (with_count_own lock (suc m) held ∙ ap (option_map (counted_so (suc m))) h.is)
          ∙ ap (λ y. times_taken (cond y (its_own (suc m)) another's)) h.thread)

  pub given_others : (k : ℕ) → AreApart held → nat_eq t k ≡ false → times_taken (access k lock (given_by t lock held)) ≡ times_taken (access k lock held)
  given_others k apart differ = by (access t lock held) refl
    where
      before : (n : ℕ) → Holds t (find (is_of_lock lock) held) n → times_taken (access k lock held) ≡ 0
      before n h = ap (λ o. times_taken (access_by k o)) h.is ∙ ap times_taken (others t k h.entry h.thread differ h.entry.count)

      one : (n : ℕ) (z : Bool) → Holds t (find (is_of_lock lock) held) n
          → times_taken (access k lock (cond z (without lock held) (with_count lock (n - 1) held))) ≡ 0
      one n true h = ap (λ o. times_taken (access_by k o)) (without_own lock held apart)
      one n false h =
          ap (λ o. times_taken (access_by k o)) (with_count_own lock (n - 1) held ∙ ap (option_map (counted_so (n - 1))) h.is)
          ∙ ap times_taken (others t k h.entry h.thread differ (n - 1))

      by : (a : Access) → access t lock held ≡ a → times_taken (access k lock (given_as lock a held)) ≡ times_taken (access k lock held)
      by free e = refl
      by (its_own n) e = let h = holds t (find (is_of_lock lock) held) n e in one n (nat_eq n 1) h ∙ sym (before n h)
      by another's e = refl

  pub given_elsewhere : (k : ℕ) (other : Lock) → is_same_lock other lock ≡ false → access k other (given_by t lock held) ≡ access k other held
  given_elsewhere k other differ = by (access t lock held)
    where
      one : (n : ℕ) (z : Bool) → access k other (cond z (without lock held) (with_count lock (n - 1) held)) ≡ access k other held
      one n true = ap (access_by k) (without_other lock other held differ)
      one n false = ap (access_by k) (with_count_other lock other (n - 1) held differ)

      by : (a : Access) → access k other (given_as lock a held) ≡ access k other held
      by free = refl
      by (its_own n) = one n (nat_eq n 1)
      by another's = refl
