-- What stays true of the list of locks as one is taken or given back.
use Rattle.std.proofs.Common.{◌≡◌, ℕ, suc, ◌-◌, ◌+◌, ◌<◌, ◌≤◌, Bool, true, false, cond, List, [], ◌∷◌, ◌++◌, length, Option, Some, None, nat_eq, refl, sym, ap, subst, arith, length-append}
use Rattle.std.specs.Prelude.{find}
use Rattle.std.specs.List.{AllByRecursion}
use Rattle.std.proofs.lemmas.Bool.{eqb-false}
use Rattle.std.proofs.lemmas.Option.{same_Some}
use Rattle.jc_bytes.proofs.EachLaws.{all_both}
use Rattle.jc_monitor_model.specs.Locks.{Lock, Held, is_same_lock, is_of_lock, Access, free, its_own, another's, access_by, access, most_times, with_count, taken_as, taken_by, without, given_as, given_by}
use Rattle.jc_monitor_model.specs.KeptLocks.{MayTake, AreApart, IsHeld, AreLocks}
use Rattle.jc_monitor_model.proofs.AccessLaws.{other_way, Holds, holds}

-- ---- a count becomes another

-- what is said of the locks alone stays
count_all : (P : Lock → Type 0) (lock : Lock) (n : ℕ) (held : List Held) → AllByRecursion (λ (h : Held). P h.lock) held
    → AllByRecursion (λ (h : Held). P h.lock) (with_count lock n held)
count_all P lock n [] a = tt
count_all P lock n (h ∷ held) a = by (is_of_lock lock h) (count_all P lock n held a.1)
  where
    by : (z : Bool) → AllByRecursion (λ (x : Held). P x.lock) (with_count lock n held)
        → AllByRecursion (λ (x : Held). P x.lock) (cond z (record h { count = n } ∷ held) (h ∷ with_count lock n held))
    by true rest = (a.0, a.1)
    by false rest = (a.0, rest)

count_apart : (lock : Lock) (n : ℕ) (held : List Held) → AreApart held → AreApart (with_count lock n held)
count_apart lock n [] a = tt
count_apart lock n (h ∷ held) a = by (is_of_lock lock h) (count_apart lock n held a.1)
  where
    by : (z : Bool) → AreApart (with_count lock n held) → AreApart (cond z (record h { count = n } ∷ held) (h ∷ with_count lock n held))
    by true rest = (a.0, a.1)
    by false rest = (count_all (λ l. is_same_lock h.lock l ≡ false) lock n held a.0, rest)

count_length : (lock : Lock) (n : ℕ) (held : List Held) → length (with_count lock n held) ≡ length held
count_length lock n [] = refl
count_length lock n (h ∷ held) = by (is_of_lock lock h) (count_length lock n held)
  where
    by : (z : Bool) → length (with_count lock n held) ≡ length held
        → length (cond z (record h { count = n } ∷ held) (h ∷ with_count lock n held)) ≡ suc (length held)
    by true rest = refl
    by false rest = ap suc rest

count_each : (threads : ℕ) (lock : Lock) (n : ℕ) (held : List Held) → 1 ≤ n → n ≤ most_times → AllByRecursion (IsHeld threads) held
    → AllByRecursion (IsHeld threads) (with_count lock n held)
count_each threads lock n [] some few a = tt
count_each threads lock n (h ∷ held) some few a = by (is_of_lock lock h) (count_each threads lock n held some few a.1)
  where
    by : (z : Bool) → AllByRecursion (IsHeld threads) (with_count lock n held)
        → AllByRecursion (IsHeld threads) (cond z (record h { count = n } ∷ held) (h ∷ with_count lock n held))
    by true rest = (record { thread = (a.0).thread; some = some; few = few }, a.1)
    by false rest = (a.0, rest)

-- ---- a lock goes

without_all : (P : Held → Type 0) (lock : Lock) (held : List Held) → AllByRecursion P held → AllByRecursion P (without lock held)
without_all P lock [] a = tt
without_all P lock (h ∷ held) a = by (is_of_lock lock h) (without_all P lock held a.1)
  where
    by : (z : Bool) → AllByRecursion P (without lock held) → AllByRecursion P (cond z held (h ∷ without lock held))
    by true rest = a.1
    by false rest = (a.0, rest)

without_apart : (lock : Lock) (held : List Held) → AreApart held → AreApart (without lock held)
without_apart lock [] a = tt
without_apart lock (h ∷ held) a = by (is_of_lock lock h) (without_apart lock held a.1)
  where
    by : (z : Bool) → AreApart (without lock held) → AreApart (cond z held (h ∷ without lock held))
    by true rest = a.1
    by false rest = (without_all (λ (other : Held). is_of_lock h.lock other ≡ false) lock held a.0, rest)

without_length : (lock : Lock) (held : List Held) → length (without lock held) ≤ length held
without_length lock [] = omega arith
without_length lock (h ∷ held) = by (is_of_lock lock h) (without_length lock held)
  where
    by : (z : Bool) → length (without lock held) ≤ length held → length (cond z held (h ∷ without lock held)) ≤ suc (length held)
    by true rest = omega arith
    by false rest = omega (arith, rest)

-- ---- a lock joins

some_none : {X : Type 0} (x : X) → Some x ≡ None → ⊥
some_none x e = cc

none_same : (lock : Lock) (held : List Held) → find (is_of_lock lock) held ≡ None → AllByRecursion (λ (h : Held). is_same_lock h.lock lock ≡ false) held
none_same lock [] e = tt
none_same lock (h ∷ held) e = by (is_of_lock lock h) refl e (λ rest. none_same lock held rest)
  where
    by : (z : Bool) → is_of_lock lock h ≡ z → cond z (Some h) (find (is_of_lock lock) held) ≡ None
        → (find (is_of_lock lock) held ≡ None → AllByRecursion (λ (x : Held). is_same_lock x.lock lock ≡ false) held)
        → AllByRecursion (λ (x : Held). is_same_lock x.lock lock ≡ false) (h ∷ held)
    by true q e again = absurd (some_none h e)
    by false q e again = (other_way lock h.lock q, again e)

joined_apart : (held : List Held) (new : Held) → AreApart held → AllByRecursion (λ (h : Held). is_same_lock h.lock new.lock ≡ false) held
    → AreApart (held ++ new ∷ [])
joined_apart [] new a differ = (tt, tt)
joined_apart (h ∷ held) new a differ = (
  all_both (λ (other : Held). is_of_lock h.lock other ≡ false) held (new ∷ []) a.0 (differ.0, tt),
  joined_apart held new a.1 differ.1,
)

-- ---- what is kept

access_free : (t : ℕ) (o : Option Held) → access_by t o ≡ free → o ≡ None
access_free t None e = refl
access_free t (Some h) e = by (nat_eq h.thread t) e
  where
    by : (z : Bool) → cond z (its_own h.count) another's ≡ free → Some h ≡ None
    by true e = absurd (cc)
    by false e = absurd (cc)

pub taken_locks : (threads t : ℕ) (lock : Lock) (held : List Held) → t < threads → AreLocks threads held → MayTake (length held) (access t lock held)
    → AreLocks threads (taken_by t lock held)
taken_locks threads t lock held within are may = by (access t lock held) refl may
  where
    by : (a : Access) → access t lock held ≡ a → MayTake (length held) a → AreLocks threads (taken_as t lock a held)
    by free e room =
        let new : Held = record { lock = lock; thread = t; count = 1 } in
        let one = length-append held (new ∷ []) in record {
          apart = joined_apart held new are.apart (none_same lock held (access_free t (find (is_of_lock lock) held) e));
          few = omega (arith, one, room);
          each = all_both (IsHeld threads) held (new ∷ []) are.each (record { thread = within; some = omega arith; few = omega arith }, tt);
        }
    by (its_own n) e few = record {
      apart = count_apart lock (suc n) held are.apart;
      few = let same = count_length lock (suc n) held in let all = are.few in omega (arith, same, all);
      each = count_each threads lock (suc n) held (omega arith) (omega (arith, few)) are.each;
    }
    by another's e never = absurd never

pub found_each : (threads : ℕ) (p : Held → Bool) (held : List Held) (h : Held) → AllByRecursion (IsHeld threads) held → find p held ≡ Some h → IsHeld threads h
found_each threads p [] h a e = absurd (some_none h (sym e))
found_each threads p (x ∷ held) h a e = by (p x) e (λ rest. found_each threads p held h a.1 rest)
  where
    by : (z : Bool) → cond z (Some x) (find p held) ≡ Some h → (find p held ≡ Some h → IsHeld threads h) → IsHeld threads h
    by true q again = subst (IsHeld threads) (same_Some x h q) a.0
    by false q again = again q

pub given_locks : (threads t : ℕ) (lock : Lock) (held : List Held) → AreLocks threads held → AreLocks threads (given_by t lock held)
given_locks threads t lock held are = by (access t lock held) refl
  where
    one : (n : ℕ) → Holds t (find (is_of_lock lock) held) n → (z : Bool) → nat_eq n 1 ≡ z
        → AreLocks threads (cond z (without lock held) (with_count lock (n - 1) held))
    one n h true q = record {
      apart = without_apart lock held are.apart;
      few = let less = without_length lock held in let all = are.few in omega (arith, less, all);
      each = without_all (IsHeld threads) lock held are.each;
    }
    one n h false q =
        let is = found_each threads (is_of_lock lock) held h.entry are.each h.is in
        let some : 1 ≤ n = let s = is.some in let c = h.count in omega (arith, s, c) in
        let few : n ≤ most_times = let s = is.few in let c = h.count in omega (arith, s, c) in
        let more : n ≡ 1 → ⊥ = eqb-false n 1 q in record {
          apart = count_apart lock (n - 1) held are.apart;
          few = let same = count_length lock (n - 1) held in let all = are.few in omega (arith, same, all);
          each = count_each threads lock (n - 1) held (at_least n some more) (omega (arith, few)) are.each;
        }
      where
        at_least : (m : ℕ) → 1 ≤ m → (m ≡ 1 → ⊥) → 1 ≤ m - 1
        at_least m s more = omega (arith, s, more)

    by : (a : Access) → access t lock held ≡ a → AreLocks threads (given_as lock a held)
    by free e = are
    by (its_own n) e = one n (holds t (find (is_of_lock lock) held) n e) (nat_eq n 1) refl
    by another's e = are
