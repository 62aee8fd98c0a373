-- Locks, and how often which thread has taken each (JVM Specification 2.11.10; Java Language Specification 17.1).
use Rattle.std.specs.Prelude.{ℕ, suc, ◌-◌, Bool, false, not, List, [], ◌∷◌, length, Option, Some, None, ◌++◌, find, nat_eq, nat_lt, if◌then◌else◌}

pub data Lock : Type 0 where
  -- that of an array or a throwable, by its number in the heap
  of_object : ℕ → Lock
  -- that of a class, by its number in the program
  of_class : ℕ → Lock

-- a lock that is held: by which thread, and how often it has taken it
pub record Held : Type 0 where
  pub lock : Lock
  pub thread : ℕ
  pub count : ℕ

-- how many locks are held at once, and how often one is taken, at most
abbrev pub most_locks : ℕ
most_locks = 4096

abbrev pub most_times : ℕ
most_times = 18446744073709551615

-- ---- who holds a lock

abbrev pub is_same_lock : Lock → Lock → Bool
is_same_lock (of_object a) (of_object b) = nat_eq a b
is_same_lock (of_class a) (of_class b) = nat_eq a b
is_same_lock _ _ = false

abbrev pub is_of_lock : Lock → Held → Bool
is_of_lock lock h = is_same_lock lock h.lock

-- what a lock is to a thread
pub data Access : Type 0 where
  -- no thread holds it
  free : Access
  -- it holds the lock, and has taken it so often
  its_own : (count : ℕ) → Access
  another's : Access

abbrev pub access_by : ℕ → Option Held → Access
access_by t None = free
access_by t (Some h) = if nat_eq h.thread t then its_own h.count else another's

-- The locks that are held stand in the order in which they were taken, none of them twice.
abbrev pub access : ℕ → Lock → List Held → Access
access t lock held = access_by t (find (is_of_lock lock) held)

-- no lock more can be held
abbrev pub is_full : List Held → Bool
is_full held = not (nat_lt (length held) most_locks)

-- ---- a lock is taken once more

-- it has been taken so often
abbrev pub with_count : Lock → ℕ → List Held → List Held
with_count lock n [] = []
with_count lock n (h ∷ held) = if is_of_lock lock h then record h { count = n } ∷ held else h ∷ with_count lock n held

abbrev pub taken_as : ℕ → Lock → Access → List Held → List Held
taken_as t lock free held = held ++ record { lock = lock; thread = t; count = 1 } ∷ []
taken_as t lock (its_own n) held = with_count lock (suc n) held
taken_as t lock another's held = held

abbrev pub taken_by : ℕ → Lock → List Held → List Held
taken_by t lock held = taken_as t lock (access t lock held) held

-- ---- a lock is given back once

-- nobody holds it
abbrev pub without : Lock → List Held → List Held
without lock [] = []
without lock (h ∷ held) = if is_of_lock lock h then held else h ∷ without lock held

abbrev pub given_as : Lock → Access → List Held → List Held
given_as lock (its_own n) held = if nat_eq n 1 then without lock held else with_count lock (n - 1) held
given_as lock access held = held

abbrev pub given_by : ℕ → Lock → List Held → List Held
given_by t lock held = given_as lock (access t lock held) held
