-- What becomes of the locks that are held as a slot is written.
use Rattle.std.proofs.Common.{◌≡◌, ℕ, suc, ◌-◌, ◌<◌, ◌≤◌, Bool, true, false, cond, List, ◌++◌, length, take, drop, Some, None, nat_eq, refl, ap, ◌∙◌, subst, arith}
use Rattle.std.specs.Prelude.{position, slice_set, slice_index_or}
use Rattle.std.proofs.lemmas.Bool.{eq-eqb, ne_eqb}
use Rattle.jc_monitor_model.specs.Locks.{Lock, Held, is_of_lock, most_times, free, its_own, another's, access_by, access, with_count, taken_as, taken_by, without, given_as, given_by}
use Rattle.jc_monitor_model.specs.KeptLocks.{MayTake, MayGive}
use Rattle.jc_monitor_model.proofs.PlaceLaws.{first_found, first_within, with_count_at, without_at}
use Rattle.jc_monitor_world.proofs.SlotLaws.{first_is, none_is}

-- ---- what a lock is to a thread, by its place

pub free_is : (t : ℕ) (lock : Lock) (held : List Held) → position (is_of_lock lock) held ≡ None → access t lock held ≡ free
free_is t lock held e = ap (access_by t) (none_is (is_of_lock lock) held e)

pub access_at : (t : ℕ) (lock : Lock) (held : List Held) (i : ℕ) (d : Held) → position (is_of_lock lock) held ≡ Some i
    → access t lock held ≡ access_by t (Some (slice_index_or held i d))
access_at t lock held i d e = ap (access_by t) (first_found (is_of_lock lock) held i d (first_is (is_of_lock lock) held i e))

pub place_within : (lock : Lock) (held : List Held) (i : ℕ) → position (is_of_lock lock) held ≡ Some i → i < length held
place_within lock held i e = first_within (is_of_lock lock) held i (first_is (is_of_lock lock) held i e)

-- a lock that may be taken or given back, where it is held, is the thread's own
module _ (t : ℕ) (h : Held) where
  own_taken : (long : ℕ) → MayTake long (access_by t (Some h)) → (access_by t (Some h) ≡ its_own h.count) × (h.count < most_times)
  own_taken long may = by (nat_eq h.thread t) may
    where
      by : (z : Bool) → MayTake long (cond z (its_own h.count) another's) → (cond z (its_own h.count) another's ≡ its_own h.count) × (h.count < most_times)
      by true less = (refl, less)
      by false never = absurd never

  own_given : MayGive (access_by t (Some h)) → (access_by t (Some h) ≡ its_own h.count) × (1 ≤ h.count)
  own_given may = by (nat_eq h.thread t) may
    where
      by : (z : Bool) → MayGive (cond z (its_own h.count) another's) → (cond z (its_own h.count) another's ≡ its_own h.count) × (1 ≤ h.count)
      by true some = (refl, some)
      by false never = absurd never

-- ---- a lock at a place is taken or given back

module _ (t : ℕ) (lock : Lock) (held : List Held) (i : ℕ) (d : Held) (e : position (is_of_lock lock) held ≡ Some i) where
  abbrev there : Held
  there = slice_index_or held i d

  may_take : MayTake (length held) (access t lock held) → MayTake (length held) (access_by t (Some (slice_index_or held i d)))
  may_take may = subst (MayTake (length held)) (access_at t lock held i d e) may

  may_give : MayGive (access t lock held) → MayGive (access_by t (Some (slice_index_or held i d)))
  may_give may = subst MayGive (access_at t lock held i d e) may

  pub few_times : MayTake (length held) (access t lock held) → there.count < most_times
  few_times may = (own_taken t there (length held) (may_take may)).1

  pub taken_at : MayTake (length held) (access t lock held) → taken_by t lock held ≡ slice_set held i (record there { count = suc there.count })
  taken_at may =
      ap (λ a. taken_as t lock a held) (access_at t lock held i d e ∙ (own_taken t there (length held) (may_take may)).0)
      ∙ with_count_at lock (suc there.count) held i d (first_is (is_of_lock lock) held i e)

  given_is : MayGive (access t lock held) → given_by t lock held ≡ cond (nat_eq there.count 1) (without lock held) (with_count lock (there.count - 1) held)
  given_is may = ap (λ a. given_as lock a held) (access_at t lock held i d e ∙ (own_given t there (may_give may)).0)

  pub given_less : MayGive (access t lock held) → 1 < there.count → given_by t lock held ≡ slice_set held i (record there { count = there.count - 1 })
  given_less may more =
      given_is may
      ∙ (ap (λ z. cond z (without lock held) (with_count lock (there.count - 1) held)) (ne_eqb there.count 1 (λ q. omega (arith, q, more)))
      ∙ with_count_at lock (there.count - 1) held i d (first_is (is_of_lock lock) held i e))

  pub given_last : MayGive (access t lock held) → there.count ≤ 1 → given_by t lock held ≡ take i held ++ drop (suc i) held
  given_last may few =
      let some = (own_given t there (may_give may)).1 in
      given_is may
      ∙ (ap (λ z. cond z (without lock held) (with_count lock (there.count - 1) held)) (eq-eqb there.count 1 (omega (arith, some, few)))
      ∙ without_at lock held i (first_is (is_of_lock lock) held i e))
