-- Locks as they lie in memory: what a lock is to a thread by its slot, and what becomes of the locks as a slot is written.
use Rattle.std.proofs.Common.{◌≡◌, ℕ, suc, ◌+◌, ◌-◌, ◌<◌, ◌≤◌, List, [], ◌∷◌, ◌++◌, length, map, take, drop, Some, None, sym, ap, ap₂, ◌∙◌, subst, arith}
use Rattle.std.specs.Prelude.{position, slice_set, slice_index_or}
use Rattle.jc_monitor_model.specs.Locks.{Lock, Held, is_of_lock, most_locks, most_times, free, access_by, access, taken_as, taken_by, given_by}
use Rattle.jc_monitor_model.specs.KeptLocks.{MayTake, MayGive}
use Rattle.jc_monitor_world.specs.declared.lock.HeldLock.{HeldLock}
use Rattle.jc_monitor_world.specs.declared.locks.Locks.TheInside.{Inside}
use Rattle.jc_monitor_world.specs.Seen.{held_of}
use Rattle.jc_monitor_world.specs.Kept.{LocksSeen, locks_of, AreRoomyLocks}
use Rattle.jc_monitor_world.proofs.SlotLaws.{seen_length, seen_at, seen_set, seen_push, seen_closed}
use Rattle.jc_monitor_world.proofs.LockLaws.{free_is, access_at, place_within, few_times, taken_at, given_less, given_last}

module _ (l : Inside) (roomy : AreRoomyLocks l) (v : LocksSeen) (view : locks_of l ≡ v) (lock : Lock) where
  held_is : map held_of (take l.count l.slots.items) ≡ v.held
  held_is = ap (λ (w : LocksSeen). w.held) view

  few : l.count ≤ length l.slots.items
  few = omega (arith, roomy.slots, roomy.within)

  long : length v.held ≡ l.count
  long = ap length (sym held_is) ∙ seen_length held_of l.slots.items l.count few

  -- ---- a lock that is held

  module _ (i : ℕ) (placed : Some i ≡ position (is_of_lock lock) v.held) where
    pub within : i < l.count
    within = let less = place_within lock v.held i (sym placed) in omega (arith, less, long)

    module _ (t : ℕ) (x : HeldLock) (at : x ≡ slice_index_or l.slots.items i x) where
      there_is : slice_index_or v.held i (held_of x) ≡ held_of x
      there_is =
          ap (λ hs. slice_index_or hs i (held_of x)) (sym held_is)
          ∙ (seen_at held_of l.slots.items l.count i x (held_of x) few within ∙ ap held_of (sym at))

      pub access_there : access t lock v.held ≡ access_by t (Some (held_of x))
      access_there = access_at t lock v.held i (held_of x) (sym placed) ∙ ap (λ h. access_by t (Some h)) there_is

      pub few_times_there : MayTake (length v.held) (access t lock v.held) → x.count < most_times
      few_times_there may = subst (λ (h : Held). h.count < most_times) there_is (few_times t lock v.held i (held_of x) (sym placed) may)

      -- the lock with another count
      counted : (n m : ℕ) → n ≡ m
          → map held_of (take l.count (slice_set l.slots.items i (record x { count = n }))) ≡ slice_set v.held i (record (held_of x) { count = m })
      counted n m e =
          seen_set held_of l.slots.items l.count i (record x { count = n }) within
          ∙ ap₂ (λ hs k. slice_set hs i (record (held_of x) { count = k })) held_is e

      pub taken_there : (n : ℕ) → MayTake (length v.held) (access t lock v.held) → n ≡ x.count + 1
          → map held_of (take l.count (slice_set l.slots.items i (record x { count = n }))) ≡ taken_by t lock v.held
      taken_there n may e =
          counted n (suc x.count) (omega (arith, e))
          ∙ sym (taken_at t lock v.held i (held_of x) (sym placed) may
          ∙ ap (λ (h : Held). slice_set v.held i (record h { count = suc h.count })) there_is)

      pub less_there : (n : ℕ) → MayGive (access t lock v.held) → 1 < x.count → n ≡ x.count - 1
          → map held_of (take l.count (slice_set l.slots.items i (record x { count = n }))) ≡ given_by t lock v.held
      less_there n may more e =
          counted n (x.count - 1) e
          ∙ sym (given_less t lock v.held i (held_of x) (sym placed) may (subst (λ (h : Held). 1 < h.count) (sym there_is) more)
          ∙ ap (λ (h : Held). slice_set v.held i (record h { count = h.count - 1 })) there_is)

      pub last_there : (xs : List HeldLock) → MayGive (access t lock v.held) → x.count ≤ 1
          → xs ≡ take i (take l.count l.slots.items) ++ drop (i + 1) (take l.count l.slots.items) → map held_of xs ≡ given_by t lock v.held
      last_there xs may one e =
          seen_closed held_of l.slots.items l.count i xs e
          ∙ (ap (λ hs. take i hs ++ drop (suc i) hs) held_is
          ∙ sym (given_last t lock v.held i (held_of x) (sym placed) may (subst (λ (h : Held). h.count ≤ 1) (sym there_is) one)))

  -- ---- a lock that nobody holds

  module _ (t : ℕ) (placed : None ≡ position (is_of_lock lock) v.held) where
    pub free_there : access t lock v.held ≡ free
    free_there = free_is t lock v.held (sym placed)

    pub room_there : MayTake (length v.held) (access t lock v.held) → l.count < 4096
    room_there may = let less : length v.held < most_locks = subst (MayTake (length v.held)) free_there may in omega (arith, less, long)

    pub joined_there : (x : HeldLock) → l.count < 4096 → held_of x ≡ record { lock = lock; thread = t; count = 1 }
        → map held_of (take (l.count + 1) (slice_set l.slots.items l.count x)) ≡ taken_by t lock v.held
    joined_there x room e =
        seen_push held_of l.slots.items l.count x (omega (arith, room, roomy.slots))
        ∙ (ap₂ (λ hs h. hs ++ h ∷ []) held_is e ∙ sym (ap (λ a. taken_as t lock a v.held) free_there))

    pub not_given : MayGive (access t lock v.held) → MayGive free
    not_given may = subst MayGive free_there may
