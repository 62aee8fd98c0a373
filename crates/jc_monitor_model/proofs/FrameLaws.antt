-- Frames of synchronized methods give their locks back as they are left.
use Rattle.std.proofs.Common.{◌≡◌, ℕ, suc, ◌≤◌, Bool, true, false, cond, List, [], ◌∷◌, length, filter, nat_eq, nat_lt, refl, sym, ap, ◌∙◌, subst, arith}
use Rattle.std.proofs.lemmas.Bool.{eqb-true, eqb-false, eq-eqb, ne_eqb, le-ltb, ltb-false}
use Rattle.jc_monitor_model.specs.Locks.{of_class, Held, Access, free, its_own, another's, access, given_by}
use Rattle.jc_monitor_model.specs.SynchronizedFrames.{SynchronizedFrame, frames_left, held_left}
use Rattle.jc_monitor_model.specs.KeptLocks.{times_taken, AreBelow, frames_in, AreLocks, AreCounted}
use Rattle.jc_monitor_model.proofs.AccessLaws.{given_own, given_others, given_elsewhere}
use Rattle.jc_monitor_model.proofs.HeldLaws.{given_locks}

-- ---- depths

pub below_higher : (a b : ℕ) → a ≤ b → (frames : List SynchronizedFrame) → AreBelow a frames → AreBelow b frames
below_higher a b higher [] w = tt
below_higher a b higher (f ∷ frames) w = (w.0, let less = w.1 in omega (arith, less, higher), w.2)

-- there are fewer than the bound
pub below_few : (bound : ℕ) (frames : List SynchronizedFrame) → 1 ≤ bound → AreBelow bound frames → suc (length frames) ≤ bound
below_few bound [] some w = some
below_few bound (f ∷ frames) some w = let rest = below_few f.depth frames w.0 w.2 in let less = w.1 in omega (arith, rest, less)

-- ---- counting

pub frames_in_first : (class : ℕ) (f : SynchronizedFrame) (frames : List SynchronizedFrame) (z : Bool) → nat_eq f.class class ≡ z
    → frames_in class (f ∷ frames) ≡ cond z (suc (frames_in class frames)) (frames_in class frames)
frames_in_first class f frames z e =
    ap (λ y. length (cond y (f ∷ filter (λ (g : SynchronizedFrame). nat_eq g.class class) frames)
    (filter (λ (g : SynchronizedFrame). nat_eq g.class class) frames))) e ∙ by z
  where
    by : (y : Bool) → length (cond y (f ∷ filter (λ (g : SynchronizedFrame). nat_eq g.class class) frames)
        (filter (λ (g : SynchronizedFrame). nat_eq g.class class) frames)) ≡ cond y (suc (frames_in class frames)) (frames_in class frames)
    by true = refl
    by false = refl

pub frames_in_few : (class : ℕ) (frames : List SynchronizedFrame) → frames_in class frames ≤ length frames
frames_in_few class [] = omega arith
frames_in_few class (f ∷ frames) = by (nat_eq f.class class) (frames_in_first class f frames (nat_eq f.class class) refl) (frames_in_few class frames)
  where
    by : (z : Bool) → frames_in class (f ∷ frames) ≡ cond z (suc (frames_in class frames)) (frames_in class frames)
        → frames_in class frames ≤ length frames → frames_in class (f ∷ frames) ≤ suc (length frames)
    by true e rest = omega (arith, e, rest)
    by false e rest = omega (arith, e, rest)

-- a thread that has taken a lock holds it
pub own_is : (a : Access) (n : ℕ) → times_taken a ≡ suc n → a ≡ its_own (suc n)
own_is free n e = absurd (omega (arith, e))
own_is (its_own m) n e = ap its_own e
own_is another's n e = absurd (omega (arith, e))

-- numbers that differ do so either way
turned_round : (a b : ℕ) → nat_eq a b ≡ false → nat_eq b a ≡ false
turned_round a b e = ne_eqb b a (λ same. eqb-false a b e (sym same))

-- ---- frames that stay

-- none is left where all are as deep as the thread at most
pub nothing_left : (t depth : ℕ) (frames : List SynchronizedFrame) (held : List Held) → AreBelow (suc depth) frames
    → (frames_left depth frames ≡ frames) × (held_left t depth frames held ≡ held)
nothing_left t depth [] held w = (refl, refl)
nothing_left t depth (f ∷ frames) held w =
    let less = w.1 in
    let stays : nat_lt depth f.depth ≡ false = le-ltb depth f.depth (omega (arith, less)) in
    let rest = nothing_left t depth frames held (below_higher f.depth (suc depth) (omega (arith, less)) frames w.2) in (
      ap (λ z. cond z (frames_left depth frames) (f ∷ frames_left depth frames)) stays ∙ ap (λ l. f ∷ l) rest.0,
      ap (λ z. cond z (held_left t depth frames (given_by t (of_class f.class) held)) (held_left t depth frames held)) stays ∙ rest.1,
    )

pub left_below : (depth bound : ℕ) (frames : List SynchronizedFrame) → AreBelow bound frames → AreBelow (suc depth) (frames_left depth frames)
left_below depth bound [] w = tt
left_below depth bound (f ∷ frames) w = by (nat_lt depth f.depth) refl (left_below depth f.depth frames w.2)
  where
    by : (z : Bool) → nat_lt depth f.depth ≡ z → AreBelow (suc depth) (frames_left depth frames)
        → AreBelow (suc depth) (cond z (frames_left depth frames) (f ∷ frames_left depth frames))
    by true q rest = rest
    by false q rest =
        let shallow : f.depth ≤ depth = ltb-false depth f.depth q in
        let all = below_higher f.depth (suc depth) (omega (arith, shallow)) frames w.2 in
        (w.0, omega (arith, shallow), subst (AreBelow f.depth) (sym (nothing_left 0 depth frames [] all).0) w.2)

-- ---- frames that are left

pub record Releases (threads t : ℕ) (before held : List Held) (frames : List SynchronizedFrame) : Type 0 where
  pub locks : AreLocks threads held
  pub own : AreCounted t held frames
  -- what other threads hold stays
  pub others : (k class : ℕ) → nat_eq t k ≡ false → times_taken (access k (of_class class) held) ≡ times_taken (access k (of_class class) before)

-- the frame on top gives its lock back
module _ (threads t : ℕ) (f : SynchronizedFrame) (frames : List SynchronizedFrame) (held : List Held) (are : AreLocks threads held)
    (own : AreCounted t held (f ∷ frames)) where
  pub its_lock : access t (of_class f.class) held ≡ its_own (suc (frames_in f.class frames))
  its_lock = own_is (access t (of_class f.class) held) (frames_in f.class frames)
      (own f.class ∙ frames_in_first f.class f frames true (eq-eqb f.class f.class refl))

  pub given_counted : AreCounted t (given_by t (of_class f.class) held) frames
  given_counted class = by (nat_eq f.class class) refl
    where
      by : (z : Bool) → nat_eq f.class class ≡ z → times_taken (access t (of_class class) (given_by t (of_class f.class) held)) ≡ frames_in class frames
      by true q =
          subst (λ c. times_taken (access t (of_class c) (given_by t (of_class f.class) held)) ≡ frames_in c frames) (eqb-true f.class class q)
          (given_own t (of_class f.class) held (frames_in f.class frames) are.apart its_lock)
      by false q =
          ap times_taken (given_elsewhere t (of_class f.class) held t (of_class class) (turned_round f.class class q))
          ∙ own class ∙ frames_in_first class f frames false q

  given_to_others : (k class : ℕ) → nat_eq t k ≡ false
      → times_taken (access k (of_class class) (given_by t (of_class f.class) held)) ≡ times_taken (access k (of_class class) held)
  given_to_others k class differ = by (nat_eq f.class class) refl
    where
      by : (z : Bool) → nat_eq f.class class ≡ z
          → times_taken (access k (of_class class) (given_by t (of_class f.class) held)) ≡ times_taken (access k (of_class class) held)
      by true q =
          subst (λ c. times_taken (access k (of_class c) (given_by t (of_class f.class) held)) ≡ times_taken (access k (of_class c) held))
          (eqb-true f.class class q) (given_others t (of_class f.class) held k are.apart differ)
      by false q = ap times_taken (given_elsewhere t (of_class f.class) held k (of_class class) (turned_round f.class class q))

pub releases : (threads t depth bound : ℕ) (frames : List SynchronizedFrame) (held : List Held) → AreBelow bound frames → AreLocks threads held
    → AreCounted t held frames → Releases threads t held (held_left t depth frames held) (frames_left depth frames)
releases threads t depth bound [] held w are own = record { locks = are; own = own; others = λ k class differ. refl }
releases threads t depth bound (f ∷ frames) held w are own =
    by (nat_lt depth f.depth) refl (λ others now counted. releases threads t depth f.depth frames others w.2 now counted)
  where
    by : (z : Bool) → nat_lt depth f.depth ≡ z
        → ((others : List Held) → AreLocks threads others → AreCounted t others frames
        → Releases threads t others (held_left t depth frames others) (frames_left depth frames))
        → Releases threads t held (cond z (held_left t depth frames (given_by t (of_class f.class) held)) (held_left t depth frames held))
        (cond z (frames_left depth frames) (f ∷ frames_left depth frames))
    by true q again =
        let next = given_by t (of_class f.class) held in
        let rest = again next (given_locks threads t (of_class f.class) held are) (given_counted threads t f frames held are own) in record {
          locks = rest.locks;
          own = rest.own;
          others = λ k class differ. rest.others k class differ ∙ given_to_others threads t f frames held are own k class differ;
        }
    by false q again =
        let shallow : f.depth ≤ depth = ltb-false depth f.depth q in
        let stay = nothing_left t depth frames held (below_higher f.depth (suc depth) (omega (arith, shallow)) frames w.2) in record {
          locks = subst (AreLocks threads) (sym stay.1) are;
          own = subst (λ h. AreCounted t h (f ∷ frames_left depth frames)) (sym stay.1)
              (subst (λ l. AreCounted t held (f ∷ l)) (sym stay.0) own);
          others = λ k class differ. ap (λ h. times_taken (access k (of_class class) h)) stay.1;
        }
