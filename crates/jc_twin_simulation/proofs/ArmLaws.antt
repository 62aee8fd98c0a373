-- Where switches lead, when their arms lead elsewhere.
use Rattle.std.proofs.Common.{ℕ, zero, suc, ℤ, Bool, true, false, List, [], ◌∷◌, map, arith, if◌then◌else◌}
use Rattle.std.specs.Prelude.{slice_index_or, Contains, int_lt, int_le, ◌&&◌, unsigned_abs, ◌-ℤ◌}
use Rattle.jc_methods.specs.Insn.{arm_with_place}
use Rattle.jc_methods.specs.declared.insn.Arm.{Arm}
use Rattle.jc_bytes.proofs.BooleanLaws.{first_in, later_in}
use Rattle.jc_plan.specs.Chosen.{table_target, lookup_target}

-- what holds of each target and of the place that stands for it
module _ (place : ℕ → ℕ) (Leads : ℕ → ℕ → Type 0) where
  abbrev All : ℕ → List ℕ → Type 0
  All d targets = (to : ℕ) → Contains (d ∷ targets) to → Leads to (place to)

  fewer : (d x : ℕ) (targets : List ℕ) → All d (x ∷ targets) → All d targets
  fewer d x targets h to c = h to (more d x targets to c)
    where
      more : (d x : ℕ) (targets : List ℕ) (to : ℕ) → Contains (d ∷ targets) to → Contains (d ∷ x ∷ targets) to
      more d x targets to (zero, lt, e) = (zero, omega arith, e)
      more d x targets to (suc k, lt, e) = (suc (suc k), omega arith, e)

  -- the arm with a number, or the default
  indexed : (d : ℕ) (arms : List ℕ) (k : ℕ) → All d arms → Leads (slice_index_or arms k d) (slice_index_or (map place arms) k (place d))
  indexed d [] k h = h d (first_in d [])
  indexed d (x ∷ arms) zero h = h x (later_in d (x ∷ arms) x (first_in x arms))
  indexed d (x ∷ arms) (suc k) h = indexed d arms k (fewer d x arms h)

  by_test : (b : Bool) (x y x' y' : ℕ) → Leads x x' → Leads y y' → Leads (if b then x else y) (if b then x' else y')
  by_test true x y x' y' h k = h
  by_test false x y x' y' h k = k

  matched : (d : ℕ) (arms : List Arm) (key : ℤ) → All d (map (λ (a : Arm). a.to) arms)
      → Leads (lookup_target d arms key) (lookup_target (place d) (map (arm_with_place place) arms) key)
  matched d [] key h = h d (first_in d [])
  matched d (a ∷ arms) key h =
      by_test (int_le a.key key && int_le key a.key) a.to (lookup_target d arms key) (place a.to)
      (lookup_target (place d) (map (arm_with_place place) arms) key)
      (h a.to (later_in d (a.to ∷ map (λ (x : Arm). x.to) arms) a.to (first_in a.to (map (λ (x : Arm). x.to) arms))))
      (matched d arms key (fewer d a.to (map (λ (x : Arm). x.to) arms) h))

pub index_arm : (low : ℤ) (d : ℕ) (arms : List ℕ) (key : ℤ) (place : ℕ → ℕ) (Leads : ℕ → ℕ → Type 0)
    → ((to : ℕ) → Contains (d ∷ arms) to → Leads to (place to)) → Leads (table_target low d arms key) (table_target low (place d) (map place arms) key)
index_arm low d arms key place Leads h =
    by_test place Leads (int_lt key low) d (slice_index_or arms (unsigned_abs (key -ℤ low)) d) (place d)
    (slice_index_or (map place arms) (unsigned_abs (key -ℤ low)) (place d))
    (h d (first_in d arms)) (indexed place Leads d arms (unsigned_abs (key -ℤ low)) h)

pub match_arm : (d : ℕ) (arms : List Arm) (key : ℤ) (place : ℕ → ℕ) (Leads : ℕ → ℕ → Type 0)
    → ((to : ℕ) → Contains (d ∷ map (λ (a : Arm). a.to) arms) to → Leads to (place to))
    → Leads (lookup_target d arms key) (lookup_target (place d) (map (arm_with_place place) arms) key)
match_arm d arms key place Leads h = matched place Leads d arms key h
