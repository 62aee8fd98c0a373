-- Each target of a switch has its branch.
use Rattle.std.proofs.Common.{◌≡◌, ⊎_elim, ℕ, ◌+◌, Bool, true, false, not, List, [], ◌∷◌, filter, nat_eq, refl, sym, ap, ◌∙◌, subst, cond}
use Rattle.std.specs.Prelude.{Contains}
use Rattle.jc_bytes.specs.PlainLists.{map_from}
use Rattle.jc_bytes.specs.FirstSeen.{first_seen}
use Rattle.jc_bytes.proofs.BooleanLaws.{first_in, later_in, which_in, none_in}
use Rattle.jc_bytes.proofs.FirstSeenLaws.{first_seen_all}
use Rattle.jc_plan.specs.declared.branch.Branch.{Branch}
use Rattle.jc_plan.specs.Edges.{arm}
use Rattle.jc_emit.specs.TwinCode.{to_of}

-- what isn't x stays where x is left out
others_stay : (x y : ℕ) (xs : List ℕ) → Contains xs y → nat_eq x y ≡ false → Contains (filter (λ z. not (nat_eq x z)) xs) y
others_stay x y [] c e = absurd (none_in y c)
others_stay x y (z ∷ xs) c e = by (λ later. others_stay x y xs later e) (nat_eq x z) refl
  where
    by : (Contains xs y → Contains (filter (λ w. not (nat_eq x w)) xs) y) → (b : Bool) → nat_eq x z ≡ b
        → Contains (cond (not b) (z ∷ filter (λ w. not (nat_eq x w)) xs) (filter (λ w. not (nat_eq x w)) xs)) y
    by go true q = ⊎_elim (λ same. let no : true ≡ false = sym q ∙ ap (nat_eq x) same ∙ e in cc) go (which_in z xs y c)
    by go false q = ⊎_elim
        (λ same. subst (Contains (z ∷ filter (λ w. not (nat_eq x w)) xs)) same (first_in z (filter (λ w. not (nat_eq x w)) xs)))
        (λ later. later_in z (filter (λ w. not (nat_eq x w)) xs) y (go later))
        (which_in z xs y c)

arm_there : (i n : ℕ) (xs : List ℕ) (to : ℕ) → Contains xs to → (x : Branch) × Contains (map_from (arm i) n xs) x × (to_of x ≡ to)
arm_there i n [] to c = absurd (none_in to c)
arm_there i n (y ∷ xs) to c = ⊎_elim
    (λ same. (arm i n y, first_in (arm i n y) (map_from (arm i) (n + 1) xs), same))
    (λ later. let h = arm_there i (n + 1) xs to later in (h.0, later_in (arm i n y) (map_from (arm i) (n + 1) xs) h.0 h.1, h.2))
    (which_in y xs to c)

pub target_branch : (i : ℕ) (targets : List ℕ) (to : ℕ) → Contains targets to
    → (x : Branch) × Contains (map_from (arm i) 0 (first_seen targets)) x × (to_of x ≡ to)
target_branch i targets to c = arm_there i 0 (first_seen targets) to (first_seen_all targets to c)
