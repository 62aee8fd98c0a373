-- Instructions whose places in the code are replaced.
use Rattle.std.proofs.Common.{◌≡◌, ℕ, ◌<◌, ◌≤◌, List, [], ◌∷◌, map, get_or, All, refl, sym, ap, subst, arith, w32, pos}
use Rattle.std.specs.Prelude.{FitsSigned, ◌≤ℤ◌, ◌+ℤ◌}
use Rattle.std.proofs.lemmas.List.{length-map}
use Rattle.std.proofs.lemmas.List.Elements.{All-map, All-nil, All-cons, All-tail}
use Rattle.jc_methods.specs.declared.insn.Insn.{Insn}
use Rattle.jc_methods.specs.declared.insn.Insn.TheVariants as insns
use Rattle.jc_methods.specs.declared.insn.Arm.{Arm}
use Rattle.jc_methods.specs.Insn.{IsWellFormed, IsAscending, with_places, arm_with_place}
use Rattle.jc_methods.specs.Flow.{targets_of}
use Rattle.jc_insn.specs.Writing.{IsInRange}

ascending_map : (f : ℕ → ℕ) (arms : List Arm) → IsAscending arms → IsAscending (map (arm_with_place f) arms)
ascending_map f [] up = tt
ascending_map f (a ∷ []) up = tt
ascending_map f (a ∷ b ∷ arms) up = (up.0, ascending_map f (b ∷ arms) up.1)

pub well_formed_with : (f : ℕ → ℕ) (insn : Insn) → IsWellFormed insn → IsWellFormed (with_places f insn)
well_formed_with f (insns.Table low default arms) well =
    (subst (λ (n : ℕ). 1 ≤ n) (sym (length-map arms f)) well.0, subst (λ (n : ℕ). (low +ℤ pos n) ≤ℤ pos 2147483648) (sym (length-map arms f)) well.1)
well_formed_with f (insns.Lookup default arms) well =
    (subst (λ (n : ℕ). n < 2147483648) (sym (length-map arms (arm_with_place f))) well.0, ascending_map f arms well.1)
well_formed_with f insn well = well

pub in_range_with : (f : ℕ → ℕ) (insn : Insn) → IsInRange insn → IsInRange (with_places f insn)
in_range_with f (insns.Lookup default arms) fits = All-map (λ arm. FitsSigned w32 arm.key) (arm_with_place f) arms fits
in_range_with f insn fits = fits

all_of : {X : Type 0} (P : X → Type 0) (xs : List X) → ((x : X) → P x) → All P xs
all_of P xs each k d below = each (get_or xs k d)

pub targets_fit : (f : ℕ → ℕ) (n : ℕ) (insn : Insn) → ((k : ℕ) → f k < n) → All (λ to. to < n) (targets_of (with_places f insn))
targets_fit f n (insns.Jump op to) fits = All-cons (λ t. t < n) (f to) [] (fits to) (All-nil (λ t. t < n))
targets_fit f n (insns.Table low default arms) fits = All-cons (λ t. t < n) (f default) (map f arms) (fits default)
    (All-map (λ t. t < n) f arms (all_of (λ k. f k < n) arms fits))
targets_fit f n (insns.Lookup default arms) fits =
    All-cons (λ t. t < n) (f default) (map (λ (a : Arm). a.to) (map (arm_with_place f) arms)) (fits default)
    (All-map (λ t. t < n) (λ (a : Arm). a.to) (map (arm_with_place f) arms)
    (All-map (λ (a : Arm). a.to < n) (arm_with_place f) arms (all_of (λ a. f a.to < n) arms (λ a. fits a.to))))
targets_fit f n insn fits = All-nil (λ t. t < n)

map_both : (f g h : ℕ → ℕ) (xs : List ℕ) → All (λ x. g (f x) ≡ h x) xs → map g (map f xs) ≡ map h xs
map_both f g h [] all = refl
map_both f g h (x ∷ xs) all = λ i. all 0 x (omega arith) i ∷ map_both f g h xs (All-tail (λ x. g (f x) ≡ h x) x xs all) i

arms_both : (f g h : ℕ → ℕ) (xs : List Arm) → All (λ x. g (f x) ≡ h x) (map (λ (a : Arm). a.to) xs)
    → map (arm_with_place g) (map (arm_with_place f) xs) ≡ map (arm_with_place h) xs
arms_both f g h [] all = refl
arms_both f g h (x ∷ xs) all = λ i. record { key = x.key; to = all 0 x.to (omega arith) i } ∷ arms_both f g h xs
    (All-tail (λ x. g (f x) ≡ h x) x.to (map (λ (a : Arm). a.to) xs) all) i

-- places that are replaced twice
pub places_both : (f g h : ℕ → ℕ) (insn : Insn) → All (λ to. g (f to) ≡ h to) (targets_of insn) → with_places g (with_places f insn) ≡ with_places h insn
places_both f g h (insns.Jump op to) all = ap (insns.Jump op) (all 0 to (omega arith))
places_both f g h (insns.Table low default arms) all = λ i. insns.Table low (all 0 default (omega arith) i)
    (map_both f g h arms (All-tail (λ x. g (f x) ≡ h x) default arms all) i)
places_both f g h (insns.Lookup default arms) all = λ i. insns.Lookup (all 0 default (omega arith) i)
    (arms_both f g h arms (All-tail (λ x. g (f x) ≡ h x) default (map (λ (a : Arm). a.to) arms) all) i)
places_both f g h insn all = refl
