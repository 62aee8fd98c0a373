-- Hits of a run plan, and lists of bits that tell them.
use Rattle.std.proofs.Common.{◌≡◌, ◌⊎◌, inl, inr, ◌↔◌, ℕ, zero, suc, ◌+◌, ◌<◌, ◌≤◌, Bool, true, false, List, [], ◌∷◌, map, Some, Contains, refl, sym, ◌∙◌, ap, arith}
use Rattle.std.specs.Prelude.{slice_get, slice_index_or, IsTrue}
use Rattle.std.specs.List.{range_with_len}
use Rattle.std.proofs.lemmas.Bool.{cases_lt}
use Rattle.std.proofs.lemmas.Option.{none-some, same_Some}
use Rattle.jc_bytes.proofs.BooleanLaws.{which_in, none_in}
use Rattle.jc_bytes.proofs.ListLaws.{flat_in, flat_cases}
use Rattle.jc_programs.specs.declared.program.Program.{Program}
use Rattle.jc_programs.specs.declared.program.Linked.{Linked}
use Rattle.jc_programs.specs.declared.program.ProbeInit.{ProbeInit}
use Rattle.jc_programs.specs.declared.run_plan.RunPlan.{RunPlan}
use Rattle.jc_cover.specs.Covered.{is_hit}
use Rattle.jc_twin_exact.specs.Exact.{TellHits}
use Rattle.jc_machine_model.specs.Run.{IsHit, case_hits, hits_of}
use Rattle.jc_machine_model.specs.World.{Hit}
use Rattle.jc_command_run.specs.RunStore.{is_hit_in}
use Rattle.jc_command_run.proofs.HitLaws.{probe, in_list, from_list}
use Rattle.jc_headline.specs.Headline.{bits_with, bits_from, bits_of}

-- ---- a hit in a list

pub hit_there : (p : Program) (plan : RunPlan) (class id : ℕ) → IsTrue (is_hit_in (hits_of p plan) class id) ↔ IsHit p plan (probe class id)
hit_there p plan class id = (
  λ e. flat_cases (case_hits p) plan.cases (probe class id) (in_list (hits_of p plan) class id e),
  λ h. from_list (hits_of p plan) class id (flat_in (case_hits p) plan.cases h.0 (probe class id) h.1 h.2),
)

-- ---- numbers in a range

pub range_at : {X : Type 0} (f : ℕ → X) (a n i : ℕ) (d : X) → i < n → slice_index_or (map f (range_with_len a n)) i d ≡ f (a + i)
range_at f a zero i d less = absurd (omega (arith, less))
range_at f a (suc n) zero d less = let e : a ≡ a + 0 = omega arith in ap f e
range_at f a (suc n) (suc i) d less =
    let e : (a + 1) + i ≡ a + suc i = omega arith in
    range_at f (a + 1) n i d (omega (arith, less)) ∙ ap f e

pub first_range_at : {X : Type 0} (f : ℕ → X) (n i : ℕ) (d : X) → i < n → slice_index_or (map f (range_with_len 0 n)) i d ≡ f i
first_range_at f n i d less = let e : 0 + i ≡ i = omega arith in range_at f 0 n i d less ∙ ap f e

pub range_behind : {X : Type 0} (f : ℕ → X) (a n i : ℕ) (d : X) → n ≤ i → slice_index_or (map f (range_with_len a n)) i d ≡ d
range_behind f a zero i d more = refl
range_behind f a (suc n) zero d more = absurd (omega (arith, more))
range_behind f a (suc n) (suc i) d more = range_behind f (a + 1) n i d (omega (arith, more))

-- ---- bits for all classes and ids that were hit

class_bound : List Hit → ℕ
class_bound [] = 0
class_bound (h ∷ hits) = (h.class + 1) + class_bound hits

id_bound : List Hit → ℕ
id_bound [] = 0
id_bound (h ∷ hits) = (h.id + 1) + id_bound hits

bounded : (hits : List Hit) (class id : ℕ) → Contains hits (probe class id) → (class < class_bound hits) × (id < id_bound hits)
unfolding class_bound id_bound
bounded [] class id there = absurd (none_in (probe class id) there)
bounded (h ∷ hits) class id there = by (which_in h hits (probe class id) there) (bounded hits class id)
  where
    by : (h ≡ probe class id) ⊎ Contains hits (probe class id) → (Contains hits (probe class id) → (class < class_bound hits) × (id < id_bound hits))
        → (class < (h.class + 1) + class_bound hits) × (id < (h.id + 1) + id_bound hits)
    by (inl same) later =
        let c : h.class ≡ class = ap (λ (x : Hit). x.class) same in
        let i : h.id ≡ id = ap (λ (x : Hit). x.id) same in
        (omega (arith, c), omega (arith, i))
    by (inr behind) later = let more = later behind in (omega (arith, more.0), omega (arith, more.1))

abbrev pub bits_in : List Hit → ℕ → ℕ → List Bool
bits_in hits n class = map (is_hit_in hits class) (range_with_len 0 n)

pub all_bits : List Hit → List (List Bool)
all_bits hits = map (bits_in hits (id_bound hits)) (range_with_len 0 (class_bound hits))

-- no bit where nothing was hit
no_bit : (hits : List Hit) (class id : ℕ) → (Contains hits (probe class id) → ⊥) → is_hit_in hits class id ≡ false
no_bit hits class id none = by (is_hit_in hits class id) refl
  where
    by : (t : Bool) → is_hit_in hits class id ≡ t → t ≡ false
    by true e = absurd (none (in_list hits class id e))
    by false e = refl

pub bit_at : (hits : List Hit) (class id : ℕ) → is_hit (slice_index_or (all_bits hits) class []) id ≡ is_hit_in hits class id
unfolding all_bits id_bound class_bound
bit_at hits class id = by (cases_lt class (class_bound hits))
  where
    in_row : (id < id_bound hits) ⊎ (id_bound hits ≤ id) → is_hit (bits_in hits (id_bound hits) class) id ≡ is_hit_in hits class id
    in_row (inl less) = first_range_at (is_hit_in hits class) (id_bound hits) id false less
    in_row (inr more) =
        range_behind (is_hit_in hits class) 0 (id_bound hits) id false more
        ∙ sym (no_bit hits class id (λ there. let b = (bounded hits class id there).1 in omega (arith, b, more)))

    by : (class < class_bound hits) ⊎ (class_bound hits ≤ class)
        → is_hit (slice_index_or (map (bits_in hits (id_bound hits)) (range_with_len 0 (class_bound hits))) class []) id ≡ is_hit_in hits class id
    by (inl less) =
        ap (λ (l : List Bool). is_hit l id) (first_range_at (bits_in hits (id_bound hits)) (class_bound hits) class [] less)
        ∙ in_row (cases_lt id (id_bound hits))
    by (inr more) =
        ap (λ (l : List Bool). is_hit l id) (range_behind (bits_in hits (id_bound hits)) 0 (class_bound hits) class [] more)
        ∙ sym (no_bit hits class id (λ there. let b = (bounded hits class id there).0 in omega (arith, b, more)))

pub bits_tell : (p : Program) (plan : RunPlan) → TellHits (IsHit p plan) (all_bits (hits_of p plan))
bits_tell p plan class id = (
  λ e. (hit_there p plan class id).0 (sym (bit_at (hits_of p plan) class id) ∙ e),
  λ h. bit_at (hits_of p plan) class id ∙ (hit_there p plan class id).1 h,
)

-- ---- the bits of a class's record

pub record_bits : (hits : List Hit) (k : ℕ) (classes : List Linked) (i : ℕ) (n : Linked) (init : ProbeInit) → slice_get classes i ≡ Some n → n.probes ≡ Some init
    → slice_index_or (bits_from hits k classes) i [] ≡ bits_in hits init.count (k + i)
record_bits hits k [] i n init at probes = absurd (none-some n at)
record_bits hits k (m ∷ classes) zero n init at probes =
    let e : k ≡ k + 0 = omega arith in
    ap (bits_with hits k m) (ap (λ (x : Linked). x.probes) (same_Some m n at) ∙ probes) ∙ ap (bits_in hits init.count) e
record_bits hits k (m ∷ classes) (suc i) n init at probes =
    let e : (k + 1) + i ≡ k + suc i = omega arith in
    record_bits hits (k + 1) classes i n init at probes ∙ ap (bits_in hits init.count) e

pub class_bits : (p : Program) (plan : RunPlan) (class : ℕ) (n : Linked) (init : ProbeInit) → slice_get p.classes class ≡ Some n → n.probes ≡ Some init
    → slice_index_or (bits_of p plan) class [] ≡ bits_in (hits_of p plan) init.count class
class_bits p plan class n init at probes =
    let e : 0 + class ≡ class = omega arith in
    record_bits (hits_of p plan) 0 p.classes class n init at probes ∙ ap (bits_in (hits_of p plan) init.count) e

-- each bit of the record says whether some case passed the probe
pub record_tells : (p : Program) (plan : RunPlan) (class id : ℕ) (n : Linked) (init : ProbeInit) → slice_get p.classes class ≡ Some n → n.probes ≡ Some init → id < init.count
    → IsTrue (is_hit (slice_index_or (bits_of p plan) class []) id) ↔ IsHit p plan (probe class id)
record_tells p plan class id n init at probes less = (
  λ e. (hit_there p plan class id).0 (sym same ∙ e),
  λ h. same ∙ (hit_there p plan class id).1 h,
)
  where
    same : is_hit (slice_index_or (bits_of p plan) class []) id ≡ is_hit_in (hits_of p plan) class id
    same =
        ap (λ (l : List Bool). is_hit l id) (class_bits p plan class n init at probes)
        ∙ first_range_at (is_hit_in (hits_of p plan) class) init.count id false less
