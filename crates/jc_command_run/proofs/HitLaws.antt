-- The execution data of hits that are kept as truth values is that of the hits of a run plan's cases.
use Rattle.std.proofs.Common.{◌≡◌, ◌⊎◌, inl, inr, ◌↔◌, ℕ, suc, ◌+◌, ◌<◌, Bool, true, false, ◌||◌, ◌&&◌, nat_eq, List, [], ◌∷◌, map, length, get_or, Option, None, Some, Contains, refl, sym, ◌∙◌, ap, subst, arith}
use Rattle.std.specs.List.{range_with_len, filter, flat_map}
use Rattle.std.proofs.lemmas.Bool.{and_parts, and_from, or_cases, or_left, or_right, eqb-true, eq-eqb}
use Rattle.std.proofs.lemmas.List.{ext_get_or, get_or-map, length-map}
use Rattle.std.proofs.lemmas.List.FromFn.{get_or-map-range_with_len, length-map-range_with_len}
use Rattle.jc_bytes.proofs.BooleanLaws.{first_in, later_in, which_in, none_in, same_tests}
use Rattle.jc_bytes.proofs.ListLaws.{flat_in, flat_cases}
use Rattle.jc_exec.specs.declared.hits.ClassHits.{ClassHits}
use Rattle.jc_exec.specs.Store.{Store}
use Rattle.jc_exec.specs.Writing.{is_hit}
use Rattle.jc_programs.specs.declared.program.Program.{Program}
use Rattle.jc_programs.specs.declared.program.Linked.{Linked}
use Rattle.jc_programs.specs.declared.program.ProbeInit.{ProbeInit}
use Rattle.jc_programs.specs.declared.run_plan.Case.{Case}
use Rattle.jc_programs.specs.declared.run_plan.RunPlan.{RunPlan}
use Rattle.jc_programs.specs.Probes.{counts_of, IsHit}
use Rattle.jc_machine.specs.Hits.{count_in, probe_counts}
use Rattle.jc_machine_model.specs.World.{Hit}
use Rattle.jc_command_run.specs.RunStore.{is_hit_in, hit_record, with_record, hit_records, store_of}
use Rattle.jc_command_run.specs.HitStore.{set_record, with_set, set_records, count_of, counts_in}

-- ---- a hit in a list

abbrev pub probe : (class id : ℕ) → Hit
probe class id = record { class = class; id = id }

abbrev is_that : (class id : ℕ) → Hit → Bool
is_that class id h = nat_eq h.class class && nat_eq h.id id

pub that_is : (class id : ℕ) (h : Hit) → is_that class id h ≡ true → h ≡ probe class id
that_is class id h e =
    let both = and_parts (nat_eq h.class class) (nat_eq h.id id) e in
    λ i. record { class = eqb-true h.class class both.0 i; id = eqb-true h.id id both.1 i }

pub in_list : (hits : List Hit) (class id : ℕ) → is_hit_in hits class id ≡ true → Contains hits (probe class id)
in_list [] class id e = absurd (not_true e)
  where
    not_true : false ≡ true → ⊥
    not_true e = cc
in_list (h ∷ hits) class id e = by (or_cases (is_that class id h) (is_hit_in hits class id) e) (in_list hits class id)
  where
    by : (is_that class id h ≡ true) ⊎ (is_hit_in hits class id ≡ true) → (is_hit_in hits class id ≡ true → Contains hits (probe class id)) → Contains (h ∷ hits) (probe class id)
    by (inl is) later = subst (Contains (h ∷ hits)) (that_is class id h is) (first_in h hits)
    by (inr behind) later = later_in h hits (probe class id) (later behind)

pub from_list : (hits : List Hit) (class id : ℕ) → Contains hits (probe class id) → is_hit_in hits class id ≡ true
from_list [] class id there = absurd (none_in (probe class id) there)
from_list (h ∷ hits) class id there = by (which_in h hits (probe class id) there) (from_list hits class id)
  where
    by : (h ≡ probe class id) ⊎ Contains hits (probe class id) → (Contains hits (probe class id) → is_hit_in hits class id ≡ true) → (is_that class id h || is_hit_in hits class id) ≡ true
    by (inl same) later =
        or_left (is_that class id h) (is_hit_in hits class id)
        (and_from (nat_eq h.class class) (nat_eq h.id id) (eq-eqb h.class class (ap (λ (x : Hit). x.class) same)) (eq-eqb h.id id (ap (λ (x : Hit). x.id) same)))
    by (inr behind) later = or_right (is_that class id h) (is_hit_in hits class id) (later behind)

-- ---- truth values

same_count : (o : Option ProbeInit) → count_in o ≡ count_of o
same_count None = refl
same_count (Some init) = refl

-- the numbers of probes, as hits are counted and as records are
pub same_counts : (p : Program) → probe_counts p ≡ counts_in p.classes
same_counts p = ap (λ (f : Option ProbeInit → ℕ). map (λ (c : Linked). f c.probes) p.classes) (λ i o. same_count o i)

-- some case of the run plan hits the probe, where these are the hits of each case
abbrev pub IsHitIn : (Case → List Hit) → RunPlan → Hit → Type 0
IsHitIn of_case plan hit = (case : Case) × Contains plan.cases case × Contains (of_case case) hit

module _ (p : Program) (of_case : Case → List Hit) (plan : RunPlan) (hits : List (List Bool)) (are : (class id : ℕ) → IsHit hits class id ↔ IsHitIn of_case plan (probe class id)) where
  abbrev all : List Hit
  all = flat_map of_case plan.cases

  same_bit : (class id : ℕ) → get_or (get_or hits class []) id false ≡ is_hit_in all class id
  same_bit class id =
      same_tests (get_or (get_or hits class []) id false) (is_hit_in all class id)
      (λ set. let hit = (are class id).0 set in from_list all class id (flat_in of_case plan.cases hit.0 (probe class id) hit.1 hit.2))
      (λ told. (are class id).1 (flat_cases of_case plan.cases (probe class id) (in_list all class id told)))

  -- the truth values of a class with so many probes
  same_bits : (class count : ℕ) → length (get_or hits class []) ≡ count → get_or hits class [] ≡ map (is_hit_in all class) (range_with_len 0 count)
  same_bits class count size =
      let many = length-map-range_with_len (is_hit_in all class) 0 count in
      ext_get_or false (get_or hits class []) (map (is_hit_in all class) (range_with_len 0 count)) (size ∙ sym many)
      (λ id less. same_bit class id ∙ sym (get_or-map-range_with_len (is_hit_in all class) 0 count id id false (omega (arith, less, size)) (omega arith)))

  same_record : (class : ℕ) (c : Linked) (init : ProbeInit) → length (get_or hits class []) ≡ init.count → set_record hits class c init ≡ hit_record all class c init
  same_record class c init size = ap (λ (bits : List Bool). let r : ClassHits = record { id = init.id; name = c.name; bits = bits } in r) (same_bits class init.count size)

  -- each class from this number on has as many truth values as probes
  abbrev Counted : ℕ → List Linked → Type 0
  Counted class classes = (k : ℕ) → k < length classes → length (get_or hits (class + k) []) ≡ get_or (counts_in classes) k 0

  same_records : (class : ℕ) (classes : List Linked) → Counted class classes → set_records hits class classes ≡ hit_records all class classes
  same_records class [] counted = refl
  same_records class (c ∷ classes) counted =
      ap (with_set hits class c c.probes) (same_records (class + 1) classes rest) ∙ by c.probes refl
    where
      rest : Counted (class + 1) classes
      rest k less = ap (λ (n : ℕ). length (get_or hits n [])) (let n : class + 1 + k ≡ class + suc k = omega arith in n) ∙ counted (suc k) (omega (arith, less))

      here : length (get_or hits class []) ≡ count_of c.probes
      here = ap (λ (n : ℕ). length (get_or hits n [])) (let n : class ≡ class + 0 = omega arith in n) ∙ counted 0 (omega arith)

      by : (o : Option ProbeInit) → c.probes ≡ o → with_set hits class c o (hit_records all (class + 1) classes) ≡ with_record all class c o (hit_records all (class + 1) classes)
      by None is = refl
      by (Some init) is = ap (λ (r : ClassHits). r ∷ hit_records all (class + 1) classes) (same_record class c init (here ∙ ap count_of is))

  -- the records are those of the hits of all cases
  pub same_store : counts_of hits ≡ probe_counts p → (let s : Store = record { sessions = []; classes = filter is_hit (set_records hits 0 p.classes) } in s) ≡ store_of p all
  same_store counts = ap (λ (classes : List ClassHits). let s : Store = record { sessions = []; classes = filter is_hit classes } in s) (same_records 0 p.classes counted)
    where
      sizes : map length hits ≡ counts_in p.classes
      sizes = counts ∙ same_counts p

      many : length hits ≡ length p.classes
      many = sym (length-map hits length) ∙ ap length sizes ∙ length-map p.classes (λ (c : Linked). count_of c.probes)

      counted : Counted 0 p.classes
      counted k less =
          ap (λ (n : ℕ). length (get_or hits n [])) (let n : 0 + k ≡ k = omega arith in n)
          ∙ sym (get_or-map length hits k [] 0 (omega (arith, many, less))) ∙ ap (λ (ns : List ℕ). get_or ns k 0) sizes
