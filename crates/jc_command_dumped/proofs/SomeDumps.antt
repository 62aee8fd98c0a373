-- There are dumps of each run plan: each has the hits of the cases since the one in front of it.
use Rattle.std.proofs.Common.{◌≡◌, ◌⊎◌, inl, inr, ◌↔◌, ℕ, zero, suc, ◌+◌, ◌-◌, ◌*◌, ◌/◌, ◌%◌, ◌<◌, ◌≤◌, Bool, true, false, List, [], ◌∷◌, ◌++◌, map, length, get_or, slice_index_or, Contains, refl, sym, ◌∙◌, ap, ap₂, subst, arith}
use Rattle.std.specs.List.{range_with_len}
use Rattle.std.proofs.lemmas.Bool.{cases_lt}
use Rattle.std.proofs.lemmas.List.{get_or_past}
use Rattle.std.proofs.lemmas.List.Elements.{Contains-append_left, Contains-append_right, Contains-append_cases}
use Rattle.std.proofs.lemmas.List.FromFn.{get_or-map-range_with_len, length-map-range_with_len}
use Rattle.std.proofs.lemmas.Nat.{div-add-mod', le-div, mod_below, mul-le, row_fits}
use Rattle.jc_bytes.proofs.BooleanLaws.{first_in, later_in, which_in, none_in}
use Rattle.jc_bytes.proofs.ListLaws.{each_in}
use Rattle.jc_programs.specs.declared.program.Program.{Program}
use Rattle.jc_programs.specs.declared.run_plan.Case.{Case}
use Rattle.jc_programs.specs.declared.run_plan.RunPlan.{RunPlan}
use Rattle.jc_programs.specs.declared.run_end.Entry.{Entry}
use Rattle.jc_programs.specs.Entries.{AreEntries}
use Rattle.jc_programs.specs.Probes.{counts_of, InRange, IsHit}
use Rattle.jc_programs.specs.Turns.{turns_in}
use Rattle.jc_machine.specs.Hits.{probe_counts}
use Rattle.jc_machine.proofs.ProbeLaws.{probe_within}
use Rattle.jc_machine_model.specs.Fits.{IsProbe}
use Rattle.jc_machine_model.specs.Programs.{IsProgram}
use Rattle.jc_machine_model.specs.Run.{case_hits, IsHit as IsHitBy}
use Rattle.jc_machine_model.specs.World.{Hit}
use Rattle.jc_machine_laws.proofs.WorldLaws.{run_fits}
use Rattle.jc_workers.specs.Cases.{case_at, HaveEntries, HitBy, no_case}
use Rattle.jc_command_run.specs.RunStore.{is_hit_in}
use Rattle.jc_command_run.proofs.HitLaws.{probe, in_list, from_list}
use Rattle.jc_dump.specs.Dumps.{dump_at, AnyDumpHas, AnyHits, AreDumps, AreInOrder}
use Rattle.jc_command_dumped.specs.DumpedAnswers.{IsTaken, Taken}

-- ---- truth values of hits

abbrev set_from : List Hit → (class : ℕ) → List ℕ → List (List Bool)
set_from hits class [] = []
set_from hits class (n ∷ counts) = map (is_hit_in hits class) (range_with_len 0 n) ∷ set_from hits (class + 1) counts

set_counts : (hits : List Hit) (class : ℕ) (counts : List ℕ) → counts_of (set_from hits class counts) ≡ counts
set_counts hits class [] = refl
set_counts hits class (n ∷ counts) =
    ap₂ (λ (m : ℕ) (ms : List ℕ). m ∷ ms) (length-map-range_with_len (is_hit_in hits class) 0 n) (set_counts hits (class + 1) counts)

not_set : {A : Type 0} → false ≡ true → A
not_set e = cc

at_class : (hits : List Hit) (a b id : ℕ) → a ≡ b → Contains hits (probe a id) → Contains hits (probe b id)
at_class hits a b id same = subst (λ (class : ℕ). Contains hits (probe class id)) same

set_in : (hits : List Hit) (class : ℕ) (counts : List ℕ) (k id : ℕ) → IsHit (set_from hits class counts) k id → Contains hits (probe (class + k) id)
set_in hits class [] k id set = not_set set
set_in hits class (n ∷ counts) zero id set = by (cases_lt id n)
  where
    by : (id < n) ⊎ (n ≤ id) → Contains hits (probe (class + 0) id)
    by (inl less) =
        at_class hits class (class + 0) id (omega arith)
        (in_list hits class id (sym (get_or-map-range_with_len (is_hit_in hits class) 0 n id id false less (omega arith)) ∙ set))
    by (inr past) =
        let many = length-map-range_with_len (is_hit_in hits class) 0 n in
        not_set (sym (get_or_past (map (is_hit_in hits class) (range_with_len 0 n)) id false (omega (arith, many, past))) ∙ set)
set_in hits class (n ∷ counts) (suc k) id set = at_class hits (class + 1 + k) (class + suc k) id (omega arith) (set_in hits (class + 1) counts k id set)

in_set : (hits : List Hit) (class : ℕ) (counts : List ℕ) (k id : ℕ) → InRange counts k id → Contains hits (probe (class + k) id)
    → IsHit (set_from hits class counts) k id
in_set hits class [] k id range there = let less = range.0 in absurd (omega (arith, less))
in_set hits class (n ∷ counts) zero id range there =
    get_or-map-range_with_len (is_hit_in hits class) 0 n id id false range.1 (omega arith) ∙ from_list hits class id
    (at_class hits (class + 0) class id (omega arith) there)
in_set hits class (n ∷ counts) (suc k) id range there =
    in_set hits (class + 1) counts k id ((let less = range.0 in omega (arith, less)), range.1)
    (at_class hits (class + suc k) (class + 1 + k) id (omega arith) there)

-- ---- cases by their numbers

at_in : (cases : List Case) (k : ℕ) → k < length cases → Contains cases (slice_index_or cases k no_case)
at_in [] k less = absurd (omega (arith, less))
at_in (c ∷ cases) zero less = first_in c cases
at_in (c ∷ cases) (suc k) less = later_in c cases _ (at_in cases k (omega (arith, less)))

in_at : (cases : List Case) (case : Case) → Contains cases case → (k : ℕ) × (k < length cases) × (slice_index_or cases k no_case ≡ case)
in_at [] case there = absurd (none_in case there)
in_at (c ∷ cases) case there = by (which_in c cases case there) (in_at cases case)
  where
    by : (c ≡ case) ⊎ Contains cases case → (Contains cases case → (k : ℕ) × (k < length cases) × (slice_index_or cases k no_case ≡ case))
        → (k : ℕ) × (k < length (c ∷ cases)) × (slice_index_or (c ∷ cases) k no_case ≡ case)
    by (inl same) later = (0, omega arith, same)
    by (inr behind) later = let found = later behind in (suc found.0, (let less = found.1 in omega (arith, less)), found.2)

module _ (program : Program) where
  entries_at : (cases : List Case) → ((case : Case) → Contains cases case → (entries : List Entry) × AreEntries program case.threads entries)
      → (k : ℕ) → (entries : List Entry) × AreEntries program (slice_index_or cases k no_case).threads entries
  entries_at [] have k = ([], tt)
  entries_at (c ∷ cases) have zero = have c (first_in c cases)
  entries_at (c ∷ cases) have (suc k) = entries_at cases (λ case there. have case (later_in c cases case there)) k

module _ (program : Program) (plan : RunPlan) (every : ℕ) (some : 0 < every) (is : IsProgram program) (have : HaveEntries program plan) where
  in_range : (k class id : ℕ) → HitBy program plan k class id → InRange (probe_counts program) class id
  in_range k class id hit =
      let case = case_at plan k in
      let entries = entries_at program plan.cases have k in
      let fits = run_fits program case entries.0 (turns_in case) is entries.1 in
      probe_within program (probe class id) (each_in (IsProbe program) (case_hits program case) (probe class id) fits.1 hit)

  -- ---- the hits of cases, one after the other

  abbrev hits_from : (first count : ℕ) → List Hit
  hits_from first zero = []
  hits_from first (suc n) = hits_from first n ++ case_hits program (case_at plan (first + n))

  abbrev IsAmong : (first n class id : ℕ) → Type 0
  IsAmong first n class id = Contains (hits_from first n) (probe class id)

  any_in : (first n class id : ℕ) → AnyHits program plan first (first + n) class id → Contains (hits_from first n) (probe class id)
  any_in first zero class id (k, from, below, hit) = absurd (omega (arith, from, below))
  any_in first (suc n) class id (k, from, below, hit) = by (cases_lt k (first + n)) (λ less. any_in first n class id (k, from, less, hit))
    where
      by : (k < first + n) ⊎ (first + n ≤ k) → (k < first + n → Contains (hits_from first n) (probe class id))
          → Contains (hits_from first (suc n)) (probe class id)
      by (inl less) earlier = Contains-append_left (hits_from first n) (case_hits program (case_at plan (first + n))) (probe class id) (earlier less)
      by (inr more) earlier =
          let last : k ≡ first + n = omega (arith, below, more) in
          Contains-append_right (hits_from first n) (case_hits program (case_at plan (first + n))) (probe class id)
          (subst (λ (j : ℕ). HitBy program plan j class id) last hit)

  in_any : (first n class id : ℕ) → Contains (hits_from first n) (probe class id) → AnyHits program plan first (first + n) class id
  in_any first zero class id there = absurd (none_in (probe class id) there)
  in_any first (suc n) class id there =
      by (Contains-append_cases (hits_from first n) (case_hits program (case_at plan (first + n))) (probe class id) there) (in_any first n class id)
    where
      by : IsAmong first n class id ⊎ HitBy program plan (first + n) class id
          → (IsAmong first n class id → AnyHits program plan first (first + n) class id)
          → AnyHits program plan first (first + suc n) class id
      by (inl before) earlier = let any = earlier before in (any.0, any.1, (let less = any.2 in omega (arith, less)), any.3)
      by (inr hit) earlier = (first + n, omega arith, omega arith, hit)

  abbrev set_of : (first n : ℕ) → List (List Bool)
  set_of first n = set_from (hits_from first n) 0 (probe_counts program)

  set_any : (first n class id : ℕ) → IsHit (set_of first n) class id ↔ AnyHits program plan first (first + n) class id
  set_any first n class id = (
    λ set. in_any first n class id
        (at_class (hits_from first n) (0 + class) class id (omega arith) (set_in (hits_from first n) 0 (probe_counts program) class id set)),
    λ any. in_set (hits_from first n) 0 (probe_counts program) class id (in_range any.0 class id any.3)
        (at_class (hits_from first n) class (0 + class) id (omega arith) (any_in first n class id any)),
  )

  -- ---- dumps

  abbrev many : ℕ
  many = length plan.cases

  -- so many cases are in front of the rest
  abbrev count : ℕ
  count = many / every

  abbrev behind : ℕ
  behind = count * every

  abbrev dump : ℕ → List (List Bool)
  dump d = set_of (d * every) every

  abbrev dumps : List (List (List Bool))
  dumps = map dump (range_with_len 0 count)

  abbrev rest : List (List Bool)
  rest = set_of behind (many - behind)

  len : length dumps ≡ count
  len = length-map-range_with_len dump 0 count

  within : behind ≤ many
  within = omega (arith, div-add-mod' many every)

  dump_is : (d : ℕ) → d < length dumps → dump_at dumps d ≡ dump d
  dump_is d less = get_or-map-range_with_len dump 0 count d d [] (omega (arith, less, len)) (omega arith)

  each : (d : ℕ) → d < length dumps → (class id : ℕ) → IsHit (dump_at dumps d) class id ↔ AnyHits program plan (d * every) (d * every + every) class id
  each d less class id =
      subst (λ (hits : List (List Bool)). IsHit hits class id ↔ AnyHits program plan (d * every) (d * every + every) class id) (sym (dump_is d less))
      (set_any (d * every) every class id)

  rest_is : (class id : ℕ) → IsHit rest class id ↔ AnyHits program plan behind many class id
  rest_is class id =
      let end : behind + (many - behind) ≡ many = omega (arith, within) in
      subst (λ (n : ℕ). IsHit rest class id ↔ AnyHits program plan behind n class id) end (set_any behind (many - behind) class id)

  last : (class id : ℕ) → IsHit rest class id ↔ AnyHits program plan (length dumps * every) many class id
  last class id = subst (λ (n : ℕ). IsHit rest class id ↔ AnyHits program plan (n * every) many class id) (sym len) (rest_is class id)

  in_dump : (k : ℕ) → k / every < count → (class id : ℕ) → HitBy program plan k class id → AnyDumpHas dumps class id
  in_dump k less class id hit =
      let here : k / every < length dumps = omega (arith, less, len) in (
        k / every,
        here,
        (each (k / every) here class id).1 (k, omega (arith, div-add-mod' k every), omega (arith, div-add-mod' k every, mod_below k every some), hit),
      )

  of_case : (k : ℕ) → k < many → (class id : ℕ) → HitBy program plan k class id → AnyDumpHas dumps class id ⊎ IsHit rest class id
  of_case k less class id hit = by (cases_lt (k / every) count)
    where
      by : (k / every < count) ⊎ (count ≤ k / every) → AnyDumpHas dumps class id ⊎ IsHit rest class id
      by (inl below) = inl (in_dump k below class id hit)
      by (inr past) =
          let from : behind ≤ k = omega (arith, mul-le count every (k / every) every past (omega arith), div-add-mod' k every) in
          inr ((rest_is class id).1 (k, from, less, hit))

  is_hit_by : (k class id : ℕ) → k < many → HitBy program plan k class id → IsHitBy program plan (probe class id)
  is_hit_by k class id less hit = (case_at plan k, at_in plan.cases k less, hit)

  all : (class id : ℕ) → IsHitBy program plan (probe class id) ↔ (AnyDumpHas dumps class id ⊎ IsHit rest class id)
  all class id = (to, from)
    where
      to : IsHitBy program plan (probe class id) → AnyDumpHas dumps class id ⊎ IsHit rest class id
      to (case, there, hit) =
          let at = in_at plan.cases case there in
          of_case at.0 at.1 class id (subst (λ (c : Case). Contains (case_hits program c) (probe class id)) (sym at.2) hit)

      from : AnyDumpHas dumps class id ⊎ IsHit rest class id → IsHitBy program plan (probe class id)
      from (inl (d, less, set)) =
          let any = (each d less class id).0 set in
          let group : d * every + every ≤ behind = row_fits d every count every (omega (arith, less, len)) (omega arith) in
          let below = any.2 in
          is_hit_by any.0 class id (omega (arith, below, group, within)) any.3
      from (inr set) = let any = (rest_is class id).0 set in is_hit_by any.0 class id any.2 any.3

  due : (k : ℕ) → k < many → (k + 1) % every ≡ 0 → (class id : ℕ) → HitBy program plan k class id → AnyDumpHas dumps class id
  due k less multiple class id hit = in_dump k (before (cases_lt (k / every) next)) class id hit
    where
      next : ℕ
      next = (k + 1) / every

      whole : next * every ≡ k + 1
      whole = omega (arith, div-add-mod' (k + 1) every, multiple)

      before : (k / every < next) ⊎ (next ≤ k / every) → k / every < count
      before (inl below) = omega (arith, below, le-div next many every some (omega (arith, whole, less)))
      before (inr past) = absurd (omega (arith, mul-le next every (k / every) every past (omega arith), whole, div-add-mod' k every))

  dump_counts : (d : ℕ) → d < length dumps → counts_of (dump_at dumps d) ≡ probe_counts program
  dump_counts d less = ap counts_of (dump_is d less) ∙ set_counts (hits_from (d * every) every) 0 (probe_counts program)

  pub some_dumps : (workers : ℕ) → (taken : Taken) × IsTaken program plan every workers taken
  some_dumps workers = (
    record { dumps = dumps; rest = rest },
    record {
      dumps = record {
        count = len;
        dump_counts = dump_counts;
        rest_counts = set_counts (hits_from behind (many - behind)) 0 (probe_counts program);
        all = all;
        due = due;
      };
      in_order = λ one. record { each = each; last = last };
    },
  )
