-- The branches of a body with their probes, and marking by them.
use Rattle.std.proofs.Common.{◌≡◌, ℕ, suc, zero, ◌+◌, ◌<◌, Bool, true, false, ◌&&◌, ◌||◌, List, [], ◌∷◌, ◌++◌, map, length, get_or, replicate}
use Rattle.std.proofs.Common.{Option, Some, None, refl, sym, ap, ap₂, ◌∙◌, subst, arith, zero-add}
use Rattle.std.specs.Prelude.{All, Contains, slice_get}
use Rattle.std.specs.List.{list_any, AllByRecursion}
use Rattle.std.proofs.lemmas.Option.{slice_get_within, get_or_from_slice_get}
use Rattle.std.proofs.lemmas.List.{length-set, length-replicate}
use Rattle.std.proofs.lemmas.List.Elements.{All-from_recursion, recursion_from_All}
use Rattle.jc_bytes.specs.PlainLists.{map_from, join_from}
use Rattle.jc_methods.specs.Flow.{flow_of, targets_of}
use Rattle.jc_methods.specs.InsnUse.{LeadsWithin}
use Rattle.jc_methods.specs.WellMade.{IsCode}
use Rattle.jc_methods.specs.declared.insn.Insn.{Insn}
use Rattle.jc_methods.specs.declared.body.Body.{Body}
use Rattle.jc_plan.specs.declared.branch.Branch.{Branch}
use Rattle.jc_plan.specs.declared.branch.Way.{Way}
use Rattle.jc_plan.specs.declared.branch.Way.TheVariants.{Falls, Jumps, Switches, Exits}
use Rattle.jc_plan.specs.Edges.{place_of, branches_of, branches}
use Rattle.jc_plan.specs.InsnFacts.{EntersWithin}
use Rattle.jc_plan.specs.Plan.{plan_of}
use Rattle.jc_plan.specs.Probed.{is_probed, id_of, id_if}
use Rattle.jc_plan.proofs.FlowLaws.{IsAt, all_at, all_within}
use Rattle.jc_plan.proofs.MappedLaws.{length_made}
use Rattle.jc_plan.proofs.OneWayLaws.{standing, IsOf, a_sequence, a_jump, an_arm, an_exit}
use Rattle.jc_plan.proofs.ByBranchLaws.{each_planned, goes_within}
use Rattle.jc_cover.specs.Covered.{is_hit}
use Rattle.jc_cover.specs.Marking.{with_source, with_edge, with_edges, sources, has_hit, is_hit_at, mark_if, mark_back, mark_each, marks_of, covers, covers_by, insn_values, body_values}
use Rattle.jc_cover.specs.Planned.{read_branch, read_branches, planned_branch, planned_branches, body_branches, IsWithin, LeadsInside, free_by, with_branches, with_insns, is_hit_probe, is_hit_branch, mark_insns, told_by, told}
use Rattle.jc_cover.specs.declared.planned.PlannedBranch.{PlannedBranch}
use Rattle.jc_cover.proofs.MarkLaws.{listed_at}
use Rattle.jc_cover.proofs.SourceLaws.{source_is, begins_within}

-- ---- places to which branches lead

-- the branches of code whose instructions lead within it do so too
branches_enter : (count : ℕ) (code : List Insn) → All (LeadsWithin count) code → All (EntersWithin count) (branches code)
branches_enter count code leads =
    All-from_recursion (EntersWithin count) (branches code) (all_within count 0 code (recursion_from_All (LeadsWithin count) code leads))

-- ---- lists made item by item

module _ {X Y : Type 0} where
  made_same : (f g : ℕ → X → Y) (i : ℕ) (xs : List X) → ((k : ℕ) (x : X) → slice_get xs k ≡ Some x → f (i + k) x ≡ g (i + k) x) → map_from f i xs ≡ map_from g i xs
  made_same f g i [] same = refl
  made_same f g i (x ∷ xs) same =
      let z : i + 0 ≡ i = omega arith in
      ap₂ (λ (y : Y) (ys : List Y). y ∷ ys) (subst (λ k. f k x ≡ g k x) z (same 0 x refl))
      (made_same f g (i + 1) xs (λ k y h. let e : i + suc k ≡ i + 1 + k = omega arith in subst (λ j. f j y ≡ g j y) e (same (suc k) y h)))

  made_map : (f : ℕ → X → Y) (g : X → Y) (i : ℕ) (xs : List X) → ((k : ℕ) (x : X) → slice_get xs k ≡ Some x → f (i + k) x ≡ g x) → map_from f i xs ≡ map g xs
  made_map f g i [] same = refl
  made_map f g i (x ∷ xs) same =
      let z : i + 0 ≡ i = omega arith in
      ap₂ (λ (y : Y) (ys : List Y). y ∷ ys) (subst (λ k. f k x ≡ g x) z (same 0 x refl))
      (made_map f g (i + 1) xs (λ k y h. let e : i + suc k ≡ i + 1 + k = omega arith in subst (λ j. f j y ≡ g y) e (same (suc k) y h)))

-- ---- a plan read whole

module _ (b : Body) (first : ℕ) (code : IsCode b.code) where
  one_read : (i k : ℕ) (insn : Insn) (x : Branch) → slice_get b.code i ≡ Some insn → slice_get (branches_of i insn) k ≡ Some x
      → read_branch (plan_of b first) k x ≡ planned_branch b first x
  one_read i k insn x h g = let e = each_planned b first i k insn x code h g in λ j. record { to = place_of x.way; probe = e j }

  insn_read : (i : ℕ) (insn : Insn) → slice_get b.code i ≡ Some insn → read_branches (plan_of b first) i insn ≡ planned_branches b first i insn
  insn_read i insn h =
      made_map (read_branch (plan_of b first)) (planned_branch b first) 0 (branches_of i insn)
      (λ k x g. subst (λ j. read_branch (plan_of b first) j x ≡ planned_branch b first x) (sym (zero-add k)) (one_read i k insn x h g))

  pub body_read : map_from (read_branches (plan_of b first)) 0 b.code ≡ body_branches b first
  body_read =
      made_same (read_branches (plan_of b first)) (planned_branches b first) 0 b.code
      (λ k insn h. subst (λ j. read_branches (plan_of b first) j insn ≡ planned_branches b first j insn) (sym (zero-add k)) (insn_read k insn h))

  -- ---- where branches lead

  leads_within : (x : Branch) → Contains (branches b.code) x → IsWithin (length b.code) (place_of x.way)
  leads_within x c = let s = standing b.code x c in by x.way (enters (branches_enter (length b.code) b.code code.places) c) (falls s.insn s.stands s.is)
    where
      enters : All (EntersWithin (length b.code)) (branches b.code) → Contains (branches b.code) x → EntersWithin (length b.code) x
      enters all d = subst (EntersWithin (length b.code)) d.2 (all d.0 x d.1)

      falls : (insn : Insn) → slice_get b.code x.at ≡ Some insn → IsOf insn x.at x → (to : ℕ) → x.way ≡ Falls to → to < length b.code
      falls insn h (a_sequence goes e) to w =
          let same : Falls (x.at + 1) ≡ Falls to = ap (λ (z : Branch). z.way) e ∙ w in
          let there : x.at + 1 ≡ to = cc in
          subst (λ k. k < length b.code) there (goes_within b.code x.at insn code h goes)
      falls insn h (a_jump other one f e) to w = let same : Jumps other ≡ Falls to = ap (λ (z : Branch). z.way) e ∙ w in absurd cc
      falls insn h (an_arm n other f c d e) to w = let same : Switches other ≡ Falls to = ap (λ (z : Branch). z.way) e ∙ w in absurd cc
      falls insn h (an_exit f e) to w = let same : Exits ≡ Falls to = ap (λ (z : Branch). z.way) e ∙ w in absurd cc

      by : (way : Way) → EntersWithin (length b.code) (record { at = x.at; number = x.number; way = way }) → ((to : ℕ) → way ≡ Falls to → to < length b.code) → IsWithin (length b.code) (place_of way)
      by (Falls to) e f = f to refl
      by (Jumps to) e f = e
      by (Switches to) e f = e
      by Exits e f = tt

-- ---- sources

module _ (b : Body) (first : ℕ) where
  edges_join : (xs ys : List Branch) (table : List (Option ℕ)) → with_edges b (xs ++ ys) table ≡ with_edges b ys (with_edges b xs table)
  edges_join [] ys table = refl
  edges_join (x ∷ xs) ys table = edges_join xs ys (with_edge (is_probed b x) (place_of x.way) x.at table)

  one_source : (p : Bool) (id : ℕ) (to : Option ℕ) (i at : ℕ) (table : List (Option ℕ)) → at ≡ i → with_source (free_by (id_if p id) to) i table ≡ with_edge p to at table
  one_source true id to i at table e = refl
  one_source false id to i at table e = ap (λ k. with_source to k table) (sym e)

  insn_sources : (i : ℕ) (xs : List Branch) (table : List (Option ℕ)) → AllByRecursion (IsAt i) xs → with_branches i (map (planned_branch b first) xs) table ≡ with_edges b xs table
  insn_sources i [] table at = refl
  insn_sources i (x ∷ xs) table at =
      ap (with_branches i (map (planned_branch b first) xs)) (one_source (is_probed b x) (id_of b first x) (place_of x.way) i x.at table at.0.at)
      ∙ insn_sources i xs (with_edge (is_probed b x) (place_of x.way) x.at table) at.1

  code_sources : (i : ℕ) (code : List Insn) (table : List (Option ℕ)) → with_insns i (map_from (planned_branches b first) i code) table ≡ with_edges b (join_from branches_of i code) table
  code_sources i [] table = refl
  code_sources i (insn ∷ code) table =
      ap (with_insns (i + 1) (map_from (planned_branches b first) (i + 1) code)) (insn_sources i (branches_of i insn) table (all_at i (flow_of insn) (targets_of insn)))
      ∙ code_sources (i + 1) code (with_edges b (branches_of i insn) table)
      ∙ sym (edges_join (branches_of i insn) (join_from branches_of (i + 1) code) table)

  pub branches_size : length (body_branches b first) ≡ length b.code
  branches_size = length_made (planned_branches b first) 0 b.code

  pub body_sources : (listed : List (List PlannedBranch)) → listed ≡ body_branches b first → with_insns 0 listed (replicate (length listed) None) ≡ sources b
  body_sources listed e =
      ap (λ (l : List (List PlannedBranch)). with_insns 0 l (replicate (length l) None)) e
      ∙ ap (λ n. with_insns 0 (body_branches b first) (replicate n None)) branches_size
      ∙ code_sources 0 b.code (replicate (length b.code) None)

  edges_size : (xs : List Branch) (table : List (Option ℕ)) → length (with_edges b xs table) ≡ length table
  edges_size [] table = refl
  edges_size (x ∷ xs) table = edges_size xs (with_edge (is_probed b x) (place_of x.way) x.at table) ∙ one (is_probed b x) (place_of x.way)
    where
      one : (p : Bool) (to : Option ℕ) → length (with_edge p to x.at table) ≡ length table
      one true to = refl
      one false None = refl
      one false (Some to) = length-set table to (Some x.at)

  pub sources_size : length (sources b) ≡ length b.code
  sources_size = edges_size (branches b.code) (replicate (length b.code) None) ∙ length-replicate {A = Option ℕ} (length b.code) None

  -- each source is an instruction of the body
  pub sources_within : (i at : ℕ) → slice_get (sources b) i ≡ Some (Some at) → at < length (sources b)
  sources_within i at h =
      let lt : i < length b.code = subst (λ n. i < n) sources_size (slice_get_within (sources b) i (Some at) h) in
      let f = source_is b i at lt (get_or_from_slice_get (sources b) i (Some at) None h) in
      subst (λ n. at < n) (sym sources_size) (subst (λ k. k < length b.code) f.begins (begins_within b f.edge f.listed))

  -- ---- marks

  one_hit : (hits : List Bool) (p : Bool) (id : ℕ) → is_hit_probe hits (id_if p id) ≡ (p && is_hit hits id)
  one_hit hits true id = refl
  one_hit hits false id = refl

  any_hit : (hits : List Bool) (xs : List Branch) → list_any (is_hit_branch hits) (map (planned_branch b first) xs) ≡ list_any (has_hit b first hits) xs
  any_hit hits [] = refl
  any_hit hits (x ∷ xs) = ap₂ (λ (s t : Bool). s || t) (one_hit hits (is_probed b x) (id_of b first x)) (any_hit hits xs)

  code_marks : (hits : List Bool) (from : List (Option ℕ)) (i : ℕ) (code : List Insn) (marks : List Bool)
      → mark_insns hits from (length b.code) i (map_from (planned_branches b first) i code) marks ≡ mark_each b first hits from i code marks
  code_marks hits from i [] marks = refl
  code_marks hits from i (insn ∷ code) marks =
      ap (λ (t : Bool). mark_insns hits from (length b.code) (i + 1) (map_from (planned_branches b first) (i + 1) code) (mark_if t (mark_back from (length b.code) i) marks))
      (any_hit hits (branches_of i insn))
      ∙ code_marks hits from (i + 1) code (mark_if (is_hit_at b first hits i insn) (mark_back from (length b.code) i) marks)

  pub body_marks : (hits : List Bool) (listed : List (List PlannedBranch)) (from : List (Option ℕ)) → listed ≡ body_branches b first → from ≡ sources b
      → mark_insns hits from (length from) 0 listed (replicate (length from) false) ≡ marks_of b first hits
  body_marks hits listed from e f =
      ap₂ (λ (l : List (List PlannedBranch)) (s : List (Option ℕ)). mark_insns hits s (length s) 0 l (replicate (length s) false)) e f
      ∙ ap (λ n. mark_insns hits (sources b) n 0 (body_branches b first) (replicate n false)) sources_size
      ∙ code_marks hits (sources b) 0 b.code (replicate (length b.code) false)

  -- ---- values

  one_told : (hits marks : List Bool) (p : Bool) (x : Branch) → told_by (id_if p (id_of b first x)) (place_of x.way) hits marks ≡ covers_by p b first hits marks x
  one_told hits marks true x = refl
  one_told hits marks false x = refl

  all_told : (hits marks : List Bool) (xs : List Branch) → map (told hits marks) (map (planned_branch b first) xs) ≡ map (covers b first hits marks) xs
  all_told hits marks [] = refl
  all_told hits marks (x ∷ xs) = ap₂ (λ (v : Bool) (vs : List Bool). v ∷ vs) (one_told hits marks (is_probed b x) x) (all_told hits marks xs)

  code_told : (hits marks : List Bool) (i : ℕ) (code : List Insn) → map (map (told hits marks)) (map_from (planned_branches b first) i code) ≡ map_from (insn_values b first hits marks) i code
  code_told hits marks i [] = refl
  code_told hits marks i (insn ∷ code) = ap₂ (λ (v : List Bool) (vs : List (List Bool)). v ∷ vs) (all_told hits marks (branches_of i insn)) (code_told hits marks (i + 1) code)

  pub body_told : (hits : List Bool) (listed : List (List PlannedBranch)) (marks : List Bool) → listed ≡ body_branches b first → marks ≡ marks_of b first hits
      → map (map (told hits marks)) listed ≡ body_values b first hits
  body_told hits listed marks e m =
      ap₂ (λ (l : List (List PlannedBranch)) (k : List Bool). map (map (told hits k)) l) e m ∙ code_told hits (marks_of b first hits) 0 b.code

  -- ---- where the branches lead

  module _ (code : IsCode b.code) where
    all_inside : (xs : List Branch) → ((x : Branch) → Contains xs x → Contains (branches b.code) x) → (k : ℕ) (d : PlannedBranch) → k < length (map (planned_branch b first) xs)
        → LeadsInside (length b.code) (get_or (map (planned_branch b first) xs) k d)
    all_inside [] listed k d lt = absurd (omega arith)
    all_inside (x ∷ xs) listed zero d lt = leads_within b first code x (listed x (0, omega arith, refl))
    all_inside (x ∷ xs) listed (suc k) d lt = all_inside xs (λ y c. listed y (suc c.0, (let m = c.1 in omega (arith, m)), c.2)) k d (omega arith)

    insns_inside : (i : ℕ) (insns : List Insn) → ((k : ℕ) (insn : Insn) → slice_get insns k ≡ Some insn → slice_get b.code (i + k) ≡ Some insn)
        → (k : ℕ) (d : List PlannedBranch) → k < length (map_from (planned_branches b first) i insns) → All (LeadsInside (length b.code)) (get_or (map_from (planned_branches b first) i insns) k d)
    insns_inside i [] stand k d lt = absurd (omega arith)
    insns_inside i (insn ∷ insns) stand zero d lt =
        let z : i + 0 ≡ i = omega arith in
        all_inside (branches_of i insn) (λ x c. listed_at b first [] i insn x (subst (λ j. slice_get b.code j ≡ Some insn) z (stand 0 insn refl)) c)
    insns_inside i (insn ∷ insns) stand (suc k) d lt =
        insns_inside (i + 1) insns (λ j other h. let e : i + suc j ≡ i + 1 + j = omega arith in subst (λ n. slice_get b.code n ≡ Some other) e (stand (suc j) other h)) k d (omega arith)

    pub body_inside : (listed : List (List PlannedBranch)) → listed ≡ body_branches b first → All (All (LeadsInside (length listed))) listed
    body_inside listed e =
        subst (λ (l : List (List PlannedBranch)). All (All (LeadsInside (length l))) l) (sym e)
        (subst (λ n. All (All (LeadsInside n)) (body_branches b first)) (sym branches_size)
        (insns_inside 0 b.code (λ k insn h. subst (λ j. slice_get b.code j ≡ Some insn) (sym (zero-add k)) h)))
