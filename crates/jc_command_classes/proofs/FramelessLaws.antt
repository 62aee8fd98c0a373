-- The counters of a class don't depend on the frames of its bodies.
use Rattle.std.proofs.Common.{◌≡◌, ℕ, zero, suc, ◌+◌, Bool, true, false, not, cond, ◌&&◌, List, [], ◌∷◌, ◌++◌, map, filter, take, replicate, length, Option, None, refl, sym, ◌∙◌, ap, ap₂}
use Rattle.std.specs.List.{count_by, fold, sum_by, flat_map, list_any}
use Rattle.std.proofs.lemmas.List.Sums.{sum_by-cons}
use Rattle.jc_bytes.specs.PlainLists.{map_from}
use Rattle.jc_methods.specs.declared.analysed.Analysed.{Analysed}
use Rattle.jc_methods.specs.declared.body.Body.{Body}
use Rattle.jc_methods.specs.declared.insn.Insn.{Insn}
use Rattle.jc_cover.specs.Counters.{Method, methods_of, counted_methods, is_counted, is_covered, is_covered_method, Lined, lined_insns, line_count, count_of, branching, covered_paths, missed_paths, all_insns, counters_of_methods, counters_of}
use Rattle.jc_cover.specs.Covered.{is_hit, hits_or_none}
use Rattle.jc_cover.specs.Marking.{with_edge, with_edges, sources, mark_if, mark_back, mark_each, is_hit_at, marks_of, covers_by, covers, body_values, coverage_of}
use Rattle.jc_cover.specs.declared.coverage.Coverage.{Coverage}
use Rattle.jc_instrument.specs.SameAnalysis.{without_frames}
use Rattle.jc_plan.specs.Edges.{place_of, branches_of, branches}
use Rattle.jc_plan.specs.Probed.{is_probed_way, is_probed, is_before, position_of, id_of, probe_count, first_id}
use Rattle.jc_plan.specs.declared.branch.Branch.{Branch}
use Rattle.jc_plan.specs.declared.branch.Way.{Way}
use Rattle.jc_plan.specs.declared.branch.Way.TheVariants.{Falls, Jumps, Switches, Exits}
use Rattle.jc_command_classes.specs.Report.{frameless}
use Rattle.jc_command_classes.specs.ReportSteps.{counted_of}

-- ---- probes

same_way : (b : Body) (way : Way) → is_probed_way (without_frames b) way ≡ is_probed_way b way
same_way b (Falls n) = refl
same_way b (Jumps n) = refl
same_way b (Switches n) = refl
same_way b Exits = refl

module _ (b : Body) where
  same_probed : (x : Branch) → is_probed (without_frames b) x ≡ is_probed b x
  same_probed x = same_way b x.way

  same_id : (first : ℕ) (x : Branch) → id_of (without_frames b) first x ≡ id_of b first x
  same_id first x = λ i. first + count_by (λ y. same_probed y i && is_before (position_of y) (position_of x)) (branches b.code)

  same_count : probe_count (without_frames b) ≡ probe_count b
  same_count = λ i. count_by (λ x. same_probed x i) (branches b.code)

  -- ---- the coverage of a body

  same_edges : (xs : List Branch) (from : List (Option ℕ)) → with_edges (without_frames b) xs from ≡ with_edges b xs from
  same_edges [] from = refl
  same_edges (x ∷ xs) from =
      same_edges xs (with_edge (is_probed (without_frames b) x) (place_of x.way) x.at from)
      ∙ ap (λ (t : Bool). with_edges b xs (with_edge t (place_of x.way) x.at from)) (same_probed x)

  module _ (first : ℕ) (hits : List Bool) where
    same_hit : (i : ℕ) (insn : Insn) → is_hit_at (without_frames b) first hits i insn ≡ is_hit_at b first hits i insn
    same_hit i insn = λ j. list_any (λ x. same_probed x j && is_hit hits (same_id first x j)) (branches_of i insn)

    same_marks : (from : List (Option ℕ)) (i : ℕ) (code : List Insn) (marks : List Bool)
        → mark_each (without_frames b) first hits from i code marks ≡ mark_each b first hits from i code marks
    same_marks from i [] marks = refl
    same_marks from i (insn ∷ code) marks =
        same_marks from (i + 1) code (mark_if (is_hit_at (without_frames b) first hits i insn) (mark_back from (length b.code) i) marks)
        ∙ ap (λ (t : Bool). mark_each b first hits from (i + 1) code (mark_if t (mark_back from (length b.code) i) marks)) (same_hit i insn)

    all_marks : marks_of (without_frames b) first hits ≡ marks_of b first hits
    all_marks =
        same_marks (sources (without_frames b)) 0 b.code (replicate (length b.code) false)
        ∙ ap (λ (from : List (Option ℕ)). mark_each b first hits from 0 b.code (replicate (length b.code) false))
        (same_edges (branches b.code) (replicate (length b.code) None))

    same_covers_by : (t : Bool) (marks : List Bool) (x : Branch) → covers_by t (without_frames b) first hits marks x ≡ covers_by t b first hits marks x
    same_covers_by true marks x = ap (is_hit hits) (same_id first x)
    same_covers_by false marks x = refl

    same_covers : (marks : List Bool) (x : Branch) → covers (without_frames b) first hits marks x ≡ covers b first hits marks x
    same_covers marks x =
        same_covers_by (is_probed (without_frames b) x) marks x ∙ ap (λ (t : Bool). covers_by t b first hits marks x) (same_probed x)

    same_values : body_values (without_frames b) first hits ≡ body_values b first hits
    same_values = λ j. map_from (λ n insn. map (λ x. same_covers (all_marks j) x j) (branches_of n insn)) 0 b.code

-- ---- the coverage of a class

same_first : (bodies : List Body) (n : ℕ) → first_id (map without_frames bodies) n ≡ first_id bodies n
same_first [] n = refl
same_first (b ∷ bodies) zero = refl
same_first (b ∷ bodies) (suc n) =
    sum_by-cons probe_count (without_frames b) (take n (map without_frames bodies))
    ∙ ap₂ (λ j k. j + k) (same_count b) (same_first bodies n)
    ∙ sym (sum_by-cons probe_count b (take n bodies))

values_from : (first other : ℕ → ℕ) (hits : List Bool) → ((n : ℕ) → first n ≡ other n) → (i : ℕ) (bodies : List Body)
    → map_from (λ n b. body_values b (first n) hits) i (map without_frames bodies) ≡ map_from (λ n b. body_values b (other n) hits) i bodies
values_from first other hits same i [] = refl
values_from first other hits same i (b ∷ bodies) =
    ap₂ (λ (v : List (List Bool)) (vs : List (List (List Bool))). v ∷ vs)
    (same_values b (first i) hits ∙ ap (λ (n : ℕ). body_values b n hits) (same i)) (values_from first other hits same (i + 1) bodies)

pub same_coverage : (bodies : List Body) (hits : List Bool) → coverage_of (map without_frames bodies) hits ≡ coverage_of bodies hits
same_coverage bodies hits =
    ap (λ (values : List (List (List Bool))). let c : Coverage = record { edges = values } in c)
    (values_from (first_id (map without_frames bodies)) (first_id bodies) hits (same_first bodies) 0 bodies)

-- ---- the counters

abbrev pub plain : Method → Method
plain m = record m { body = without_frames m.body }

plain_methods : (bodies : List Body) (values : List (List (List Bool))) → methods_of (map without_frames bodies) values ≡ map plain (methods_of bodies values)
plain_methods [] values = refl
plain_methods (b ∷ bodies) [] = refl
plain_methods (b ∷ bodies) (insns ∷ values) = ap (λ (ms : List Method). record { body = without_frames b; insns = insns } ∷ ms) (plain_methods bodies values)

plain_counted : (ms : List Method) → filter (λ m. is_counted m.body) (map plain ms) ≡ map plain (filter (λ m. is_counted m.body) ms)
plain_counted [] = refl
plain_counted (m ∷ ms) = by (is_counted m.body) (plain_counted ms)
  where
    by : (t : Bool) → filter (λ m. is_counted m.body) (map plain ms) ≡ map plain (filter (λ m. is_counted m.body) ms)
        → cond t (plain m ∷ filter (λ m. is_counted m.body) (map plain ms)) (filter (λ m. is_counted m.body) (map plain ms))
        ≡ map plain (cond t (m ∷ filter (λ m. is_counted m.body) ms) (filter (λ m. is_counted m.body) ms))
    by true rest = ap (λ (l : List Method). plain m ∷ l) rest
    by false rest = rest

plain_covered : (test : Bool → Bool) (n : ℕ) (ms : List Method)
    → fold (λ k m. k + cond (test (is_covered_method m)) 1 0) n (map plain ms) ≡ fold (λ k m. k + cond (test (is_covered_method m)) 1 0) n ms
plain_covered test n [] = refl
plain_covered test n (m ∷ ms) = plain_covered test (n + cond (test (is_covered_method m)) 1 0) ms

plain_lined : (ms : List Method) → flat_map lined_insns (map plain ms) ≡ flat_map lined_insns ms
plain_lined [] = refl
plain_lined (m ∷ ms) = ap (λ (l : List Lined). lined_insns m ++ l) (plain_lined ms)

plain_insns : (ms : List Method) → all_insns (map plain ms) ≡ all_insns ms
plain_insns [] = refl
plain_insns (m ∷ ms) = ap (λ (l : List (List Bool)). m.insns ++ l) (plain_insns ms)

plain_counters : (ms : List Method) → counters_of_methods (map plain ms) ≡ counters_of_methods ms
plain_counters ms = λ i. record {
  instruction = count_of is_covered (plain_insns ms i);
  branch = count_of (λ value. value) (flat_map (λ values. values) (branching (plain_insns ms i)));
  line = line_count (plain_lined ms i);
  complexity = record {
    missed = plain_covered not 0 ms i + sum_by missed_paths (branching (plain_insns ms i));
    covered = plain_covered (λ t. t) 0 ms i + sum_by covered_paths (branching (plain_insns ms i));
  };
  method = record { missed = plain_covered not 0 ms i; covered = plain_covered (λ t. t) 0 ms i };
}

-- the methods that count are those without frames
pub plain_counted_methods : (bodies : List Body) (coverage : Coverage) → counted_methods (map without_frames bodies) coverage ≡ map plain (counted_methods bodies coverage)
plain_counted_methods bodies coverage =
    ap (λ (ms : List Method). filter (λ m. is_counted m.body) ms) (plain_methods bodies coverage.edges) ∙ plain_counted (methods_of bodies coverage.edges)

pub same_counters : (bodies : List Body) (coverage : Coverage) → counters_of (map without_frames bodies) coverage ≡ counters_of bodies coverage
same_counters bodies coverage = ap counters_of_methods (plain_counted_methods bodies coverage) ∙ plain_counters (counted_methods bodies coverage)

-- the class with its counters is that without frames
pub same_counted : (hits : Option (List Bool)) (a : Analysed) → counted_of hits (frameless a) ≡ counted_of hits a
same_counted hits a = λ i. record {
  id = a.id;
  name = a.name;
  super_name = a.super_name;
  interfaces = a.interfaces;
  counters = counters i;
}
  where
    counters : counters_of (map without_frames a.bodies) (coverage_of (map without_frames a.bodies) (hits_or_none hits)) ≡ counters_of a.bodies (coverage_of a.bodies (hits_or_none hits))
    counters =
        same_counters a.bodies (coverage_of (map without_frames a.bodies) (hits_or_none hits))
        ∙ ap (counters_of a.bodies) (same_coverage a.bodies (hits_or_none hits))
