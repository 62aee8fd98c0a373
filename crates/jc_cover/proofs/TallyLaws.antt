-- The counters of a class, put together body by body.
use Rattle.std.proofs.Common.{◌≡◌, ℕ, suc, ◌+◌, ◌-◌, ◌<◌, ◌≤◌, Bool, true, false, cond, List, [], ◌∷◌, ◌++◌, length, None, refl, sym, ◌∙◌, ap, ap₂, subst, arith, zero-add}
use Rattle.std.specs.Prelude.{All}
use Rattle.std.specs.List.{sum_by}
use Rattle.std.proofs.lemmas.List.{take-append-le, take_all}
use Rattle.std.proofs.lemmas.List.Elements.{All-nil}
use Rattle.jc_bytes.specs.FirstSeen.{first_seen, seen_behind}
use Rattle.jc_bytes.specs.PlainLists.{map_from}
use Rattle.jc_bytes.proofs.FirstSeenLaws.{seen-append, seen_anew}
use Rattle.jc_methods.specs.WellMade.{IsLine, IsWellMade}
use Rattle.jc_methods.specs.declared.analysed.Analysed.{Analysed}
use Rattle.jc_methods.specs.declared.body.Body.{Body}
use Rattle.jc_methods.specs.declared.plan.Plan.{Plan}
use Rattle.jc_methods.proofs.PlacedInsnLaws.{few_insns}
use Rattle.jc_plan.specs.Analysed.{IsAnalysed, all_probes, plans_of}
use Rattle.jc_plan.specs.Plan.{plan_of}
use Rattle.jc_plan.specs.Probed.{first_id, probe_count}
use Rattle.jc_cover.specs.declared.coverage.Count.{Count}
use Rattle.jc_cover.specs.declared.sums.Sums.{Sums}
use Rattle.jc_cover.specs.declared.tally.Tally.{Tally}
use Rattle.jc_cover.specs.Covered.{HasShape}
use Rattle.jc_cover.specs.Counters.{Method, counters_of, is_counted}
use Rattle.jc_cover.specs.Lines.{counted_lines, methods_lines, covered_methods_lines}
use Rattle.jc_cover.specs.Marking.{body_values, class_values, coverage_of, marks_of}
use Rattle.jc_cover.specs.Sums.{AreSmall, insns_weight, methods_sums, no_sums, one_counted, plus}
use Rattle.jc_cover.specs.Tally.{ArePart, IsNext, IsTally, hit_methods}
use Rattle.jc_cover.proofs.ClassCountsLaws.{all_small, counters_told, few_lines, lines_within, sums_join, those}
use Rattle.jc_cover.proofs.CoverageLaws.{insns_shaped, tells}
use Rattle.jc_cover.proofs.InsnLinesLaws.{lines_join, covered_lines_join}
use Rattle.jc_cover.proofs.SmallLaws.{sized}

-- ---- one body more

-- what is made of items by their places, where two functions agree at these
map_from_agree : {X Y : Type 0} (f g : ℕ → X → Y) (i : ℕ) (xs : List X) → ((k : ℕ) (x : X) → k < i + length xs → f k x ≡ g k x) → map_from f i xs ≡ map_from g i xs
map_from_agree f g i [] same = refl
map_from_agree f g i (x ∷ xs) same =
    ap₂ (λ y ys. y ∷ ys) (same i x (omega arith)) (map_from_agree f g (i + 1) xs (λ k z less. same k z (omega (arith, less))))

module _ (f : ℕ → Body → List (List Bool)) (b : Body) where
  -- the last one of the methods that count, if it counts
  those_put : (i : ℕ) (bodies : List Body)
      → those (bodies ++ b ∷ []) (map_from f i (bodies ++ b ∷ [])) ≡ those bodies (map_from f i bodies) ++ one_counted b (f (i + length bodies) b)
  those_put i [] = let here : i ≡ i + 0 = omega arith in ap (λ (k : ℕ). one_counted b (f k b)) here
  those_put i (x ∷ bodies) =
      let there : i + 1 + length bodies ≡ i + length (x ∷ bodies) = omega arith in
      by (is_counted x) (those (bodies ++ b ∷ []) (map_from f (i + 1) (bodies ++ b ∷ []))) (those bodies (map_from f (i + 1) bodies))
      (one_counted b (f (i + length (x ∷ bodies)) b))
      (those_put (i + 1) bodies ∙ ap (λ (k : ℕ). those bodies (map_from f (i + 1) bodies) ++ one_counted b (f k b)) there)
    where
      m : Method
      m = record { body = x; insns = f i x }

      by : (t : Bool) (new old last : List Method) → new ≡ old ++ last → cond t (m ∷ new) new ≡ cond t (m ∷ old) old ++ last
      by true new old last same = ap (λ (l : List Method). m ∷ l) same
      by false new old last same = same

module _ (bodies : List Body) (b : Body) (hits : List Bool) where
  first_before : (k : ℕ) → k ≤ length bodies → first_id (bodies ++ b ∷ []) k ≡ first_id bodies k
  first_before k few = ap (sum_by probe_count) (take-append-le k bodies (b ∷ []) few)

  first_last : first_id (bodies ++ b ∷ []) (0 + length bodies) ≡ all_probes bodies
  first_last =
      ap (first_id (bodies ++ b ∷ [])) (zero-add (length bodies)) ∙ first_before (length bodies) (omega arith)
      ∙ ap (sum_by probe_count) (take_all (length bodies) bodies (omega arith))

  pub methods_put : hit_methods (bodies ++ b ∷ []) hits ≡ hit_methods bodies hits ++ one_counted b (body_values b (all_probes bodies) hits)
  methods_put =
      those_put (class_values (bodies ++ b ∷ []) hits) b 0 bodies
      ∙ ap₂ (λ (values : List (List (List Bool))) (first : ℕ). those bodies values ++ one_counted b (body_values b first hits))
      (map_from_agree (class_values (bodies ++ b ∷ []) hits) (class_values bodies hits) 0 bodies
      (λ k x less. ap (λ (n : ℕ). body_values x n hits) (first_before k (omega (arith, less))))) first_last

-- ---- sizes

module _ (b : Body) (first : ℕ) (hits : List Bool) (made : IsWellMade b) where
  pub values_weight : insns_weight (body_values b first hits) < 4294967296
  values_weight =
      let s = sized 0 b.code (body_values b first hits) (insns_shaped b first hits (marks_of b first hits) 0 b.code) in
      let a = s.0 in
      let few = s.1 in
      let code = made.of_any_size.code in
      let most = code.few in
      omega (arith, a, few, most, few_insns b.code)

  pub values_lines : All (IsLine (length (body_values b first hits))) b.lines
  values_lines =
      let s = sized 0 b.code (body_values b first hits) (insns_shaped b first hits (marks_of b first hits) 0 b.code) in
      subst (λ count. All (IsLine count) b.lines) (sym s.0) made.of_any_size.lines

-- a class of these bodies
abbrev class_of : List Body → Analysed
class_of bodies = record {
  id = 0;
  name = [];
  version = 0;
  flags = 0;
  super_name = None;
  interfaces = [];
  bodies = bodies;
  plans = plans_of bodies;
  probes = all_probes bodies;
}

module _ (bodies : List Body) (hits : List Bool) (part : ArePart bodies) where
  is_class : IsAnalysed (class_of bodies)
  is_class = record { well_made = part.well_made; plans = refl; probes = refl; few = part.few }

  shape : HasShape bodies (coverage_of bodies hits)
  shape = (tells bodies hits).shape

  part_small : AreSmall (methods_sums (hit_methods bodies hits))
  part_small = all_small (class_of bodies) (coverage_of bodies hits) is_class shape

  pub few_of : (lines : List ℕ) → lines ≡ first_seen (methods_lines (hit_methods bodies hits)) → length lines < 4294967296
  few_of lines is =
      let few = few_lines (class_of bodies) (coverage_of bodies hits) is_class shape (methods_lines (hit_methods bodies hits)) refl in
      subst (λ (l : List ℕ). length l < 4294967296) (sym is) few

  pub within_of : (lines covered : List ℕ) → lines ≡ first_seen (methods_lines (hit_methods bodies hits))
      → covered ≡ first_seen (covered_methods_lines (hit_methods bodies hits)) → length covered ≤ length lines
  within_of lines covered is told =
      let all = methods_lines (hit_methods bodies hits) in
      let some = covered_methods_lines (hit_methods bodies hits) in
      let most = lines_within (class_of bodies) (coverage_of bodies hits) is_class shape all some refl refl in
      let more = ap length is in
      let less = ap length told in
      omega (arith, most, more, less)

  -- ---- the whole

  pub tally_told : (t : Tally) → IsTally bodies hits t → (line : Count) → line ≡ record { missed = length t.lines.keys - length t.covered.keys; covered = length t.covered.keys }
      → record { instruction = t.sums.instruction; branch = t.sums.branch; line = line; complexity = t.sums.complexity; method = t.sums.method }
      ≡ counters_of bodies (coverage_of bodies hits)
  tally_told t is line line_is =
      let all = methods_lines (hit_methods bodies hits) in
      let some = covered_methods_lines (hit_methods bodies hits) in
      let lines : line ≡ counted_lines all some =
      line_is ∙ ap₂ (λ (a c : List ℕ). let n : Count = record { missed = length a - length c; covered = length c } in n) is.lines is.covered in
      counters_told (class_of bodies) (coverage_of bodies hits) is_class shape t.sums all some line is.sums refl refl lines

-- ---- one step

-- numbers behind those that were seen
seen_more : (f : List Method → List ℕ) → ((a b : List Method) → f (a ++ b) ≡ f a ++ f b) → (all last whole : List Method) → whole ≡ all ++ last
    → (old put new : List ℕ) → old ≡ first_seen (f all) → put ≡ f last → new ≡ seen_behind old put → new ≡ first_seen (f whole)
seen_more f join all last whole whole_is old put new old_is put_is new_is =
    new_is
    ∙ ap₂ seen_behind (old_is ∙ sym (seen_anew (f all))) put_is
    ∙ sym (seen-append [] (f all) (f last))
    ∙ seen_anew (f all ++ f last)
    ∙ ap first_seen (sym (join all last) ∙ ap f (sym whole_is))

module _ (bodies : List Body) (b : Body) (hits : List Bool) (plan : Plan) (next : IsNext bodies b plan) where
  pub made_last : IsWellMade b
  made_last = last bodies next.part.well_made
    where
      last : (l : List Body) → All IsWellMade (l ++ b ∷ []) → IsWellMade b
      last [] all = all 0 b (omega arith)
      last (x ∷ l) all = last l (λ k d less. all (suc k) d (omega (arith, less)))

  -- the first id, by the plan
  pub first_is : plan.next - probe_count b ≡ all_probes bodies
  first_is = let end : plan.next ≡ all_probes bodies + probe_count b = ap (λ (p : Plan). p.next) next.plan_is in omega (arith, end)

  pub plan_here : plan ≡ plan_of b (plan.next - probe_count b)
  plan_here = next.plan_is ∙ ap (plan_of b) (sym first_is)

  module _ (t : Tally) (is : IsTally bodies hits t) (insns : List (List Bool)) (insns_are : insns ≡ body_values b (plan.next - probe_count b) hits) where
    values_are : insns ≡ body_values b (all_probes bodies) hits
    values_are = insns_are ∙ ap (λ (n : ℕ). body_values b n hits) first_is

    pub insns_few : insns_weight insns < 4294967296
    insns_few = subst (λ (l : List (List Bool)). insns_weight l < 4294967296) (sym values_are) (values_weight b (all_probes bodies) hits made_last)

    pub lines_in : All (IsLine (length insns)) b.lines
    lines_in = subst (λ (l : List (List Bool)). All (IsLine (length l)) b.lines) (sym values_are) (values_lines b (all_probes bodies) hits made_last)

    whole_is : hit_methods (bodies ++ b ∷ []) hits ≡ hit_methods bodies hits ++ one_counted b insns
    whole_is = methods_put bodies b hits ∙ ap (λ (l : List (List Bool)). hit_methods bodies hits ++ one_counted b l) (sym values_are)

    sums_are : plus t.sums (methods_sums (one_counted b insns)) ≡ methods_sums (hit_methods (bodies ++ b ∷ []) hits)
    sums_are =
        ap (λ (s : Sums). plus s (methods_sums (one_counted b insns))) is.sums
        ∙ sym (sums_join (hit_methods bodies hits) (one_counted b insns))
        ∙ ap methods_sums (sym whole_is)

    pub sums_small : AreSmall (plus t.sums (methods_sums (one_counted b insns)))
    sums_small = subst AreSmall (sym sums_are) (part_small (bodies ++ b ∷ []) hits next.part)

    pub tallied : (new : Tally) (all covered : List ℕ) → new.sums ≡ plus t.sums (methods_sums (one_counted b insns)) → all ≡ methods_lines (one_counted b insns)
        → covered ≡ covered_methods_lines (one_counted b insns) → new.lines.keys ≡ seen_behind t.lines.keys all
        → new.covered.keys ≡ seen_behind t.covered.keys covered → IsTally (bodies ++ b ∷ []) hits new
    tallied new all covered sums all_are covered_are lines_put covered_put = record {
      part = next.part;
      sums = sums ∙ sums_are;
      lines = seen_more methods_lines lines_join (hit_methods bodies hits) (one_counted b insns) (hit_methods (bodies ++ b ∷ []) hits) whole_is
          t.lines.keys all new.lines.keys is.lines all_are lines_put;
      covered = seen_more covered_methods_lines covered_lines_join (hit_methods bodies hits) (one_counted b insns) (hit_methods (bodies ++ b ∷ []) hits) whole_is
          t.covered.keys covered new.covered.keys is.covered covered_are covered_put;
    }

-- ---- the beginning

pub nothing_tallied : (hits : List Bool) (t : Tally) → t.sums ≡ no_sums → t.lines.keys ≡ [] → t.covered.keys ≡ [] → IsTally [] hits t
nothing_tallied hits t sums lines covered = record {
  part = record { well_made = All-nil IsWellMade; few = omega arith };
  sums = sums;
  lines = lines;
  covered = covered;
}
