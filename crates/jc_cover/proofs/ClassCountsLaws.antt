-- The methods of a class, one by one.
use Rattle.std.proofs.Common.{◌≡◌, ℕ, ◌+◌, ◌-◌, ◌<◌, ◌≤◌, Bool, true, false, cond, List, [], ◌∷◌, ◌++◌, map, length, filter, get_or, drop, refl, sym, ap, ap₂, ◌∙◌, subst, append_assoc, arith}
use Rattle.std.specs.Prelude.{All}
use Rattle.std.specs.List.{flat_map}
use Rattle.std.proofs.lemmas.List.{drop_all, append-nil, length-map}
use Rattle.std.proofs.lemmas.Option.{same_Some, slice_get_read}
use Rattle.jc_bytes.specs.FirstSeen.{first_seen}
use Rattle.jc_methods.specs.WellMade.{IsLine}
use Rattle.jc_methods.specs.declared.analysed.Analysed.{Analysed}
use Rattle.jc_methods.specs.declared.body.Body.{Body}
use Rattle.jc_bytes.proofs.AppendingLaws.{drop_is}
use Rattle.jc_methods.proofs.PlacedInsnLaws.{few_insns}
use Rattle.jc_plan.specs.Analysed.{IsAnalysed}
use Rattle.jc_cover.specs.declared.coverage.Count.{Count}
use Rattle.jc_cover.specs.declared.coverage.Coverage.{Coverage}
use Rattle.jc_cover.specs.declared.sums.Sums.{Sums}
use Rattle.jc_cover.specs.Covered.{HasShape, body_shape}
use Rattle.jc_cover.specs.Counters.{Method, methods_of, is_counted, counted_methods, counters_of, line_count, lined_insns}
use Rattle.jc_cover.specs.Lines.{methods_lines, covered_methods_lines, counted_lines}
use Rattle.jc_cover.specs.Sums.{plus, AreSmall, methods_sums, method_sums, one_counted, insns_weight}
use Rattle.jc_cover.proofs.ClassLaws.{well_made}
use Rattle.jc_cover.proofs.DistinctLaws.{covered_lines, all_lines}
use Rattle.jc_cover.proofs.InsnLinesLaws.{lines_join, covered_lines_join}
use Rattle.jc_cover.proofs.OneCoverageLaws.{body_at}
use Rattle.jc_cover.proofs.SmallLaws.{sized, counters_small}
use Rattle.jc_cover.proofs.SumsLaws.{plus_assoc, plus_none, plus_end, part_small, small_count, methods_counted}

pub sums_join : (a b : List Method) → methods_sums (a ++ b) ≡ plus (methods_sums a) (methods_sums b)
sums_join [] b = sym (plus_none (methods_sums b))
sums_join (m ∷ a) b = ap (plus (method_sums m.insns)) (sums_join a b) ∙ plus_assoc (method_sums m.insns) (methods_sums a) (methods_sums b)

-- the methods that count
abbrev pub those : List Body → List (List (List Bool)) → List Method
those bodies values = filter (λ m. is_counted m.body) (methods_of bodies values)

module _ (bodies : List Body) (values : List (List (List Bool))) where
  abbrev left : ℕ → List Method
  left k = those (drop k bodies) (drop k values)

  one_left : (k : ℕ) (b : Body) (insns : List (List Bool)) → k < length bodies → k < length values → b ≡ get_or bodies k b → insns ≡ get_or values k insns
      → left k ≡ one_counted b insns ++ left (k + 1)
  one_left k b insns lt lv is iv = ap₂ those (drop_is bodies k b lt is) (drop_is values k insns lv iv) ∙ by (is_counted b)
    where
      m : Method
      m = record { body = b; insns = insns }

      by : (t : Bool) → cond t (m ∷ left (k + 1)) (left (k + 1)) ≡ cond t (m ∷ []) [] ++ left (k + 1)
      by true = refl
      by false = refl

  -- what is left to count gives the whole
  pub record Counting (k : ℕ) (sums : Sums) (all covered : List ℕ) : Type 0 where
    pub summed : plus sums (methods_sums (left k)) ≡ methods_sums (those bodies values)
    pub lined : all ++ methods_lines (left k) ≡ methods_lines (those bodies values)
    pub told : covered ++ covered_methods_lines (left k) ≡ covered_methods_lines (those bodies values)

  pub begun : Counting 0
      (record {
        instruction = record { missed = 0; covered = 0 };
        branch = record { missed = 0; covered = 0 };
        complexity =
            record { missed = 0; covered = 0 };
        method = record { missed = 0; covered = 0 };
      }) [] []
  begun = record { summed = plus_none (methods_sums (those bodies values)); lined = refl; told = refl }

  module _ (k : ℕ) (b : Body) (insns : List (List Bool)) (lt : k < length bodies) (lv : k < length values) (is : b ≡ get_or bodies k b) (iv : insns ≡ get_or values k insns) where
    sums_more : (sums : Sums) → plus sums (methods_sums (left k)) ≡ methods_sums (those bodies values)
        → plus (plus sums (methods_sums (one_counted b insns))) (methods_sums (left (k + 1))) ≡ methods_sums (those bodies values)
    sums_more sums before =
        sym (plus_assoc sums (methods_sums (one_counted b insns)) (methods_sums (left (k + 1))))
        ∙ ap (plus sums) (sym (sums_join (one_counted b insns) (left (k + 1))) ∙ ap methods_sums (sym (one_left k b insns lt lv is iv))) ∙ before

    lists_more : (f : List Method → List ℕ) → ((a o : List Method) → f (a ++ o) ≡ f a ++ f o) → (now next : List ℕ) → next ≡ now ++ f (one_counted b insns)
        → now ++ f (left k) ≡ f (those bodies values) → next ++ f (left (k + 1)) ≡ f (those bodies values)
    lists_more f join now next e before =
        ap (λ (l : List ℕ). l ++ f (left (k + 1))) e ∙ append_assoc now (f (one_counted b insns)) (f (left (k + 1)))
        ∙ ap (λ (l : List ℕ). now ++ l) (sym (join (one_counted b insns) (left (k + 1))) ∙ ap f (sym (one_left k b insns lt lv is iv))) ∙ before

    pub one_more : (sums sums' : Sums) (all all' covered covered' : List ℕ) → sums' ≡ plus sums (methods_sums (one_counted b insns)) → all' ≡ all ++ methods_lines (one_counted b insns)
        → covered' ≡ covered ++ covered_methods_lines (one_counted b insns) → Counting k sums all covered → Counting (k + 1) sums' all' covered'
    one_more sums sums' all all' covered covered' e f g c = record {
      summed = ap (λ (s : Sums). plus s (methods_sums (left (k + 1)))) e ∙ sums_more sums c.summed;
      lined = lists_more methods_lines lines_join all all' f c.lined;
      told = lists_more covered_methods_lines covered_lines_join covered covered' g c.told;
    }

    pub small_now : (sums : Sums) (all covered : List ℕ) → AreSmall (methods_sums (those bodies values)) → Counting k sums all covered → AreSmall (plus sums (methods_sums (one_counted b insns)))
    small_now sums all covered small c =
        part_small (plus sums (methods_sums (one_counted b insns))) (methods_sums (left (k + 1))) (methods_sums (those bodies values)) (sums_more sums c.summed) small

  none_left : (k : ℕ) → length bodies ≤ k → left k ≡ []
  none_left k le = ap (λ (l : List Body). those l (drop k values)) (drop_all k bodies le)

  pub all_summed : (k : ℕ) (sums : Sums) (all covered : List ℕ) → length bodies ≤ k → Counting k sums all covered → sums ≡ methods_sums (those bodies values)
  all_summed k sums all covered le c = sym (ap (λ (l : List Method). plus sums (methods_sums l)) (none_left k le) ∙ plus_end sums) ∙ c.summed

  pub all_lined : (k : ℕ) (sums : Sums) (all covered : List ℕ) → length bodies ≤ k → Counting k sums all covered → all ≡ methods_lines (those bodies values)
  all_lined k sums all covered le c = sym (ap (λ (l : List Method). all ++ methods_lines l) (none_left k le) ∙ append-nil all) ∙ c.lined

  pub all_told : (k : ℕ) (sums : Sums) (all covered : List ℕ) → length bodies ≤ k → Counting k sums all covered → covered ≡ covered_methods_lines (those bodies values)
  all_told k sums all covered le c = sym (ap (λ (l : List Method). covered ++ covered_methods_lines l) (none_left k le) ∙ append-nil covered) ∙ c.told

-- ---- sizes

module _ (class : Analysed) (coverage : Coverage) (analysed : IsAnalysed class) (shape : HasShape class.bodies coverage) where
  abbrev ms : List Method
  ms = counted_methods class.bodies coverage

  pub edges_size : length coverage.edges ≡ length class.bodies
  edges_size = let e = ap length shape in omega (arith, e, length-map coverage.edges (map length), length-map class.bodies body_shape)

  pub all_small : AreSmall (methods_sums ms)
  all_small =
      let c = counters_small class.bodies coverage 67108864 analysed.well_made shape analysed.few in
      let i = c.instruction in
      let b = c.branch in
      let x = c.complexity in
      let m = c.method in
      subst AreSmall (sym (methods_counted ms)) (record {
        instruction = small_count (counters_of class.bodies coverage).instruction (omega (arith, i));
        branch = small_count (counters_of class.bodies coverage).branch (omega (arith, b));
        complexity = small_count (counters_of class.bodies coverage).complexity (omega (arith, x));
        method = small_count (counters_of class.bodies coverage).method (omega (arith, m));
      })

  -- the lines of the class, and the covered ones
  pub few_lines : (all : List ℕ) → all ≡ methods_lines ms → length (first_seen all) < 4294967296
  few_lines all e =
      let c = counters_small class.bodies coverage 67108864 analysed.well_made shape analysed.few in
      let l = c.line in
      let size : length (first_seen all) ≡ length (first_seen (methods_lines ms)) = ap (λ (ns : List ℕ). length (first_seen ns)) e in
      omega (arith, l, size, all_lines (flat_map lined_insns ms), covered_lines (flat_map lined_insns ms))

  pub lines_within : (all covered : List ℕ) → all ≡ methods_lines ms → covered ≡ covered_methods_lines ms → length (first_seen covered) ≤ length (first_seen all)
  lines_within all covered e f =
      let size : length (first_seen all) ≡ length (first_seen (methods_lines ms)) = ap (λ (ns : List ℕ). length (first_seen ns)) e in
      let sized : length (first_seen covered) ≡ length (first_seen (covered_methods_lines ms)) = ap (λ (ns : List ℕ). length (first_seen ns)) f in
      omega (arith, size, sized, all_lines (flat_map lined_insns ms))

  module _ (n : ℕ) (b : Body) (insns : List (List Bool)) (lt : n < length class.bodies) (is : b ≡ get_or class.bodies n b) (iv : insns ≡ get_or coverage.edges n insns) where
    shaped : map length insns ≡ body_shape b
    shaped =
        let stands = slice_get_read class.bodies (length class.bodies) n b refl lt is in
        let here = slice_get_read coverage.edges (length class.bodies) n insns (sym edges_size) lt iv in
        let found = body_at class.bodies [] coverage shape n insns here in
        let same : found.0 ≡ b = same_Some found.0 b (sym found.1 ∙ stands) in
        found.2 ∙ ap body_shape same

    pub few_weight : insns_weight insns < 4294967296
    few_weight =
        let s = sized 0 b.code insns shaped in
        let a = s.0 in
        let few = s.1 in
        let made = (well_made class n b analysed lt is).of_any_size.code in
        let most = made.few in
        omega (arith, a, few, most, few_insns b.code)

    pub lines_inside : All (IsLine (length insns)) b.lines
    lines_inside =
        let s = sized 0 b.code insns shaped in
        subst (λ count. All (IsLine count) b.lines) (sym s.0) (well_made class n b analysed lt is).of_any_size.lines

  -- ---- the whole

  pub counters_told : (sums : Sums) (all covered : List ℕ) (line : Count) → sums ≡ methods_sums ms → all ≡ methods_lines ms → covered ≡ covered_methods_lines ms → line ≡ counted_lines all covered
      → record { instruction = sums.instruction; branch = sums.branch; line = line; complexity = sums.complexity; method = sums.method } ≡ counters_of class.bodies coverage
  counters_told sums all covered line e f g l =
      let whole = e ∙ methods_counted ms in
      let lines : line ≡ line_count (flat_map lined_insns ms) = l ∙ ap₂ counted_lines f g ∙ same_lines in
      λ i. record { instruction = (whole i).instruction; branch = (whole i).branch; line = lines i; complexity = (whole i).complexity; method = (whole i).method }
    where
      same_lines : counted_lines (methods_lines ms) (covered_methods_lines ms) ≡ line_count (flat_map lined_insns ms)
      same_lines =
          let a = all_lines (flat_map lined_insns ms) in
          let missed : length (first_seen (methods_lines ms)) - length (first_seen (covered_methods_lines ms)) ≡ (line_count (flat_map lined_insns ms)).missed = omega (arith, a) in
          λ i. record { missed = missed i; covered = sym (covered_lines (flat_map lined_insns ms)) i }
