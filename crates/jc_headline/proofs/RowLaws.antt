-- The rows of the report: their counters are those of the edges that the hits of a run plan cover.
use Rattle.std.proofs.Common.{◌≡◌, ◌⊎◌, inl, inr, ℕ, zero, suc, ◌+◌, ◌<◌, Bool, true, false, cond, not, nat_eq, List, [], ◌∷◌, map, length, Option, None, Some, Contains, refl, sym, ◌∙◌, ap, subst, arith}
use Rattle.std.specs.Prelude.{slice_get, slice_index_or, filter, option_map}
use Rattle.std.specs.List.{sum_by}
use Rattle.std.proofs.Math.Seq.{take-length}
use Rattle.std.proofs.lemmas.Bool.{eqb-true}
use Rattle.std.proofs.lemmas.Option.{slice_get_within}
use Rattle.jc_bytes.proofs.BooleanLaws.{first_in, later_in, which_in, none_in}
use Rattle.jc_methods.specs.declared.analysed.Analysed.{Analysed}
use Rattle.jc_methods.specs.declared.body.Body.{Body}
use Rattle.jc_programs.specs.declared.program.Program.{Program}
use Rattle.jc_programs.specs.declared.program.Linked.{Linked}
use Rattle.jc_programs.specs.declared.run_plan.RunPlan.{RunPlan}
use Rattle.jc_programs.specs.declared.run_end.Entry.{Entry}
use Rattle.jc_plan.specs.declared.branch.Branch.{Branch}
use Rattle.jc_plan.specs.Edges.{branches}
use Rattle.jc_plan.specs.Probed.{is_probed, id_of, first_id, probe_count}
use Rattle.jc_plan.proofs.IdsLaws.{ids_within}
use Rattle.jc_plan.proofs.OneWayLaws.{firsts_rise}
use Rattle.jc_emit.specs.Marks.{Marks}
use Rattle.jc_twin_programs.specs.TwinProgram.{TwinProgram}
use Rattle.jc_cover.specs.declared.coverage.Coverage.{Coverage}
use Rattle.jc_cover.specs.Covered.{is_hit, hits_or_none, IsChain, Covered, TellsCovered}
use Rattle.jc_cover.specs.Marking.{coverage_of}
use Rattle.jc_cover.proofs.CoverageLaws.{tells}
use Rattle.jc_exec.specs.declared.hits.ClassHits.{ClassHits}
use Rattle.jc_exec.specs.Writing.{is_hit as has_hit}
use Rattle.jc_pool.specs.Lookup.{class_name_of}
use Rattle.jc_class.specs.ClassId.{class_id}
use Rattle.jc_class.specs.ClassText.{ClassText}
use Rattle.jc_class.specs.declared.class_file.ClassFile.{ClassFile}
use Rattle.jc_instrument.specs.Analysis.{super_name_of}
use Rattle.jc_report.specs.declared.row.Counted.{Counted}
use Rattle.jc_link_programs.specs.Pairs.{HaveOneId, NoPair, id_of as class_id_of}
use Rattle.jc_machine_model.specs.Methods.{declares_init}
use Rattle.jc_machine_model.specs.Run.{hits_of}
use Rattle.jc_twin_simulation.specs.Marking.{AreMarks}
use Rattle.jc_twin_exact.specs.Exact.{HaveEntries}
use Rattle.jc_twin_exact.proofs.ReportedLaws.{reported_edges}
use Rattle.jc_command_classes.specs.Report.{ReportedFile, refused_class, unchanged_class, changed_class, IsItem, is_refused, is_unchanged, is_changed, AreItems, changed_of, record_of, first_of_each_id, hits_of as hits_in, frameless}
use Rattle.jc_command_classes.specs.ReportSteps.{counted_of, counted_by}
use Rattle.jc_command_classes.proofs.FramelessLaws.{same_counted}
use Rattle.jc_command_run.specs.RunStore.{is_hit_in, hit_record, run_store}
use Rattle.jc_headline.specs.Headline.{bits_of, IsRow, RowsBy, AreRowsFrom}
use Rattle.jc_headline.proofs.RecordLaws.{tail_pairs, id_key, hit_there, same_hits}
use Rattle.jc_headline.proofs.FactLaws.{ChangedFacts, FileFacts, AreFacts}
use Rattle.jc_headline.proofs.HitLaws.{bits_in, all_bits, bit_at, bits_tell, class_bits, first_range_at}

-- ---- coverage by bits that are equal at the ids of a class

module _ (b : Body) (first : ℕ) (hits others : List Bool)
    (same : (x : Branch) → Contains (branches b.code) x → is_probed b x ≡ true → is_hit hits (id_of b first x) ≡ is_hit others (id_of b first x)) where
  chain_there : (xs : List Branch) → IsChain b first hits xs → IsChain b first others xs
  chain_there [] chain = chain
  chain_there (x ∷ []) chain = (chain.0, (chain.1.0, sym (same x chain.0 chain.1.0) ∙ chain.1.1))
  chain_there (x ∷ y ∷ rest) chain = (chain.0, chain.1, chain_there (y ∷ rest) chain.2)

  covered_there : (x : Branch) → Covered b first hits x → Covered b first others x
  covered_there x c = (c.0, chain_there (x ∷ c.0) c.1)

-- the ids of a body are below the number of the class's probes
pub ids_below : (bodies : List Body) (n : ℕ) (b : Body) (x : Branch) → slice_get bodies n ≡ Some b → Contains (branches b.code) x → is_probed b x ≡ true
    → id_of b (first_id bodies n) x < sum_by probe_count bodies
ids_below bodies n b x at listed probed =
    let within = (ids_within b (first_id bodies n) x listed probed).1 in
    let rise = firsts_rise bodies n (length bodies) b (slice_get_within bodies n b at) at in
    let whole : first_id bodies (length bodies) ≡ sum_by probe_count bodies = ap (sum_by probe_count) (take-length bodies) in
    omega (arith, within, rise, whole)

tells_there : (bodies : List Body) (hits others : List Bool) (coverage : Coverage) → ((id : ℕ) → id < sum_by probe_count bodies → is_hit hits id ≡ is_hit others id)
    → TellsCovered bodies hits coverage → TellsCovered bodies others coverage
tells_there bodies hits others coverage same t = record {
  shape = t.shape;
  values =
      λ n i k b insn x at insn_at branch_at.
      let v = t.values n i k b insn x at insn_at branch_at in
      let here = λ (y : Branch) (listed : Contains (branches b.code) y) (probed : is_probed b y ≡ true). same (id_of b (first_id bodies n) y) (ids_below bodies n b y at listed probed) in (
        v.0,
        v.1,
        (
          λ e. covered_there b (first_id bodies n) hits others here x (v.2.0 e),
          λ c. v.2.1 (covered_there b (first_id bodies n) others hits (λ y listed probed. sym (here y listed probed)) x c),
        ),
      );
}

-- ---- ids of changed classes

-- a linked class with the id of a class that has a row
abbrev HasThatId : List Linked → Analysed → Type 0
HasThatId ns a = (i : ℕ) × (n : Linked) × (slice_get ns i ≡ Some n) × (class_id_of n ≡ Some a.id)

fact_id : (l n : Linked) (a : Analysed) → ChangedFacts l n a → class_id_of n ≡ Some a.id
fact_id l n a f = ap id_key f.probes ∙ ap Some f.id

moved_id : (n : Linked) (ns : List Linked) (a : Analysed) → HasThatId ns a → HasThatId (n ∷ ns) a
moved_id n ns a h = (suc h.0, h.1, h.2, h.3)

ids_there : (ls ns : List Linked) (items : List ReportedFile) → AreFacts ls ns items → (a : Analysed) → Contains (changed_of items) a → HasThatId ns a
ids_there [] [] [] facts a there = absurd (none_in a there)
ids_there [] [] (i ∷ items) facts a there = absurd facts
ids_there [] (n ∷ ns) items facts a there = absurd facts
ids_there (l ∷ ls) [] items facts a there = absurd facts
ids_there (l ∷ ls) (n ∷ ns) [] facts a there = absurd facts
ids_there (l ∷ ls) (n ∷ ns) (refused_class why ∷ items) facts a there = absurd facts.0
ids_there (l ∷ ls) (n ∷ ns) (unchanged_class ∷ items) facts a there = moved_id n ns a (ids_there ls ns items facts.1 a there)
ids_there (l ∷ ls) (n ∷ ns) (changed_class c ∷ items) facts a there = by (which_in c (changed_of items) a there) (ids_there ls ns items facts.1 a)
  where
    by : (c ≡ a) ⊎ Contains (changed_of items) a → (Contains (changed_of items) a → HasThatId ns a) → HasThatId (n ∷ ns) a
    by (inl same) later = (zero, n, refl, subst (λ (x : Analysed). class_id_of n ≡ Some x.id) same (fact_id l n c facts.0))
    by (inr behind) later = moved_id n ns a (later behind)

keeps_all : (id : ℕ) (xs : List Analysed) → ((a : Analysed) → Contains xs a → id ≡ a.id → ⊥) → filter (λ (b : Analysed). not (nat_eq id b.id)) xs ≡ xs
keeps_all id [] none = refl
keeps_all id (x ∷ xs) none = by (nat_eq id x.id) refl (keeps_all id xs (λ a there. none a (later_in x xs a there)))
  where
    by : (t : Bool) → nat_eq id x.id ≡ t → filter (λ (b : Analysed). not (nat_eq id b.id)) xs ≡ xs
        → cond (not t) (x ∷ filter (λ (b : Analysed). not (nat_eq id b.id)) xs) (filter (λ (b : Analysed). not (nat_eq id b.id)) xs) ≡ x ∷ xs
    by true e later = absurd (none x (first_in x xs) (eqb-true id x.id e))
    by false e later = ap (λ (l : List Analysed). x ∷ l) later

-- no two of them have one id, so none is left out
pub none_left_out : (ls ns : List Linked) (items : List ReportedFile) → NoPair (HaveOneId ns) → AreFacts ls ns items → first_of_each_id (changed_of items) ≡ changed_of items
none_left_out [] [] [] none facts = refl
none_left_out [] [] (i ∷ items) none facts = absurd facts
none_left_out [] (n ∷ ns) items none facts = absurd facts
none_left_out (l ∷ ls) [] items none facts = absurd facts
none_left_out (l ∷ ls) (n ∷ ns) [] none facts = absurd facts
none_left_out (l ∷ ls) (n ∷ ns) (refused_class why ∷ items) none facts = absurd facts.0
none_left_out (l ∷ ls) (n ∷ ns) (unchanged_class ∷ items) none facts = none_left_out ls ns items (tail_pairs n ns none) facts.1
none_left_out (l ∷ ls) (n ∷ ns) (changed_class c ∷ items) none facts =
    ap (λ (xs : List Analysed). c ∷ filter (λ (b : Analysed). not (nat_eq c.id b.id)) xs) (none_left_out ls ns items (tail_pairs n ns none) facts.1)
    ∙ ap (λ (xs : List Analysed). c ∷ xs) (keeps_all c.id (changed_of items) other)
  where
    other : (a : Analysed) → Contains (changed_of items) a → c.id ≡ a.id → ⊥
    other a there same =
        let h = ids_there ls ns items facts.1 a there in
        none zero (suc h.0) (omega arith) (record {
          a = n;
          b = h.1;
          shared = c.id;
          first_is = refl;
          second_is = h.2;
          first_key = fact_id l n c facts.0;
          second_key = h.3 ∙ ap Some (sym same);
        })

-- ---- who the class of a file is

abbrev pub Described : List ℕ → ReportedFile → Type 0
Described bytes (refused_class why) = Unit {0}
Described bytes unchanged_class = Unit {0}
Described bytes (changed_class a) =
    (file : ClassFile) × ClassText bytes file × (a.id ≡ class_id bytes) × (a.super_name ≡ super_name_of file.pool file.super_class)
    × (map Some a.interfaces ≡ map (class_name_of file.pool) file.interfaces)

described : (bytes : List ℕ) (item : ReportedFile) → IsItem bytes item → Described bytes item
described bytes _ (is_refused why reason) = tt
described bytes _ (is_unchanged a is alone) = tt
described bytes _ (is_changed a is alone) = (is.file, is.text, is.described.id, is.described.super_name, is.described.interfaces)

-- ---- the rows

module _ (before after : Program) (marks : Entry → Marks) (plan : RunPlan) (twins : TwinProgram before after) (are_marks : AreMarks before after marks)
    (entries : HaveEntries before plan) (ids : NoPair (HaveOneId after.classes)) where
  abbrev records : List ClassHits
  records = (run_store after plan).classes

  module _ (k : ℕ) (l n : Linked) (a : Analysed) (l_at : slice_get before.classes k ≡ Some l) (n_at : slice_get after.classes k ≡ Some n) (f : ChangedFacts l n a)
      (bytes : List ℕ) (item : IsItem bytes (changed_class a)) where
    bits : List Bool
    bits = slice_index_or (bits_of after plan) k []

    bits_are : bits ≡ bits_in (hits_of after plan) f.init.count k
    unfolding bits
    bits_are = class_bits after plan k n f.init n_at f.probes

    abbrev own : ClassHits
    own = hit_record (hits_of after plan) k n f.init

    -- the hits of its record, if it has one
    found : Option (List Bool)
    found = hits_in records a

    found_is : found ≡ option_map (λ (r : ClassHits). r.bits) (cond (has_hit own) (Some own) None)
    unfolding found
    found_is =
        ap (option_map (λ (r : ClassHits). r.bits))
        (ap (λ (id : ℕ). record_of records id) (sym f.id) ∙ hit_there (hits_of after plan) after.classes ids k n f.init n_at f.probes)

    found_bit : (id : ℕ) → is_hit (hits_or_none found) id ≡ is_hit bits id
    found_bit id =
        ap (λ (o : Option (List Bool)). is_hit (hits_or_none o) id) found_is ∙ same_hits own (has_hit own) refl id
        ∙ ap (λ (b : List Bool). is_hit b id) (sym bits_are)

    row : Counted
    row = counted_by records a

    -- the class of the row, with the bodies of the linked class
    abbrev as_linked : Analysed
    as_linked = record a { bodies = l.bodies }

    without : a ≡ frameless as_linked
    without = ap (λ (bodies : List Body). record a { bodies = bodies }) f.bodies

    row_is : row ≡ counted_of found as_linked
    unfolding row found
    row_is = ap (counted_of (hits_in records a)) without ∙ same_counted (hits_in records a) as_linked

    abbrev coverage : Coverage
    coverage = coverage_of l.bodies (hits_or_none found)

    bit_is : (id : ℕ) → id < sum_by probe_count l.bodies → is_hit bits id ≡ is_hit (slice_index_or (all_bits (hits_of after plan)) k []) id
    bit_is id less =
        let count = f.count in
        ap (λ (b : List Bool). is_hit b id) bits_are ∙ first_range_at (is_hit_in (hits_of after plan) k) f.init.count id false (omega (arith, less, count))
        ∙ sym (bit_at (hits_of after plan) k id)

    told : TellsCovered l.bodies bits coverage
    told = tells_there l.bodies (hits_or_none found) bits coverage (λ id less. found_bit id) (tells l.bodies (hits_or_none found))

    who : Described bytes (changed_class a)
    who = described bytes (changed_class a) item

    pub row_there : IsRow before after marks plan k bytes l (counted_by records a)
    unfolding row bits
    row_there = record {
      id = ap (λ (c : Counted). c.id) row_is ∙ who.2;
      name = ap (λ (c : Counted). c.name) row_is ∙ f.name;
      file = who.0;
      text = who.1;
      super_name = ap (λ (c : Counted). c.super_name) row_is ∙ who.3;
      interfaces = ap (λ (c : Counted). map Some c.interfaces) row_is ∙ who.4;
      coverage = coverage;
      tells = told;
      counters = ap (λ (c : Counted). c.counters) row_is;
      reported =
          reported_edges before after plan marks twins are_marks entries (all_bits (hits_of after plan)) (bits_tell after plan) k l l_at (n, n_at, f.declares) coverage
          (tells_there l.bodies bits (slice_index_or (all_bits (hits_of after plan)) k []) coverage bit_is told);
    }

  pub rows_there : (k : ℕ) (os : List (List ℕ)) (ls ns : List Linked) (items : List ReportedFile)
      → ((i : ℕ) (l : Linked) → slice_get ls i ≡ Some l → slice_get before.classes (k + i) ≡ Some l)
      → ((i : ℕ) (n : Linked) → slice_get ns i ≡ Some n → slice_get after.classes (k + i) ≡ Some n) → AreFacts ls ns items → AreItems os items
      → AreRowsFrom before after marks plan k os ls ns (map (counted_by records) (changed_of items))
  rows_there k [] [] [] [] ls_at ns_at facts are = refl
  rows_there k (o ∷ os) ls ns [] ls_at ns_at facts are = absurd are
  rows_there k [] ls ns (i ∷ items) ls_at ns_at facts are = absurd are
  rows_there k [] [] (n ∷ ns) [] ls_at ns_at facts are = absurd facts
  rows_there k [] (l ∷ ls) [] [] ls_at ns_at facts are = absurd facts
  rows_there k [] (l ∷ ls) (n ∷ ns) [] ls_at ns_at facts are = absurd facts
  rows_there k (o ∷ os) [] [] (i ∷ items) ls_at ns_at facts are = absurd facts
  rows_there k (o ∷ os) [] (n ∷ ns) (i ∷ items) ls_at ns_at facts are = absurd facts
  rows_there k (o ∷ os) (l ∷ ls) [] (i ∷ items) ls_at ns_at facts are = absurd facts
  rows_there k (o ∷ os) (l ∷ ls) (n ∷ ns) (item ∷ items) ls_at ns_at facts are =
      by item facts.0 are.0 (rows_there (k + 1) os ls ns items
      (λ i x at. let e : (k + 1) + i ≡ k + suc i = omega arith in ap (slice_get before.classes) e ∙ ls_at (suc i) x at)
      (λ i x at. let e : (k + 1) + i ≡ k + suc i = omega arith in ap (slice_get after.classes) e ∙ ns_at (suc i) x at) facts.1 are.1)
    where
      Behind : List Counted → Type 0
      Behind = AreRowsFrom before after marks plan (k + 1) os ls ns

      here : (t : Bool) → declares_init n ≡ t → (rows : List Counted) → RowsBy before after marks plan t k o l Behind rows
          → RowsBy before after marks plan (declares_init n) k o l Behind rows
      here t e rows is = subst (λ (s : Bool). RowsBy before after marks plan s k o l Behind rows) (sym e) is

      by : (i : ReportedFile) → FileFacts l n i → IsItem o i → Behind (map (counted_by records) (changed_of items))
          → RowsBy before after marks plan (declares_init n) k o l Behind (map (counted_by records) (changed_of (i ∷ items)))
      by (refused_class why) f is later = absurd f
      by unchanged_class f is later = here false f (map (counted_by records) (changed_of items)) later
      by (changed_class a) f is later =
          let e : k + 0 ≡ k = omega arith in
          here true f.declares (counted_by records a ∷ map (counted_by records) (changed_of items)) (
            counted_by records a,
            map (counted_by records) (changed_of items),
            refl,
            row_there k l n a (ap (slice_get before.classes) (sym e) ∙ ls_at zero l refl) (ap (slice_get after.classes) (sym e) ∙ ns_at zero n refl) f o is,
            later,
          )
