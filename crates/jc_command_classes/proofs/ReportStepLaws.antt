-- The class files of a command are looked at one after the other.
use Rattle.std.proofs.Common.{◌≡◌, ◌≢◌, inl, inr, ℕ, zero, suc, ◌+◌, ◌<◌, ◌≤◌, Bool, true, false, not, cond, List, [], ◌∷◌, ◌++◌, length, get_or, map, filter, Option, None, Some, Result, Ok, Err, IfOk, IfErr, Bor, Contains, nat_eq, option_map, refl, sym, ◌∙◌, ap, ap₂, subst, arith}
use Rattle.std.specs.List.{AllZip, find}
use Rattle.std.specs.Map.{lookup}
use Rattle.std.specs.Option.{option_or, IfSome, IsSomeAnd}
use Rattle.std.specs.Cmp.{nat_eq_equiv}
use Rattle.std.proofs.lemmas.Bool.{and_parts, eqb-true, eq-eqb}
use Rattle.std.specs.Str.{bytes_eq}
use Rattle.std.proofs.lemmas.List.{length-map}
use Rattle.std.proofs.lemmas.Slice.Zip.{AllZip-map}
use Rattle.jc_methods.specs.declared.analysed.Analysed.{Analysed}
use Rattle.jc_methods.specs.declared.body.Body.{Body}
use Rattle.jc_bytes.specs.declared.fail.Fail.{Fail}
use Rattle.jc_bytes.specs.declared.fail.Fail.TheVariants as fails
use Rattle.jc_bytes.specs.declared.refusal.Refusal.{Refusal}
use Rattle.jc_exec.specs.declared.hits.ClassHits.{ClassHits}
use Rattle.jc_exec.specs.declared.refusal.ExecRefusal.{ExecRefusal}
use Rattle.jc_exec.specs.Answers.{conflict_with}
use Rattle.jc_exec.specs.Store.{entries_of}
use Rattle.jc_exec.specs.Union.{fits}
use Rattle.jc_instrument.specs.Analysis.{IsAnalysis}
use Rattle.jc_instrument.specs.LeftAlone.{is_left_alone}
use Rattle.jc_instrument.specs.Reasons.{AnalysisReason}
use Rattle.jc_bytes.specs.Failing.{Said}
use Rattle.jc_report.specs.declared.row.Counted.{Counted}
use Rattle.jc_command_classes.specs.declared.covered_class.CoveredClass.{CoveredClass}
use Rattle.jc_command_classes.specs.declared.kept.Kept.{Kept}
use Rattle.jc_command_classes.specs.declared.kept.Seen.{Seen}
use Rattle.jc_command_classes.specs.declared.kept.Seen.TheVariants as seens
use Rattle.jc_command_work.specs.declared.stop.Stop.{Stop}
use Rattle.jc_command_work.specs.declared.stop.Stop.TheVariants as stops
use Rattle.jc_command_classes.specs.Kept.{refused_lines, changes_of, first_of_each, KeepsAll, StopsFirst}
use Rattle.jc_command_classes.specs.Lines.{refused_line}
use Rattle.jc_command_classes.specs.Report.{frameless, ReportedFile, refused_class, unchanged_class, changed_class, IsItem, is_refused, is_unchanged, is_changed, AreItems, lines_of, changed_of}
use Rattle.jc_command_classes.specs.Report.{record_of, clash_with, clash_of, first_clash, first_of_each_id, counted_with}
use Rattle.jc_command_classes.specs.ReportSteps.{counted_by, covered_class, IsCoveredClass, IsCountedBy, StopsAtClash, IsSeenAs, IsSeen, SeesClass, ClassClashes, FileClashes, IsLooked}
use Rattle.jc_command_classes.specs.ReportSteps.{LooksAs, LooksAtAll, FrontClashes}
use Rattle.jc_command_work.specs.Step.{Word, to_err}
use Rattle.jc_command_classes.proofs.FramelessLaws.{same_counted}
use Rattle.jc_command_classes.proofs.ReportLaws.{left_alone_has_none, changed_has_some}

-- ---- the record of an id

find_some : {X : Type 0} (p : X → Bool) (xs : List X) (x : X) → find p xs ≡ Some x → Contains xs x × (p x ≡ true)
find_some p [] x e = absurd cc
find_some {X} p (y ∷ ys) x e = by (p y) refl e (find_some p ys x)
  where
    by : (t : Bool) → p y ≡ t → cond t (Some y) (find p ys) ≡ Some x → (find p ys ≡ Some x → Contains ys x × (p x ≡ true)) → Contains (y ∷ ys) x × (p x ≡ true)
    by true is e rest = let same : y ≡ x = cc in ((0, omega arith, same), ap p (sym same) ∙ is)
    by false is e rest =
        let r = rest e in
        let within = r.0.1 in
        ((suc r.0.0, omega (arith, within), r.0.2), r.1)

find_none : {X : Type 0} (p : X → Bool) (xs : List X) (k : ℕ) (x : X) → find p xs ≡ None → k < length xs → get_or xs k x ≡ x → p x ≡ false
find_none p [] k x e within at = absurd (omega (arith, within))
find_none {X} p (y ∷ ys) k x e within at = by (p y) refl e k within at (find_none p ys)
  where
    by : (t : Bool) → p y ≡ t → cond t (Some y) (find p ys) ≡ None → (k : ℕ) → k < length (y ∷ ys) → get_or (y ∷ ys) k x ≡ x
        → ((j : ℕ) (z : X) → find p ys ≡ None → j < length ys → get_or ys j z ≡ z → p z ≡ false) → p x ≡ false
    by true is e k within at rest = absurd cc
    by false is e zero within at rest = ap p (sym at) ∙ is
    by false is e (suc k) within at rest = rest k x e (omega (arith, within)) at

-- the record that a store gives is the record of the id
pub record_found : (records : List ClassHits) (id : ℕ) (r : Option (Bor ClassHits)) → IfSome r (λ c. Contains records c.now × (c.now.id ≡ id))
    → ((c : ClassHits) → Contains records c → c.id ≡ id → IsSomeAnd r (λ d. d.now ≡ c)) → option_map (λ c. c.now) r ≡ record_of records id
record_found records id r found only = by (record_of records id) refl r found only
  where
    by : (o : Option ClassHits) → record_of records id ≡ o → (r : Option (Bor ClassHits)) → IfSome r (λ c. Contains records c.now × (c.now.id ≡ id))
        → ((c : ClassHits) → Contains records c → c.id ≡ id → IsSomeAnd r (λ d. d.now ≡ c)) → option_map (λ c. c.now) r ≡ o
    by None is None found only = refl
    by None is (Some c) found only =
        let none : nat_eq c.now.id id ≡ false = find_none (λ r. nat_eq r.id id) records found.0.0 c.now is found.0.1 found.0.2 in
        absurd (differ (sym (eq-eqb c.now.id id found.1) ∙ none))
      where
        differ : true ≡ false → ⊥
        differ e = cc
    by (Some d) is None found only = let has = find_some (λ r. nat_eq r.id id) records d is in absurd (only d has.0 (eqb-true d.id id has.1))
    by (Some d) is (Some c) found only =
        let has = find_some (λ r. nat_eq r.id id) records d is in
        ap (λ (x : ClassHits). let o : Option ClassHits = Some x in o) (only d has.0 (eqb-true d.id id has.1))

-- the record under its id is the record of the id
pub looked_up : (records : List ClassHits) (id : ℕ) → lookup (nat_eq id) (entries_of records) ≡ record_of records id
looked_up [] id = refl
looked_up (r ∷ records) id = ap₂ (λ (t : Bool) (rest : Option ClassHits). cond t (Some r) rest) (nat_eq_equiv.symm id r.id) (looked_up records id)

-- what a record that fits says of its count
pub fit_count : (a : Analysed) (r : Option ClassHits) → clash_with a r ≡ None → IfSome r (λ c. length c.bits ≡ a.probes)
fit_count a None fit = tt
fit_count a (Some c) fit = by (fits c a.name a.probes) refl fit
  where
    by : (t : Bool) → fits c a.name a.probes ≡ t → cond t None (Some (conflict_with c a.id a.name a.probes)) ≡ None → length c.bits ≡ a.probes
    by true is none = eqb-true (length c.bits) a.probes (and_parts (bytes_eq c.name a.name) (nat_eq (length c.bits) a.probes) is).1
    by false is none = absurd cc

-- the hits of a record
pub record_hits : (o : Option ClassHits) (r : Option (Bor ClassHits)) → option_map (λ c. c.now) r ≡ o → option_map (λ c. c.now.bits) r ≡ option_map (λ c. c.bits) o
record_hits o None is = ap (option_map (λ (c : ClassHits). c.bits)) is
record_hits o (Some c) is = ap (option_map (λ (c : ClassHits). c.bits)) is

-- what is said of a class file is why it is refused
pub said_why : (e : Fail Refusal) (why : Refusal) (P : Refusal → Type 0) → e ≡ fails.Said why → Said e P → P why
said_why fails.Memory why P is said = absurd cc
said_why (fails.Said other) why P is said = let same : other ≡ why = cc in subst P same said

-- they are as many as the bits of the record
pub same_bits_count : (o : Option ClassHits) (r : Option (Bor (List Bool))) (n : ℕ) → option_map (λ b. b.now) r ≡ option_map (λ c. c.bits) o
    → IfSome o (λ c. length c.bits ≡ n) → IfSome r (λ b. length b.now ≡ n)
same_bits_count o None n is many = tt
same_bits_count None (Some b) n is many = absurd cc
same_bits_count (Some c) (Some b) n is many = let same : b.now ≡ c.bits = cc in ap length same ∙ many

-- ---- clashes

class_clashes : (records : List ClassHits) (a : Analysed) (bodies : List Body) (refusal : ExecRefusal) → ClassClashes records a bodies refusal
    → (bodies ≢ []) × (clash_with a (record_of records a.id) ≡ Some refusal)
class_clashes records a [] refusal clash = absurd clash
class_clashes records a (b ∷ bodies) refusal clash = ((λ e. cc), clash)

file_clashes : (records : List ClassHits) (bytes : List ℕ) (a : Analysed) → IsAnalysis bytes a → (refusal : ExecRefusal)
    → ClassClashes records a a.bodies refusal → FileClashes records bytes refusal
file_clashes records bytes a is refusal clash = by (is_left_alone is.file) refl
  where
    by : (t : Bool) → is_left_alone is.file ≡ t → FileClashes records bytes refusal
    by true alone = absurd ((class_clashes records a a.bodies refusal clash).0 (left_alone_has_none bytes a is alone))
    by false code = (changed_class (frameless a), is_changed a is code, (class_clashes records a a.bodies refusal clash).1)

-- a clash stops for whatever follows from it
stops_for : (path : Option Word) (P Q : ExecRefusal → Type 0) → ((r : ExecRefusal) → P r → Q r) → (stop : Stop) → StopsAtClash path P stop → StopsAtClash path Q stop
stops_for path P Q f stops.Memory stop = tt
stops_for path P Q f (stops.Refused file fault) stop = (stop.0, stop.1, stop.2, f stop.0 stop.3)
stops_for path P Q f (stops.Read p) stop = absurd stop
stops_for path P Q f (stops.Write p) stop = absurd stop
stops_for path P Q f stops.Output stop = absurd stop
stops_for path P Q f (stops.Clash fault line) stop = absurd stop

-- ---- one class file

-- what is seen of a class is what is seen of its class file
sees_class : (records : List ClassHits) (bytes : List ℕ) (a : Analysed) → IsAnalysis bytes a → (seen : Seen CoveredClass) → SeesClass records a a.bodies seen
    → IsSeen (IsCoveredClass records) records bytes seen
sees_class records bytes a is seen sees = by (is_left_alone is.file) refl
  where
    by_bodies : (bodies : List Body) → bodies ≢ [] → SeesClass records a bodies seen
        → (clash_with a (record_of records a.id) ≡ None) × (seen ≡ seens.Changed a.id (covered_class records a))
    by_bodies [] some sees = absurd (some refl)
    by_bodies (b ∷ bodies) some sees = sees

    by : (t : Bool) → is_left_alone is.file ≡ t → IsSeen (IsCoveredClass records) records bytes seen
    by true alone =
        let none = subst (λ (bs : List Body). SeesClass records a bs seen) (left_alone_has_none bytes a is alone) sees in
        record { item = unchanged_class; is = is_unchanged a is alone; fits = refl; as_is = subst (IsSeenAs (IsCoveredClass records) unchanged_class) (sym none) tt }
    by false code =
        let both = by_bodies a.bodies (changed_has_some bytes a is code) sees in
        record {
          item = changed_class (frameless a);
          is = is_changed a is code;
          fits = both.0;
          as_is = subst (IsSeenAs (IsCoveredClass records) (changed_class (frameless a))) (sym both.1) (refl, (refl, refl));
        }

pub looked_class : (records : List ClassHits) (path : Option Word) (bytes : List ℕ) (a : Analysed) → IsAnalysis bytes a → (r : Result (Seen CoveredClass) Stop)
    → IfOk r (SeesClass records a a.bodies) → IfErr r (StopsAtClash path (ClassClashes records a a.bodies)) → IsLooked (IsCoveredClass records) records path bytes r
looked_class records path bytes a is (Ok seen) sees clash = sees_class records bytes a is seen sees
looked_class records path bytes a is (Err stop) sees clash =
    stops_for path (ClassClashes records a a.bodies) (FileClashes records bytes) (file_clashes records bytes a is) stop clash

pub looked_refused : {X : Type 0} (Made : Analysed → X → Type 0) (records : List ClassHits) (bytes : List ℕ) (why : Refusal) → AnalysisReason bytes (Some why)
    → IsSeen Made records bytes (seens.Refused why)
looked_refused Made records bytes why reason = record { item = refused_class why; is = is_refused why reason; fits = refl; as_is = refl }

-- what was made is made into something else
module _ {X Y : Type 0} (Made : Analysed → X → Type 0) (New : Analysed → Y → Type 0) (records : List ClassHits) (bytes : List ℕ) where
  pub seen_refused : (why : Refusal) → IsSeen Made records bytes (seens.Refused why) → IsSeen New records bytes (seens.Refused why)
  seen_refused why seen = by seen.item seen.is seen.fits seen.as_is
    where
      by : (item : ReportedFile) → IsItem bytes item → clash_of records item ≡ None → IsSeenAs Made item (seens.Refused why) → IsSeen New records bytes (seens.Refused why)
      by (refused_class other) is fits as_is = record { item = refused_class other; is = is; fits = fits; as_is = as_is }
      by unchanged_class is fits as_is = absurd as_is
      by (changed_class a) is fits as_is = absurd as_is

  pub seen_unchanged : IsSeen Made records bytes seens.Unchanged → IsSeen New records bytes seens.Unchanged
  seen_unchanged seen = by seen.item seen.is seen.fits seen.as_is
    where
      by : (item : ReportedFile) → IsItem bytes item → clash_of records item ≡ None → IsSeenAs Made item seens.Unchanged → IsSeen New records bytes seens.Unchanged
      by (refused_class other) is fits as_is = absurd as_is
      by unchanged_class is fits as_is = record { item = unchanged_class; is = is; fits = fits; as_is = tt }
      by (changed_class a) is fits as_is = absurd as_is

  pub seen_changed : (id : ℕ) (x : X) (y : Y) → ((a : Analysed) → Made a x → New a y) → IsSeen Made records bytes (seens.Changed id x)
      → IsSeen New records bytes (seens.Changed id y)
  seen_changed id x y f seen = by seen.item seen.is seen.fits seen.as_is
    where
      by : (item : ReportedFile) → IsItem bytes item → clash_of records item ≡ None → IsSeenAs Made item (seens.Changed id x)
          → IsSeen New records bytes (seens.Changed id y)
      by (refused_class other) is fits as_is = absurd as_is
      by unchanged_class is fits as_is = absurd as_is
      by (changed_class a) is fits as_is = record { item = changed_class a; is = is; fits = fits; as_is = (as_is.0, f a as_is.1) }

-- the counters of a class with its coverage are those of the class without frames
pub counted_from : (records : List ClassHits) (a : Analysed) (c : CoveredClass) (counted : Counted) → IsCoveredClass records a c
    → counted ≡ counted_with c.class c.coverage → IsCountedBy records a counted
counted_from records a c counted covered is =
    is
    ∙ ap (λ (d : CoveredClass). counted_with c.class d.coverage) covered.1
    ∙ sym (same_counted (option_map (λ r. r.bits) (record_of records c.class.id)) c.class)
    ∙ ap (counted_by records) (sym covered.0)

-- ---- all class files

module _ {X : Type 0} (Made : Analysed → X → Type 0) (records : List ClassHits) where
  abbrev Change : Analysed → ℕ × X → Type 0
  Change a c = (c.0 ≡ a.id) × Made a c.1

  -- none of the class files clashes, and this was seen of them
  record AreSeen (texts : List (List ℕ)) (seen : List (Seen X)) : Type 0 where
    items : List ReportedFile
    are : AreItems texts items
    none : first_clash records items ≡ None
    lines : (paths : List Word) → lines_of paths items ≡ refused_lines paths seen
    changes : AllZip Change (changed_of items) (changes_of seen)

  seen_put : (t : List ℕ) (ts : List (List ℕ)) (item : ReportedFile) (s : Seen X) (seen : List (Seen X)) → IsItem t item → clash_of records item ≡ None
      → IsSeenAs Made item s → AreSeen ts seen → AreSeen (t ∷ ts) (s ∷ seen)
  seen_put t ts (refused_class why) (seens.Refused said) seen is fits as_is rest = record {
    items = refused_class why ∷ rest.items;
    are = (is, rest.are);
    none = rest.none;
    lines = lines;
    changes = rest.changes;
  }
    where
      lines : (paths : List Word) → lines_of paths (refused_class why ∷ rest.items) ≡ refused_lines paths (seens.Refused said ∷ seen)
      lines [] = refl
      lines (p ∷ ps) = ap₂ (λ (w : Refusal) (ls : List (List ℕ)). refused_line p w ∷ ls) (sym as_is) (rest.lines ps)
  seen_put t ts (refused_class why) seens.Unchanged seen is fits as_is rest = absurd as_is
  seen_put t ts (refused_class why) (seens.Changed id made) seen is fits as_is rest = absurd as_is
  seen_put t ts unchanged_class (seens.Refused said) seen is fits as_is rest = absurd as_is
  seen_put t ts unchanged_class seens.Unchanged seen is fits as_is rest = record {
    items = unchanged_class ∷ rest.items;
    are = (is, rest.are);
    none = rest.none;
    lines = lines;
    changes = rest.changes;
  }
    where
      lines : (paths : List Word) → lines_of paths (unchanged_class ∷ rest.items) ≡ refused_lines paths (seens.Unchanged ∷ seen)
      lines [] = refl
      lines (p ∷ ps) = rest.lines ps
  seen_put t ts unchanged_class (seens.Changed id made) seen is fits as_is rest = absurd as_is
  seen_put t ts (changed_class a) (seens.Refused said) seen is fits as_is rest = absurd as_is
  seen_put t ts (changed_class a) seens.Unchanged seen is fits as_is rest = absurd as_is
  seen_put t ts (changed_class a) (seens.Changed id made) seen is fits as_is rest = record {
    items = changed_class a ∷ rest.items;
    are = (is, rest.are);
    none = ap (λ (o : Option ExecRefusal). option_or o (first_clash records rest.items)) fits ∙ rest.none;
    lines = lines;
    changes = (as_is, rest.changes);
  }
    where
      lines : (paths : List Word) → lines_of paths (changed_class a ∷ rest.items) ≡ refused_lines paths (seens.Changed id made ∷ seen)
      lines [] = refl
      lines (p ∷ ps) = rest.lines ps

  no_lines : (paths : List Word) → lines_of paths [] ≡ refused_lines {X = X} paths []
  no_lines [] = refl
  no_lines (p ∷ ps) = refl

  all_seen : (path : Option Word) (texts : List (List ℕ)) (seen : List (Seen X)) → AllZip (IsLooked Made records path) texts (map Ok seen) → AreSeen texts seen
  all_seen path [] [] zip = record { items = []; are = tt; none = refl; lines = no_lines; changes = tt }
  all_seen path [] (s ∷ seen) zip = absurd zip
  all_seen path (t ∷ ts) [] zip = absurd zip
  all_seen path (t ∷ ts) (s ∷ seen) zip = seen_put t ts zip.0.item s seen zip.0.is zip.0.fits zip.0.as_is (all_seen path ts seen zip.1)

  -- ---- the first of each id

  same_test : (a b : Analysed) (c d : ℕ × X) → Change a c → Change b d → not (nat_eq a.id b.id) ≡ not (nat_eq c.0 d.0)
  same_test a b c d x y = ap₂ (λ (m n : ℕ). not (nat_eq m n)) (sym x.0) (sym y.0)

  filtered : (p : Analysed → Bool) (q : ℕ × X → Bool) → ((a : Analysed) (c : ℕ × X) → Change a c → p a ≡ q c)
      → (classes : List Analysed) (changes : List (ℕ × X)) → AllZip Change classes changes → AllZip Change (filter p classes) (filter q changes)
  filtered p q same [] [] zip = tt
  filtered p q same [] (c ∷ changes) zip = absurd zip
  filtered p q same (a ∷ classes) [] zip = absurd zip
  filtered p q same (a ∷ classes) (c ∷ changes) zip = by (p a) (q c) (same a c zip.0) (filtered p q same classes changes zip.1)
    where
      by : (t u : Bool) → t ≡ u → AllZip Change (filter p classes) (filter q changes)
          → AllZip Change (cond t (a ∷ filter p classes) (filter p classes)) (cond u (c ∷ filter q changes) (filter q changes))
      by true true e rest = (zip.0, rest)
      by true false e rest = absurd cc
      by false true e rest = absurd cc
      by false false e rest = rest

  firsts : (classes : List Analysed) (changes : List (ℕ × X)) → AllZip Change classes changes → AllZip Change (first_of_each_id classes) (first_of_each changes)
  firsts [] [] zip = tt
  firsts [] (c ∷ changes) zip = absurd zip
  firsts (a ∷ classes) [] zip = absurd zip
  firsts (a ∷ classes) (c ∷ changes) zip = (
    zip.0,
    filtered (λ b. not (nat_eq a.id b.id)) (λ d. not (nat_eq c.0 d.0)) (λ b d x. same_test a b c d zip.0 x)
        (first_of_each_id classes) (first_of_each changes) (firsts classes changes zip.1),
  )

  what_made : (classes : List Analysed) (changes : List (ℕ × X)) → AllZip Change classes changes → AllZip Made classes (map (λ c. c.1) changes)
  what_made [] [] zip = tt
  what_made [] (c ∷ changes) zip = absurd zip
  what_made (a ∷ classes) [] zip = absurd zip
  what_made (a ∷ classes) (c ∷ changes) zip = (zip.0.1, what_made classes changes zip.1)

  -- ---- the command goes on, or stops

  module _ (path : Option Word) (paths : List Word) (texts : List (List ℕ)) (answers : List (Result (Seen X) Stop)) (zip : AllZip (IsLooked Made records path) texts answers) where
    pub looks_as : (kept : Kept X) → KeepsAll paths answers kept → LooksAs Made records paths texts kept
    looks_as kept (seen, are, kept_of) =
        let all = all_seen path texts seen (subst (λ (l : List (Result (Seen X) Stop)). AllZip (IsLooked Made records path) texts l) are zip) in
        let made = what_made (first_of_each_id (changed_of all.items)) (first_of_each (changes_of seen)) (firsts (changed_of all.items) (changes_of seen) all.changes) in (
          all.items,
          all.are,
          all.none,
          kept_of.lines ∙ ap (map to_err) (sym (all.lines paths)),
          subst (λ (l : List X). AllZip Made (first_of_each_id (changed_of all.items)) l) (sym kept_of.made) made,
        )

  first_stop : (path : Option Word) (texts : List (List ℕ)) (seen : List (Seen X)) (stop : Stop) (rest : List (Result (Seen X) Stop))
      → AllZip (IsLooked Made records path) texts (map Ok seen ++ Err stop ∷ rest) → StopsAtClash path (FrontClashes records texts) stop
  first_stop path [] [] stop rest zip = absurd zip
  first_stop path [] (s ∷ seen) stop rest zip = absurd zip
  first_stop path (t ∷ ts) [] stop rest zip =
      stops_for path (FileClashes records t) (FrontClashes records (t ∷ ts))
      (λ r c. (1, c.0 ∷ [], (c.1, tt), ap (λ (o : Option ExecRefusal). option_or o None) c.2)) stop zip.0
  first_stop path (t ∷ ts) (s ∷ seen) stop rest zip =
      stops_for path (FrontClashes records ts) (FrontClashes records (t ∷ ts))
      (λ r c. (
        suc c.0,
        zip.0.item ∷ c.1,
        (zip.0.is, c.2),
        ap (λ (o : Option ExecRefusal). option_or o (first_clash records c.1)) zip.0.fits ∙ c.3,
      )) stop (first_stop path ts seen stop rest zip.1)

  pub looks_stop : (path : Option Word) (texts : List (List ℕ)) (answers : List (Result (Seen X) Stop)) (stop : Stop)
      → AllZip (IsLooked Made records path) texts answers → StopsFirst answers stop → StopsAtClash path (FrontClashes records texts) stop
  looks_stop path texts answers stop zip (inl memory) = subst (StopsAtClash path (FrontClashes records texts)) (sym memory) tt
  looks_stop path texts answers stop zip (inr (seen, rest, are)) =
      first_stop path texts seen stop rest (subst (λ (l : List (Result (Seen X) Stop)). AllZip (IsLooked Made records path) texts l) are zip)

-- what is kept of all class files, or how the first of them that stops the command does
module _ {X : Type 0} (Made : Analysed → X → Type 0) (records : List ClassHits) (path : Option Word) (paths : List Word) (texts : List (List ℕ))
    (answers : List (Result (Seen X) Stop)) (zip : AllZip (IsLooked Made records path) texts answers) where
  pub all_look : (r : Result (Kept X) Stop) → IfOk r (KeepsAll paths answers) → IfOk r (LooksAs Made records paths texts)
  all_look (Ok kept) keeps = looks_as Made records path paths texts answers zip kept keeps
  all_look (Err stop) keeps = tt

  pub all_stop : (r : Result (Kept X) Stop) → IfErr r (StopsFirst answers) → IfErr r (StopsAtClash path (FrontClashes records texts))
  all_stop (Ok kept) first = tt
  all_stop (Err stop) first = looks_stop Made records path texts answers stop zip first

-- what is kept of a report
pub report_looks : (records : List ClassHits) (paths : List Word) (texts : List (List ℕ)) (kept : Kept Counted) → LooksAs (IsCountedBy records) records paths texts kept
    → LooksAtAll records paths texts kept
report_looks records paths texts kept (items, are, none, lines, made) =
    (items, are, none, record { lines = lines; made = AllZip-map (counted_by records) (first_of_each_id (changed_of items)) kept.made.items made })

-- ---- how many classes there are

as_many_items : (ts : List (List ℕ)) (items : List ReportedFile) → AreItems ts items → length ts ≡ length items
as_many_items [] [] are = refl
as_many_items [] (i ∷ items) are = absurd are
as_many_items (t ∷ ts) [] are = absurd are
as_many_items (t ∷ ts) (i ∷ items) are = let rest = as_many_items ts items are.1 in omega (arith, rest)

few_changed : (items : List ReportedFile) → length (changed_of items) ≤ length items
few_changed [] = omega arith
few_changed (refused_class why ∷ items) = let rest = few_changed items in omega (arith, rest)
few_changed (unchanged_class ∷ items) = let rest = few_changed items in omega (arith, rest)
few_changed (changed_class a ∷ items) = let rest = few_changed items in omega (arith, rest)

few_passed : (p : Analysed → Bool) (classes : List Analysed) → length (filter p classes) ≤ length classes
few_passed p [] = omega arith
few_passed p (a ∷ classes) = by (p a) (few_passed p classes)
  where
    by : (t : Bool) → length (filter p classes) ≤ length classes → length (cond t (a ∷ filter p classes) (filter p classes)) ≤ length (a ∷ classes)
    by true rest = omega (arith, rest)
    by false rest = omega (arith, rest)

few_firsts : (classes : List Analysed) → length (first_of_each_id classes) ≤ length classes
few_firsts [] = omega arith
few_firsts (a ∷ classes) =
    let rest = few_firsts classes in
    let passed = few_passed (λ b. not (nat_eq a.id b.id)) (first_of_each_id classes) in
    omega (arith, rest, passed)

-- there are at most as many counted classes as class files
pub few_kept : (records : List ClassHits) (paths : List Word) (texts : List (List ℕ)) (kept : Kept Counted) → length texts ≡ length paths
    → LooksAtAll records paths texts kept → length kept.made.items ≤ length paths
few_kept records paths texts kept same (items, are, none, report) =
    let classes = first_of_each_id (changed_of items) in
    let many : length kept.made.items ≡ length classes = ap length report.made ∙ length-map classes (counted_by records) in
    let firsts = few_firsts (changed_of items) in
    let changed = few_changed items in
    let each = as_many_items texts items are in
    omega (arith, many, firsts, changed, each, same)

pub report_all : (records : List ClassHits) (paths : List Word) (texts : List (List ℕ)) (r : Result (Kept Counted) Stop)
    → IfOk r (LooksAs (IsCountedBy records) records paths texts) → IfOk r (LooksAtAll records paths texts)
report_all records paths texts (Ok kept) looks = report_looks records paths texts kept looks
report_all records paths texts (Err stop) looks = tt

pub report_few : (records : List ClassHits) (paths : List Word) (texts : List (List ℕ)) → length texts ≡ length paths → (r : Result (Kept Counted) Stop)
    → IfOk r (LooksAtAll records paths texts) → IfOk r (λ kept. length kept.made.items ≤ length paths)
report_few records paths texts same (Ok kept) looks = few_kept records paths texts kept same looks
report_few records paths texts same (Err stop) looks = tt
