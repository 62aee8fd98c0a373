-- What the command `report` makes of execution data and of class files (JaCoCo's documentation on coverage counters).
use Rattle.std.specs.Prelude.{◌≡◌, ⊤, ℕ, Bool, true, false, not, List, [], ◌∷◌, ◌++◌, length, map, filter, take, drop, nat_eq}
use Rattle.std.specs.Prelude.{Option, Some, None, option_map, option_to_list, if◌then◌else◌}
use Rattle.std.specs.Option.{option_or}
use Rattle.std.specs.List.{find}
use Rattle.jc_methods.specs.declared.analysed.Analysed.{Analysed}
use Rattle.jc_bytes.specs.declared.refusal.Refusal.{Refusal}
use Rattle.jc_cover.specs.Counters.{counters_of}
use Rattle.jc_cover.specs.Covered.{hits_or_none, TellsCovered}
use Rattle.jc_cover.specs.declared.coverage.Coverage.{Coverage}
use Rattle.jc_exec.specs.declared.hits.ClassHits.{ClassHits}
use Rattle.jc_exec.specs.declared.refusal.ExecRefusal.{ExecRefusal}
use Rattle.jc_exec.specs.Answers.{conflict_with}
use Rattle.jc_exec.specs.Union.{fits}
use Rattle.jc_instrument.specs.Analysis.{IsAnalysis}
use Rattle.jc_instrument.specs.LeftAlone.{is_left_alone}
use Rattle.jc_instrument.specs.Reasons.{AnalysisReason}
use Rattle.jc_instrument.specs.SameAnalysis.{without_frames}
use Rattle.jc_report.specs.declared.row.Counted.{Counted}
use Rattle.jc_report.specs.Csv.{csv_of}
use Rattle.jc_report.specs.Rows.{rows_of}
use Rattle.jc_exec.specs.Store.{Store}
use Rattle.jc_command_work.specs.declared.status.Fault.TheVariants as fault
use Rattle.jc_command_work.specs.Step.{Write, to_file, to_err}
use Rattle.jc_command_work.specs.Part.{Outcome, gives, stops}
use Rattle.jc_command_work.specs.Answered.{Answer, refusal_of}
use Rattle.jc_command_exec.specs.ExecData.{IsUnionOf, IsFirstRefused}
use Rattle.jc_command_classes.specs.Lines.{refused_line}
use Rattle.jc_command_work.specs.Step.{Word}

-- ---- the inputs

-- the text of the execution data, if a file of it is named, and those of the class files behind it
abbrev pub data_texts : Option Word → List (List ℕ) → List (List ℕ)
data_texts exec texts = take (length (option_to_list exec)) texts

abbrev pub class_texts : Option Word → List (List ℕ) → List (List ℕ)
class_texts exec texts = drop (length (option_to_list exec)) texts

-- ---- one class file

-- the class without the frames of its bodies, at which no report looks
abbrev pub frameless : Analysed → Analysed
frameless a = record a { bodies = map without_frames a.bodies }

-- what a class file is to a report
pub data ReportedFile : Type 0 where
  refused_class : (why : Refusal) → ReportedFile
  unchanged_class : ReportedFile
  changed_class : (a : Analysed) → ReportedFile

-- A class file is refused for the reason for which it isn't analysed. Else its class is unchanged where instrumentation
-- leaves it alone, and changed otherwise.
pub data IsItem (bytes : List ℕ) : ReportedFile → Type 0 where
  is_refused : (why : Refusal) → AnalysisReason bytes (Some why) → IsItem bytes (refused_class why)
  is_unchanged : (a : Analysed) (is : IsAnalysis bytes a) → is_left_alone is.file ≡ true → IsItem bytes unchanged_class
  is_changed : (a : Analysed) (is : IsAnalysis bytes a) → is_left_alone is.file ≡ false → IsItem bytes (changed_class (frameless a))

-- the class files, in order
abbrev pub AreItems : List (List ℕ) → List ReportedFile → Type 0
AreItems [] [] = ⊤
AreItems [] (item ∷ items) = ⊥
AreItems (t ∷ ts) [] = ⊥
AreItems (t ∷ ts) (item ∷ items) = IsItem t item × AreItems ts items

-- a line for each class file that is refused
abbrev pub lines_of : List Word → List ReportedFile → List (List ℕ)
lines_of [] items = []
lines_of (p ∷ ps) [] = []
lines_of (p ∷ ps) (refused_class why ∷ items) = refused_line p why ∷ lines_of ps items
lines_of (p ∷ ps) (unchanged_class ∷ items) = lines_of ps items
lines_of (p ∷ ps) (changed_class a ∷ items) = lines_of ps items

abbrev pub changed_of : List ReportedFile → List Analysed
changed_of [] = []
changed_of (refused_class why ∷ items) = changed_of items
changed_of (unchanged_class ∷ items) = changed_of items
changed_of (changed_class a ∷ items) = a ∷ changed_of items

-- ---- the records of the classes

-- the record of the id, if there is one
abbrev pub record_of : List ClassHits → ℕ → Option ClassHits
record_of records id = find (λ r. nat_eq r.id id) records

-- the record of the id of a class with another name or another number of probes
abbrev pub clash_with : Analysed → Option ClassHits → Option ExecRefusal
clash_with a None = None
clash_with a (Some r) = if fits r a.name a.probes then None else Some (conflict_with r a.id a.name a.probes)

abbrev pub clash_of : List ClassHits → ReportedFile → Option ExecRefusal
clash_of records (refused_class why) = None
clash_of records unchanged_class = None
clash_of records (changed_class a) = clash_with a (record_of records a.id)

-- the clash of the first changed class that has one
abbrev pub first_clash : List ClassHits → List ReportedFile → Option ExecRefusal
first_clash records [] = None
first_clash records (item ∷ items) = option_or (clash_of records item) (first_clash records items)

-- ---- the report

-- each class whose id hasn't come before
abbrev pub first_of_each_id : List Analysed → List Analysed
first_of_each_id [] = []
first_of_each_id (a ∷ classes) = a ∷ filter (λ b. not (nat_eq a.id b.id)) (first_of_each_id classes)

-- the class with the counters of this coverage
abbrev pub counted_with : Analysed → Coverage → Counted
counted_with a coverage = record {
  id = a.id;
  name = a.name;
  super_name = a.super_name;
  interfaces = a.interfaces;
  counters = counters_of a.bodies coverage;
}

-- The class with its counters, by these hits, or by none: they are the counters of the coverage that tells which edges
-- chains of edges cover.
pub record IsCounted (hits : Option (List Bool)) (a : Analysed) (c : Counted) : Type 0 where
  pub coverage : Coverage
  pub tells : TellsCovered a.bodies (hits_or_none hits) coverage
  pub counted : c ≡ counted_with a coverage

-- the hits of the record of the class, if there is one
abbrev pub hits_of : List ClassHits → Analysed → Option (List Bool)
hits_of records a = option_map (λ r. r.bits) (record_of records a.id)

-- the classes with their counters, each by the hits of its record
abbrev pub AreCounted : List ClassHits → List Analysed → List Counted → Type 0
AreCounted records [] [] = ⊤
AreCounted records [] (c ∷ counted) = ⊥
AreCounted records (a ∷ classes) [] = ⊥
AreCounted records (a ∷ classes) (c ∷ counted) = IsCounted (hits_of records a) a c × AreCounted records classes counted

-- the CSV text of classes in the report of this name
abbrev pub report_text : Word → List Counted → List ℕ
report_text name classes = csv_of (rows_of name classes)

-- the changed classes of the items, the first of each id, with their counters
abbrev pub AreCountedItems : List ClassHits → List ReportedFile → List Counted → Type 0
AreCountedItems records items counted = AreCounted records (first_of_each_id (changed_of items)) counted

-- What a command makes of execution data, if a file of it is named, and of class files: of the records of the data, and of what the class
-- files are. The execution data may be refused, or a record of it may clash with a class.
pub data DataAnswers {X : Type 0} (Makes : List ClassHits → List ReportedFile → X → Type 0) (exec : Option Word) (texts : List (List ℕ)) : Outcome X → Type 0 where
  -- no record clashes with a class
  made : (store : Store) (items : List ReportedFile) (value : X)
      → IsUnionOf (data_texts exec texts) store → AreItems (class_texts exec texts) items → first_clash store.classes items ≡ None
      → Makes store.classes items value → DataAnswers Makes exec texts (gives value)
  -- the file of execution data is refused
  data_refused : (index : ℕ) (path : Word) (refusal : ExecRefusal)
      → IsFirstRefused (option_to_list exec) (data_texts exec texts) index path refusal
      → DataAnswers Makes exec texts (stops (refusal_of path (fault.Exec index refusal)))
  -- a clash is found among the first so many class files
  data_clashes : (path : Word) (store : Store) (count : ℕ) (items : List ReportedFile) (refusal : ExecRefusal) → exec ≡ Some path
      → IsUnionOf (data_texts exec texts) store → AreItems (take count (class_texts exec texts)) items
      → first_clash store.classes items ≡ Some refusal
      → DataAnswers Makes exec texts (stops (refusal_of path (fault.Exec 0 refusal)))

-- a line for each class file that is refused, and then the report
abbrev pub IsReport : (out name : Word) → (paths : List Word) → List ClassHits → List ReportedFile → List Write → Type 0
IsReport out name paths records items writes =
    (counted : List Counted) × AreCountedItems records items counted
    × (writes ≡ map to_err (lines_of paths items) ++ to_file out (report_text name counted) ∷ [])

abbrev pub ReportAnswers : (out name : Word) (exec : Option Word) (paths : List Word) (texts : List (List ℕ)) → Answer → Type 0
ReportAnswers out name exec paths texts answer = DataAnswers (IsReport out name paths) exec texts answer
