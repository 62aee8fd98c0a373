-- What the steps give of a command on execution data and class files, as `report` is.
use Rattle.std.specs.Prelude.{◌≡◌, ⊤, ℕ, Bool, List, [], ◌∷◌, ◌++◌, map, take, Option, Some, None, option_to_list, Result, Ok, Err, Vec}
use Rattle.std.specs.Borrow.{Bor}
use Rattle.std.specs.List.{AllZip}
use Rattle.std.specs.declared.alloc.Global.{Global}
use Rattle.jc_methods.specs.declared.analysed.Analysed.{Analysed}
use Rattle.jc_methods.specs.declared.body.Body.{Body}
use Rattle.jc_plan.specs.Analysed.{IsAnalysed}
use Rattle.jc_exec.specs.declared.hits.ClassHits.{ClassHits}
use Rattle.jc_exec.specs.declared.refusal.ExecRefusal.{ExecRefusal}
use Rattle.jc_exec.specs.Store.{Store}
use Rattle.jc_cover.specs.Covered.{hits_or_none, HasShape}
use Rattle.jc_cover.specs.Marking.{coverage_of}
use Rattle.jc_report.specs.declared.row.Counted.{Counted}
use Rattle.jc_command_classes.specs.declared.covered_class.CoveredClass.{CoveredClass}
use Rattle.jc_command_classes.specs.declared.exec_data.Data.{Data}
use Rattle.jc_command_classes.specs.declared.exec_data.ExecInput.{ExecInput}
use Rattle.jc_command_classes.specs.declared.kept.Kept.{Kept}
use Rattle.jc_command_classes.specs.declared.kept.Seen.{Seen}
use Rattle.jc_command_classes.specs.declared.kept.Seen.TheVariants as seens
use Rattle.jc_command_classes.specs.declared.options.ReportOptions.{ReportOptions}
use Rattle.jc_command_work.specs.declared.status.Fault.TheVariants as faults
use Rattle.jc_command_work.specs.declared.stop.Stop.{Stop}
use Rattle.jc_command_work.specs.declared.stop.Stop.TheVariants as stops
use Rattle.jc_command_work.specs.Seen.{write_seen, stop_seen}
use Rattle.jc_command_exec.specs.ExecData.{IsUnionOf, IsFirstRefused}
use Rattle.jc_command_exec.specs.Gathering.{IsGathered}
use Rattle.jc_command_classes.specs.Report.{frameless, ReportedFile, refused_class, unchanged_class, changed_class, IsItem, AreItems, lines_of, changed_of}
use Rattle.jc_command_classes.specs.Report.{record_of, hits_of, clash_with, clash_of, first_clash, first_of_each_id, counted_with, report_text, ReportAnswers}
use Rattle.jc_command_work.specs.Answered.{Answer, refusal_of}
use Rattle.jc_command_work.specs.Step.{Word, to_err}

-- ---- the execution data

abbrev pub data_records : Option (Bor Data) → List ClassHits
data_records None = []
data_records (Some d) = d.now.store.classes

-- the path of the execution data, if a file of it is named
abbrev pub exec_path : Option ExecInput → Option Word
exec_path None = None
exec_path (Some e) = Some e.path.now

-- the text of the execution data, if a file of it is named: what has come of it is what was read
abbrev pub IsReadOf : Option ExecInput → List (List ℕ) → Type 0
IsReadOf None texts = texts ≡ []
IsReadOf (Some e) texts = (text : List ℕ) × (texts ≡ text ∷ []) × IsGathered (e.path.now ∷ []) (text ∷ []) e.gathered

-- the answer of a report by the execution data, if any, of which these texts were read
abbrev pub ReportBy : ReportOptions → Option ExecInput → List (List ℕ) → (paths : List Word) → (texts : List (List ℕ)) → Answer → Type 0
ReportBy options exec read paths texts = ReportAnswers options.csv.now options.name.now (exec_path exec) paths (read ++ texts)

abbrev pub data_path : Option (Bor Data) → Option Word
data_path None = None
data_path (Some d) = Some d.now.path.now

-- the records of execution data that is at hand
abbrev pub held_records : Option Data → List ClassHits
held_records None = []
held_records (Some d) = d.store.classes

abbrev pub held_path : Option Data → Option Word
held_path None = None
held_path (Some d) = Some d.path.now

-- the union of what was read of a file, if one is named, or how the file stops the command that is refused
abbrev pub TakesData : Option Word → List (List ℕ) → Result (Option Data) Stop → Type 0
TakesData path read (Ok held) = (store : Store) × IsUnionOf read store × (held_records held ≡ store.classes) × (held_path held ≡ path)
TakesData path read (Err stop) =
    (index : ℕ) × (file : Word) × (refusal : ExecRefusal) × IsFirstRefused (option_to_list path) read index file refusal
    × (stop_seen stop ≡ Some (refusal_of file (faults.Exec index refusal)))

-- how a clash stops a command: it names the file of execution data; want of memory may come at any time
abbrev pub StopsAtClash : Option Word → (ExecRefusal → Type 0) → Stop → Type 0
StopsAtClash path Why stops.Memory = ⊤
StopsAtClash path Why (stops.Refused file fault) = (refusal : ExecRefusal) × (path ≡ Some file.now) × (fault ≡ faults.Exec 0 refusal) × Why refusal
StopsAtClash path Why (stops.Read p) = ⊥
StopsAtClash path Why (stops.Write p) = ⊥
StopsAtClash path Why stops.Output = ⊥
StopsAtClash path Why (stops.Clash fault line) = ⊥

-- ---- the counters of a class

-- the class with its counters, as its coverage is found by marking
abbrev pub counted_of : Option (List Bool) → Analysed → Counted
counted_of hits a = counted_with a (coverage_of a.bodies (hits_or_none hits))

-- the same by the hits of its record
abbrev pub counted_by : List ClassHits → Analysed → Counted
counted_by records a = counted_of (hits_of records a) a

abbrev pub counted_classes : List ClassHits → List ReportedFile → List Counted
counted_classes records items = map (counted_by records) (first_of_each_id (changed_of items))

-- ---- one class file

-- the class with its coverage by the hits of its record
abbrev pub covered_class : List ClassHits → Analysed → CoveredClass
covered_class records a = record { class = a; coverage = coverage_of a.bodies (hits_or_none (hits_of records a)) }

-- the class is well made, and the coverage has its shape
pub record IsShaped (c : CoveredClass) : Type 0 where
  pub analysed : IsAnalysed c.class
  pub shape : HasShape c.class.bodies c.coverage

abbrev pub IsShapedSeen : Seen CoveredClass → Type 0
IsShapedSeen (seens.Refused why) = ⊤
IsShapedSeen seens.Unchanged = ⊤
IsShapedSeen (seens.Changed id c) = IsShaped c

-- what is made of a changed class is its coverage, by the hits of its record, beside the class with its frames
abbrev pub IsCoveredClass : List ClassHits → Analysed → CoveredClass → Type 0
IsCoveredClass records a c = (a ≡ frameless c.class) × (c ≡ covered_class records c.class)

-- what is made of a changed class is the class with its counters
abbrev pub IsCountedBy : List ClassHits → Analysed → Counted → Type 0
IsCountedBy records a c = c ≡ counted_by records a

-- this was seen of what the class file is to a report, where `Made` tells what is made of a changed class
abbrev pub IsSeenAs : {X : Type 0} → (Analysed → X → Type 0) → ReportedFile → Seen X → Type 0
IsSeenAs Made (refused_class why) (seens.Refused said) = said ≡ why
IsSeenAs Made unchanged_class seens.Unchanged = ⊤
IsSeenAs Made (changed_class a) (seens.Changed id made) = (id ≡ a.id) × Made a made
IsSeenAs Made item seen = ⊥

-- the class file doesn't clash, and this was seen of it
pub record IsSeen {X : Type 0} (Made : Analysed → X → Type 0) (records : List ClassHits) (bytes : List ℕ) (seen : Seen X) : Type 0 where
  pub item : ReportedFile
  pub is : IsItem bytes item
  pub fits : clash_of records item ≡ None
  pub as_is : IsSeenAs Made item seen

-- a class without bodies is unchanged, and the record of any other fits it
abbrev pub SeesClass : List ClassHits → Analysed → List Body → Seen CoveredClass → Type 0
SeesClass records a [] seen = seen ≡ seens.Unchanged
SeesClass records a (b ∷ bodies) seen = (clash_with a (record_of records a.id) ≡ None) × (seen ≡ seens.Changed a.id (covered_class records a))

-- the class has bodies, and its record doesn't fit it
abbrev pub ClassClashes : List ClassHits → Analysed → List Body → ExecRefusal → Type 0
ClassClashes records a [] refusal = ⊥
ClassClashes records a (b ∷ bodies) refusal = clash_with a (record_of records a.id) ≡ Some refusal

-- the class file clashes
abbrev pub FileClashes : List ClassHits → List ℕ → ExecRefusal → Type 0
FileClashes records bytes refusal = (item : ReportedFile) × IsItem bytes item × (clash_of records item ≡ Some refusal)

-- what was seen of a class file, or the clash that stops the command
abbrev pub IsLooked : {X : Type 0} → (Analysed → X → Type 0) → List ClassHits → Option Word → List ℕ → Result (Seen X) Stop → Type 0
IsLooked Made records path bytes (Ok seen) = IsSeen Made records bytes seen
IsLooked Made records path bytes (Err stop) = StopsAtClash path (FileClashes records bytes) stop

-- ---- all class files

-- none clashes, and this is kept of them: a line for each that is refused, and what is made of the changed classes, the first of each id
abbrev pub LooksAs : {X : Type 0} → (Analysed → X → Type 0) → List ClassHits → List Word → List (List ℕ) → Kept X → Type 0
LooksAs Made records paths texts kept =
    (items : List ReportedFile) × AreItems texts items × (first_clash records items ≡ None)
    × (map write_seen kept.lines.items ≡ map to_err (lines_of paths items))
    × AllZip Made (first_of_each_id (changed_of items)) kept.made.items

-- the lines and the counted classes are those of the class files
pub record IsReportOf (records : List ClassHits) (paths : List Word) (items : List ReportedFile) (kept : Kept Counted) : Type 0 where
  pub lines : map write_seen kept.lines.items ≡ map to_err (lines_of paths items)
  pub made : kept.made.items ≡ counted_classes records items

-- all were looked at, and none clashes
abbrev pub LooksAtAll : List ClassHits → List Word → List (List ℕ) → Kept Counted → Type 0
LooksAtAll records paths texts kept =
    (items : List ReportedFile) × AreItems texts items × (first_clash records items ≡ None) × IsReportOf records paths items kept

-- one of the first so many clashes
abbrev pub FrontClashes : List ClassHits → List (List ℕ) → ExecRefusal → Type 0
FrontClashes records texts refusal =
    (count : ℕ) × (items : List ReportedFile) × AreItems (take count texts) items × (first_clash records items ≡ Some refusal)

-- what a command makes of class files, or the clash that stops it; `value` tells what the code's value stands for
abbrev pub MakesWith : {V X : Type 0} → (V → X) → (List ClassHits → List ReportedFile → X → Type 0) → List ClassHits → Option Word → List (List ℕ)
    → Result V Stop → Type 0
MakesWith value Makes records path texts (Ok v) =
    (items : List ReportedFile) × AreItems texts items × (first_clash records items ≡ None) × Makes records items (value v)
MakesWith value Makes records path texts (Err stop) = StopsAtClash path (FrontClashes records texts) stop

-- the CSV text of class files in the report of this name, or the clash that stops it
abbrev pub CountsFiles : (name : Word) → List ClassHits → Option Word → List (List ℕ) → Result (Vec ℕ Global) Stop → Type 0
CountsFiles name records path texts (Ok csv) =
    (items : List ReportedFile) × AreItems texts items × (first_clash records items ≡ None) × (csv.items ≡ report_text name (counted_classes records items))
CountsFiles name records path texts (Err stop) = StopsAtClash path (FrontClashes records texts) stop
