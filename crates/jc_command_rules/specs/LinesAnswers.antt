-- What the command `lines` makes of execution data and of class files.
use Rattle.std.specs.Prelude.{◌≡◌, ℕ, Bool, true, false, List, ◌++◌, codes, map, Option, Some, None, option_to_list}
use Rattle.std.specs.Fmt.{decimal}
use Rattle.std.specs.List.{AllZip, flat_map}
use Rattle.jc_methods.specs.declared.analysed.Analysed.{Analysed}
use Rattle.jc_methods.specs.declared.body.Body.{Body}
use Rattle.jc_cover.specs.declared.coverage.Coverage.{Coverage}
use Rattle.jc_cover.specs.Counters.{Method, counted_methods, counters_of}
use Rattle.jc_cover.specs.Covered.{hits_or_none, TellsCovered}
use Rattle.jc_exec.specs.declared.hits.ClassHits.{ClassHits}
use Rattle.jc_rules.specs.declared.status.LineState.{LineState}
use Rattle.jc_rules.specs.declared.status.LineState.TheVariants.{Empty, Not, Partly, Fully}
use Rattle.jc_rules.specs.declared.status.LineStatus.{LineStatus}
use Rattle.jc_rules.specs.LineList.{IsLineList}
use Rattle.jc_rules.specs.Totals.{has_counted_insn}
use Rattle.jc_command_work.specs.Step.{Word, Write, to_out, to_err}
use Rattle.jc_command_work.specs.Answered.{Answer}
use Rattle.jc_command_classes.specs.Report.{ReportedFile, lines_of, changed_of, first_of_each_id, hits_of, DataAnswers}

-- ---- the text of a class

abbrev pub state_word : LineState → List ℕ
state_word Empty = codes "empty"
state_word Not = codes "not"
state_word Partly = codes "partly"
state_word Fully = codes "fully"

-- the line of an entry: its number and its status
abbrev pub entry_line : LineStatus → List ℕ
entry_line s = decimal s.line ++ (codes " " ++ (state_word s.status ++ codes "\n"))

-- the line of the class, by its name, and one for each entry
abbrev pub listing_text : Word → List LineStatus → List ℕ
listing_text name list = codes "class " ++ (name ++ (codes "\n" ++ flat_map entry_line list))

-- an instruction of the class counts
abbrev pub counts : List Body → Coverage → Bool
counts bodies coverage = has_counted_insn (record { counters = counters_of bodies coverage })

-- what is printed of a class with these methods: nothing where no instruction counts, and else its lines
abbrev pub IsPrinted : Bool → Word → List Method → Option (List ℕ) → Type 0
IsPrinted false name methods text = text ≡ None
IsPrinted true name methods text = (list : List LineStatus) × IsLineList methods list × (text ≡ Some (listing_text name list))

-- What is printed of a class by these hits, or by none: the statuses of its lines are those of the coverage that tells which edges chains
-- of edges cover.
pub record IsListing (hits : Option (List Bool)) (a : Analysed) (text : Option (List ℕ)) : Type 0 where
  pub coverage : Coverage
  pub tells : TellsCovered a.bodies (hits_or_none hits) coverage
  pub printed : IsPrinted (counts a.bodies coverage) a.name (counted_methods a.bodies coverage) text

-- ---- the command

-- the classes with what is printed of each, by the hits of its record
abbrev pub AreListings : List ClassHits → List Analysed → List (Option (List ℕ)) → Type 0
AreListings records classes texts = AllZip (λ a text. IsListing (hits_of records a) a text) classes texts

-- a line for each class file that is refused, and then the texts of the changed classes, the first of each id, in the order of the files
abbrev pub IsLines : (paths : List Word) → List ClassHits → List ReportedFile → List Write → Type 0
IsLines paths records items writes =
    (texts : List (Option (List ℕ))) × AreListings records (first_of_each_id (changed_of items)) texts
    × (writes ≡ map to_err (lines_of paths items) ++ map to_out (flat_map option_to_list texts))

-- execution data and class files are read and refused as by `report`
abbrev pub LinesAnswers : (exec : Option Word) (paths : List Word) (texts : List (List ℕ)) → Answer → Type 0
LinesAnswers exec paths texts answer = DataAnswers (IsLines paths) exec texts answer
