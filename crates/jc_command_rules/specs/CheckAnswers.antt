-- What the command `check` makes of rules, of execution data and of class files.
use Rattle.std.specs.Prelude.{◌≡◌, ◌↔◌, ℕ, ◌+◌, Bool, true, false, List, ◌++◌, codes, map, Option, Contains, IsTrue}
use Rattle.std.specs.Fmt.{decimal}
use Rattle.std.specs.List.{AllZip}
use Rattle.jc_exec.specs.declared.hits.ClassHits.{ClassHits}
use Rattle.jc_report.specs.declared.row.Counted.{Counted}
use Rattle.jc_rules.specs.declared.rule.CounterKind.{CounterKind}
use Rattle.jc_rules.specs.declared.rule.CounterKind.TheVariants.{Instruction, Branch, Line, Complexity, Method, Class}
use Rattle.jc_rules.specs.declared.rule.Rule.{Rule}
use Rattle.jc_rules.specs.declared.total.Total.{Total}
use Rattle.jc_rules.specs.declared.total.Totalled.{Totalled}
use Rattle.jc_rules.specs.declared.total.Totals.{Totals}
use Rattle.jc_rules.specs.Rules.{total_for, Holds}
use Rattle.jc_rules.specs.Totals.{totals_of}
use Rattle.jc_command_work.specs.Part.{Outcome}
use Rattle.jc_command_work.specs.Step.{Word, Write, to_out, to_err}
use Rattle.jc_command_classes.specs.Report.{ReportedFile, lines_of, AreCountedItems, DataAnswers}

-- ---- the line of a rule

abbrev pub counter_word : CounterKind → List ℕ
counter_word Instruction = codes "instruction"
counter_word Branch = codes "branch"
counter_word Line = codes "line"
counter_word Complexity = codes "complexity"
counter_word Method = codes "method"
counter_word Class = codes "class"

abbrev pub verdict_word : Bool → List ℕ
verdict_word true = codes "ok"
verdict_word false = codes "below"

-- what is counted, how many items are covered, of how many, and whether the rule holds
abbrev pub rule_text : CounterKind → Total → Bool → List ℕ
rule_text counter total holds =
    codes "rule "
    ++ (counter_word counter
    ++ (codes " " ++ (decimal total.covered ++ (codes " of " ++ (decimal (total.missed + total.covered) ++ (codes ": " ++ (verdict_word holds ++ codes "\n")))))))

-- the line of a rule says `ok` exactly where the rule holds of the totals, and else `below`
pub record IsRuleLine (totals : Totals) (rule : Rule) (line : List ℕ) : Type 0 where
  pub holds : Bool
  pub tells : IsTrue holds ↔ Holds totals rule
  pub is : line ≡ rule_text rule.counter (total_for rule.counter totals) holds

-- ---- the command

-- what is to be written, and whether each rule holds
pub record Verdict : Type 0 where
  pub writes : List Write
  pub holds : Bool

abbrev pub AllHold : Totals → List Rule → Type 0
AllHold totals rules = (rule : Rule) → Contains rules rule → Holds totals rule

-- the class, as totals are made of it
abbrev pub totalled : Counted → Totalled
totalled c = record { counters = c.counters }

-- the totals of classes with their counters
abbrev pub totals_by : List Counted → Totals
totals_by classes = totals_of (map totalled classes)

-- a line for each class file that is refused, and then a line for each rule, in order
pub record IsJudged (front : List Write) (totals : Totals) (rules : List Rule) (verdict : Verdict) : Type 0 where
  pub lines : List (List ℕ)
  pub each : AllZip (IsRuleLine totals) rules lines
  pub writes : verdict.writes ≡ front ++ map to_out lines
  pub holds : IsTrue verdict.holds ↔ AllHold totals rules

-- the rules are judged by the totals of the changed classes, the first of each id, with the counters that `report` gives them
abbrev pub IsVerdict : (rules : List Rule) (paths : List Word) → List ClassHits → List ReportedFile → Verdict → Type 0
IsVerdict rules paths records items verdict =
    (counted : List Counted) × AreCountedItems records items counted × IsJudged (map to_err (lines_of paths items)) (totals_by counted) rules verdict

-- execution data and class files are read and refused as by `report`
abbrev pub CheckAnswers : (rules : List Rule) (exec : Option Word) (paths : List Word) (texts : List (List ℕ)) → Outcome Verdict → Type 0
CheckAnswers rules exec paths texts answer = DataAnswers (IsVerdict rules paths) exec texts answer
