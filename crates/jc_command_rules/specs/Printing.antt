-- What the steps of `lines` and of `check` give.
use Rattle.std.specs.Prelude.{◌≡◌, ◌↔◌, ℕ, List, [], ◌∷◌, ◌++◌, map, Option, option_map, Vec, IsTrue}
use Rattle.std.specs.declared.alloc.Global.{Global}
use Rattle.jc_methods.specs.declared.analysed.Analysed.{Analysed}
use Rattle.jc_cover.specs.Counters.{counted_methods}
use Rattle.jc_exec.specs.declared.hits.ClassHits.{ClassHits}
use Rattle.jc_rules.specs.declared.rule.Rule.{Rule}
use Rattle.jc_rules.specs.declared.total.Totals.{Totals}
use Rattle.jc_rules.specs.Rules.{Holds}
use Rattle.jc_command_work.specs.Seen.{write_seen}
use Rattle.jc_command_work.specs.Answered.{Answer, writes_seen}
use Rattle.jc_command_work.specs.Step.{Word, to_out}
use Rattle.jc_command_work.specs.Part.{Outcome}
use Rattle.jc_command_classes.specs.declared.covered_class.CoveredClass.{CoveredClass}
use Rattle.jc_command_classes.specs.declared.exec_data.ExecInput.{ExecInput}
use Rattle.jc_command_classes.specs.Report.{hits_of}
use Rattle.jc_command_classes.specs.ReportSteps.{exec_path}
use Rattle.jc_command_rules.specs.declared.check.Checked.{Checked}
use Rattle.jc_command_rules.specs.LinesAnswers.{counts, IsPrinted, IsListing, LinesAnswers}
use Rattle.jc_command_rules.specs.CheckAnswers.{Verdict, IsRuleLine, CheckAnswers}

-- ---- lines

-- the text that the code holds, if there is one
abbrev pub text_seen : Option (Vec ℕ Global) → Option (List ℕ)
text_seen text = option_map (λ t. t.items) text

-- this is printed of the class by its coverage
abbrev pub TellsListing : CoveredClass → Option (Vec ℕ Global) → Type 0
TellsListing c text =
    IsPrinted (counts c.class.bodies c.coverage) c.class.name (counted_methods c.class.bodies c.coverage) (text_seen text)

-- what is made of a changed class is what is printed of it, by the hits of its record
abbrev pub IsListed : List ClassHits → Analysed → Option (Vec ℕ Global) → Type 0
IsListed records a text = IsListing (hits_of records a) a (text_seen text)

-- the answer of `lines` by the execution data, if any, of which these texts were read
abbrev pub LinesBy : Option ExecInput → List (List ℕ) → (paths : List Word) → (texts : List (List ℕ)) → Answer → Type 0
LinesBy exec read paths texts = LinesAnswers (exec_path exec) paths (read ++ texts)

-- ---- check

abbrev pub verdict_seen : Checked → Verdict
verdict_seen checked = record { writes = writes_seen checked.writes; holds = checked.holds }

-- the line of the rule was put last, and it is kept whether each rule so far holds
pub record PutsRule (totals : Totals) (rule : Rule) (old new : Checked) : Type 0 where
  pub line : List ℕ
  pub is : IsRuleLine totals rule line
  pub writes : map write_seen new.writes.items ≡ map write_seen old.writes.items ++ to_out line ∷ []
  pub holds : IsTrue new.holds ↔ (IsTrue old.holds × Holds totals rule)

-- the answer of `check` by the execution data, if any, of which these texts were read
abbrev pub CheckBy : List Rule → Option ExecInput → List (List ℕ) → (paths : List Word) → (texts : List (List ℕ)) → Outcome Verdict → Type 0
CheckBy rules exec read paths texts = CheckAnswers rules (exec_path exec) paths (read ++ texts)
