-- The report on files by execution data, or the clash that stops it.
use Rattle.std.proofs.Common.{ℕ, List, Some, Result, Ok, Err, Vec, sym, ap₂}
use Rattle.std.specs.declared.alloc.Global.{Global}
use Rattle.std.proofs.lemmas.Option.{same_Some}
use Rattle.jc_exec.specs.Store.{Store}
use Rattle.jc_command_work.specs.declared.status.Fault.{Fault}
use Rattle.jc_command_work.specs.declared.stop.Stop.{Stop}
use Rattle.jc_command_work.specs.declared.stop.Stop.TheVariants as stops
use Rattle.jc_command_work.specs.Part.{refused}
use Rattle.jc_command_work.specs.Seen.{stop_seen}
use Rattle.jc_command_work.specs.Step.{Word}
use Rattle.jc_command_work.specs.Texts.{fault_text}
use Rattle.jc_command_classes.specs.Report.{changed_of, first_of_each_id}
use Rattle.jc_command_classes.specs.ReportSteps.{counted_classes, CountsFiles}
use Rattle.jc_command_classes.proofs.CountedLaws.{are_counted}
use Rattle.jc_headline.specs.CoverWork.{IsReportText, IsClashEnd}
use Rattle.jc_command_cover.specs.Deciding.{Decides}

pub report_decided : (name exec : Word) (store : Store) (texts : List (List ℕ)) (r : Result (Vec ℕ Global) Stop) → CountsFiles name store.classes (Some exec) texts r
    → Decides (IsReportText name store texts) (IsClashEnd exec store texts) (λ csv. csv.items) stop_seen r
report_decided name exec store texts (Ok csv) (items, are, none, is) = record {
  items = items;
  are = are;
  fits = none;
  counted = counted_classes store.classes items;
  are_counted = are_counted store.classes (first_of_each_id (changed_of items));
  is = is;
}
report_decided name exec store texts (Err stops.Memory) so = tt
report_decided name exec store texts (Err (stops.Refused file fault)) (refusal, path, is, clash) = (
  refusal,
  clash,
  ap₂ (λ (p : Word) (f : Fault). refused f (fault_text p f)) (sym (same_Some exec file.now path)) is,
)
report_decided name exec store texts (Err (stops.Read p)) so = absurd so
report_decided name exec store texts (Err (stops.Write p)) so = absurd so
report_decided name exec store texts (Err stops.Output) so = absurd so
report_decided name exec store texts (Err (stops.Clash fault line)) so = absurd so
