-- Rules are judged one after the other.
use Rattle.std.proofs.Common.{◌≡◌, ⊎_elim, ℕ, ◌+◌, ◌<◌, ◌≤◌, true, List, [], ◌∷◌, ◌++◌, length, get_or, take, map, Option, Ok, sym, ◌∙◌, ap, subst, append_assoc}
use Rattle.std.specs.Prelude.{IsTrue}
use Rattle.std.proofs.lemmas.List.{take_more, take_all, map-append, append-nil}
use Rattle.std.proofs.lemmas.List.Elements.{Contains-append_left, Contains-push, Contains-push_cases}
use Rattle.std.proofs.lemmas.Slice.Zip.{all_zipped_more}
use Rattle.jc_bytes.proofs.BooleanLaws.{none_in}
use Rattle.jc_exec.specs.declared.hits.ClassHits.{ClassHits}
use Rattle.jc_report.specs.declared.row.Counted.{Counted}
use Rattle.jc_rules.specs.declared.rule.Rule.{Rule}
use Rattle.jc_rules.specs.declared.total.Totals.{Totals}
use Rattle.jc_rules.specs.Rules.{Holds}
use Rattle.jc_command_work.specs.Seen.{write_seen}
use Rattle.jc_command_work.specs.Step.{Word, Write, to_out, to_err}
use Rattle.jc_command_classes.specs.declared.kept.Kept.{Kept}
use Rattle.jc_command_classes.specs.Report.{changed_of, first_of_each_id, lines_of}
use Rattle.jc_command_classes.specs.ReportSteps.{counted_classes, LooksAtAll, MakesWith}
use Rattle.jc_command_classes.proofs.CountedLaws.{are_counted}
use Rattle.jc_command_rules.specs.declared.check.Checked.{Checked}
use Rattle.jc_command_rules.specs.CheckAnswers.{IsRuleLine, AllHold, IsJudged, IsVerdict, totals_by}
use Rattle.jc_command_rules.specs.Printing.{verdict_seen, PutsRule}

module _ (front : List Write) (totals : Totals) where
  pub none_judged : (checked : Checked) → map write_seen checked.writes.items ≡ front → checked.holds ≡ true → IsJudged front totals [] (verdict_seen checked)
  none_judged checked writes holds = record {
    lines = [];
    each = tt;
    writes = writes ∙ sym (append-nil front);
    holds = (λ _ rule there. absurd (none_in rule there), λ _. holds);
  }

  rule_judged : (rules : List Rule) (rule : Rule) (old new : Checked) → IsJudged front totals rules (verdict_seen old) → PutsRule totals rule old new
      → IsJudged front totals (rules ++ rule ∷ []) (verdict_seen new)
  rule_judged rules rule old new judged puts = record {
    lines = judged.lines ++ puts.line ∷ [];
    each = all_zipped_more (IsRuleLine totals) rules judged.lines rule puts.line judged.each puts.is;
    writes =
        puts.writes
        ∙ ap (λ (ws : List Write). ws ++ to_out puts.line ∷ []) judged.writes
        ∙ append_assoc front (map to_out judged.lines) (to_out puts.line ∷ [])
        ∙ ap (λ (ws : List Write). front ++ ws) (sym (map-append to_out judged.lines (puts.line ∷ [])));
    holds = (to, from);
  }
    where
      to : IsTrue new.holds → AllHold totals (rules ++ rule ∷ [])
      to h other there =
          let both = puts.holds.0 h in
          ⊎_elim (λ before. judged.holds.0 both.0 other before) (λ last. subst (λ (r : Rule). Holds totals r) last both.1) (Contains-push_cases rules rule other there)

      from : AllHold totals (rules ++ rule ∷ []) → IsTrue new.holds
      from all =
          puts.holds.1
          (judged.holds.1 (λ other there. all other (Contains-append_left rules (rule ∷ []) other there)), all rule (Contains-push rules rule))

  pub judged_more : (rules : List Rule) (k : ℕ) (default : Rule) (old new : Checked) → k < length rules
      → IsJudged front totals (take k rules) (verdict_seen old) → PutsRule totals (get_or rules k default) old new
      → IsJudged front totals (take (k + 1) rules) (verdict_seen new)
  judged_more rules k default old new less judged puts =
      subst (λ (rs : List Rule). IsJudged front totals rs (verdict_seen new)) (sym (take_more rules k default less))
      (rule_judged (take k rules) (get_or rules k default) old new judged puts)

  pub all_judged : (rules : List Rule) (k : ℕ) (checked : Checked) → length rules ≤ k → IsJudged front totals (take k rules) (verdict_seen checked)
      → IsJudged front totals rules (verdict_seen checked)
  all_judged rules k checked all judged = subst (λ (rs : List Rule). IsJudged front totals rs (verdict_seen checked)) (take_all k rules all) judged

pub check_made : (rules : List Rule) (records : List ClassHits) (path : Option Word) (paths : List Word) (texts : List (List ℕ)) (kept : Kept Counted)
    (totals : Totals) (checked : Checked) → LooksAtAll records paths texts kept → totals ≡ totals_by kept.made.items
    → IsJudged (map write_seen kept.lines.items) totals rules (verdict_seen checked)
    → MakesWith verdict_seen (IsVerdict rules paths) records path texts (Ok checked)
check_made rules records path paths texts kept totals checked (items, are, none, report) is judged = (
  items,
  are,
  none,
  (
    counted_classes records items,
    are_counted records (first_of_each_id (changed_of items)),
    subst (λ (t : Totals). IsJudged (map to_err (lines_of paths items)) t rules (verdict_seen checked)) (is ∙ ap totals_by report.made)
        (subst (λ (ws : List Write). IsJudged ws totals rules (verdict_seen checked)) report.lines judged),
  ),
)
