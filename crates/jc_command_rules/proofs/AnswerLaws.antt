-- The answer of `lines` is one, and so is that of `check`.
use Rattle.std.proofs.Common.{◌≡◌, ◌↔◌, ◌⊎◌, ⊎_elim, ℕ, ◌+◌, ◌*◌, Bool, true, false, ◌&&◌, List, [], ◌∷◌, ◌++◌, map, Option, Some, None, option_to_list, nat_le, refl, ◌∙◌, ap, subst}
use Rattle.std.specs.Prelude.{IsTrue}
use Rattle.std.specs.List.{AllZip, flat_map}
use Rattle.std.proofs.lemmas.Bool.{and_parts, and_from}
use Rattle.jc_bytes.proofs.BooleanLaws.{same_tests, at_most_decided, first_in, later_in, which_in, none_in}
use Rattle.jc_methods.specs.declared.analysed.Analysed.{Analysed}
use Rattle.jc_cover.specs.declared.coverage.Coverage.{Coverage}
use Rattle.jc_cover.specs.Counters.{Method, counted_methods}
use Rattle.jc_cover.specs.Covered.{hits_or_none, TellsCovered}
use Rattle.jc_cover.specs.Marking.{coverage_of}
use Rattle.jc_cover.proofs.CoverageLaws.{tells}
use Rattle.jc_cover.proofs.OneCoverageLaws.{one_coverage}
use Rattle.jc_exec.specs.declared.hits.ClassHits.{ClassHits}
use Rattle.jc_report.specs.declared.row.Counted.{Counted}
use Rattle.jc_rules.specs.declared.rule.Rule.{Rule}
use Rattle.jc_rules.specs.declared.status.LineStatus.{LineStatus}
use Rattle.jc_rules.specs.declared.total.Totals.{Totals}
use Rattle.jc_rules.specs.Rules.{total_for, Holds}
use Rattle.jc_rules.specs.LineList.{IsLineList}
use Rattle.jc_rules.proofs.OneListLaws.{one_list}
use Rattle.jc_rules.proofs.SomeListLaws.{some_list}
use Rattle.jc_command_work.specs.Part.{End, stops}
use Rattle.jc_command_work.specs.Step.{Word, Write, to_out, to_err}
use Rattle.jc_command_work.specs.Causes.{IsRefusal}
use Rattle.jc_command_work.specs.Answered.{HasOneAnswer}
use Rattle.jc_command_classes.specs.Report.{ReportedFile, lines_of, changed_of, first_of_each_id, hits_of}
use Rattle.jc_command_classes.specs.ReportSteps.{counted_classes}
use Rattle.jc_command_classes.proofs.CountedLaws.{are_counted, all_counted}
use Rattle.jc_command_classes.proofs.ReportAnswerLaws.{OneMade, data_has_one, data_refuses}
use Rattle.jc_command_rules.specs.LinesAnswers.{listing_text, counts, IsPrinted, IsListing, IsLines, LinesAnswers}
use Rattle.jc_command_rules.specs.CheckAnswers.{rule_text, IsRuleLine, Verdict, AllHold, totals_by, IsJudged, IsVerdict, CheckAnswers}

-- one item for each of a list
module _ {X Y : Type 0} (R : X → Y → Type 0) where
  only_none : (ys : List Y) → AllZip R [] ys → ys ≡ []
  only_none [] zip = refl
  only_none (y ∷ ys) zip = absurd zip

  only_more : (x : X) (xs : List X) (own : OneMade (R x)) (rest : OneMade (AllZip R xs)) (ys : List Y) → AllZip R (x ∷ xs) ys → ys ≡ own.value ∷ rest.value
  only_more x xs own rest [] zip = absurd zip
  only_more x xs own rest (y ∷ ys) zip = λ i. own.only y zip.0 i ∷ rest.only ys zip.1 i

  one_each : ((x : X) → OneMade (R x)) → (xs : List X) → OneMade (AllZip R xs)
  one_each one [] = record { value = []; holds = tt; only = only_none }
  one_each one (x ∷ xs) =
      let own = one x in
      let rest = one_each one xs in
      record { value = own.value ∷ rest.value; holds = (own.holds, rest.holds); only = only_more x xs own rest }

-- ---- lines

one_printed : (t : Bool) (name : Word) (methods : List Method) → OneMade (IsPrinted t name methods)
one_printed false name methods = record { value = None; holds = refl; only = λ other is. is }
one_printed true name methods = record {
  value = Some (listing_text name some.0);
  holds = (some.0, some.1, refl);
  only = λ other is. is.2 ∙ ap (λ (l : List LineStatus). let o : Option (List ℕ) = Some (listing_text name l) in o) (one_list methods is.0 some.0 is.1 some.1);
}
  where
    some : (list : List LineStatus) × IsLineList methods list
    some = some_list methods

one_listing : (hits : Option (List Bool)) (a : Analysed) → OneMade (IsListing hits a)
one_listing hits a = record {
  value = own.value;
  holds = record { coverage = coverage; tells = told; printed = own.holds };
  only = λ other is.
      own.only other
      (subst (λ (c : Coverage). IsPrinted (counts a.bodies c) a.name (counted_methods a.bodies c) other)
      (one_coverage a.bodies (hits_or_none hits) is.coverage coverage is.tells told) is.printed);
}
  where
    coverage : Coverage
    coverage = coverage_of a.bodies (hits_or_none hits)

    told : TellsCovered a.bodies (hits_or_none hits) coverage
    told = tells a.bodies (hits_or_none hits)

    own : OneMade (IsPrinted (counts a.bodies coverage) a.name (counted_methods a.bodies coverage))
    own = one_printed (counts a.bodies coverage) a.name (counted_methods a.bodies coverage)

one_lines : (paths : List Word) (records : List ClassHits) (items : List ReportedFile) → OneMade (IsLines paths records items)
one_lines paths records items = record {
  value = writes texts.value;
  holds = (texts.value, texts.holds, refl);
  only = λ other is. is.2 ∙ ap writes (texts.only is.0 is.1);
}
  where
    classes : List Analysed
    classes = first_of_each_id (changed_of items)

    texts : OneMade (AllZip (λ a text. IsListing (hits_of records a) a text) classes)
    texts = one_each (λ a text. IsListing (hits_of records a) a text) (λ a. one_listing (hits_of records a) a) classes

    writes : List (Option (List ℕ)) → List Write
    writes all = map to_err (lines_of paths items) ++ map to_out (flat_map option_to_list all)

pub lines_has_one : (exec : Option Word) (paths : List Word) → HasOneAnswer (option_to_list exec ++ paths) (LinesAnswers exec paths)
lines_has_one exec paths texts are = data_has_one (IsLines paths) (one_lines paths) exec paths texts are

pub lines_refuses : (exec : Option Word) (paths : List Word) (texts : List (List ℕ)) (end : End) → LinesAnswers exec paths texts (stops end) → IsRefusal end
lines_refuses exec paths texts end is = data_refuses (IsLines paths) exec texts end is

-- ---- check

module _ (totals : Totals) where
  -- whether a rule holds, as a truth value
  is_held : Rule → Bool
  is_held rule =
      let total = total_for rule.counter totals in
      nat_le (rule.least * (total.missed + total.covered)) (total.covered * rule.of)

  held : (rule : Rule) → IsTrue (is_held rule) ↔ Holds totals rule
  unfolding is_held
  held rule =
      let total = total_for rule.counter totals in
      let decided = at_most_decided (rule.least * (total.missed + total.covered)) (total.covered * rule.of) in
      (decided.to, decided.back)

  one_rule_line : (rule : Rule) → OneMade (IsRuleLine totals rule)
  one_rule_line rule = record {
    value = text (is_held rule);
    holds = record { holds = is_held rule; tells = held rule; is = refl };
    only = λ other is.
        is.is
        ∙ ap text (same_tests is.holds (is_held rule) (λ h. (held rule).1 (is.tells.0 h)) (λ h. is.tells.1 ((held rule).0 h)));
  }
    where
      text : Bool → List ℕ
      text holds = rule_text rule.counter (total_for rule.counter totals) holds

  all_held : List Rule → Bool
  all_held [] = true
  all_held (rule ∷ rules) = is_held rule && all_held rules

  all_hold : (rules : List Rule) → IsTrue (all_held rules) → AllHold totals rules
  unfolding all_held
  all_hold [] h rule there = absurd (none_in rule there)
  all_hold (first ∷ rules) h rule there =
      let both = and_parts (is_held first) (all_held rules) h in
      ⊎_elim (λ same. subst (λ (r : Rule). Holds totals r) same ((held first).0 both.0)) (λ later. all_hold rules both.1 rule later) (which_in first rules rule there)

  are_held : (rules : List Rule) → AllHold totals rules → IsTrue (all_held rules)
  unfolding all_held
  are_held [] all = refl
  are_held (first ∷ rules) all =
      and_from (is_held first) (all_held rules) ((held first).1 (all first (first_in first rules)))
      (are_held rules (λ rule there. all rule (later_in first rules rule there)))

  one_judged : (front : List Write) (rules : List Rule) → OneMade (IsJudged front totals rules)
  one_judged front rules = record {
    value = verdict lines.value (all_held rules);
    holds = record { lines = lines.value; each = lines.holds; writes = refl; holds = (all_hold rules, are_held rules) };
    only = λ other is.
        let writes_are : other.writes ≡ front ++ map to_out lines.value = is.writes ∙ ap (λ (ls : List (List ℕ)). front ++ map to_out ls) (lines.only is.lines is.each) in
        let holds_are : other.holds ≡ all_held rules =
        same_tests other.holds (all_held rules) (λ h. are_held rules (is.holds.0 h)) (λ h. is.holds.1 (all_hold rules h)) in
        λ i. record { writes = writes_are i; holds = holds_are i };
  }
    where
      lines : OneMade (AllZip (IsRuleLine totals) rules)
      lines = one_each (IsRuleLine totals) one_rule_line rules

      verdict : List (List ℕ) → Bool → Verdict
      verdict all holds = record { writes = front ++ map to_out all; holds = holds }

one_verdict : (rules : List Rule) (paths : List Word) (records : List ClassHits) (items : List ReportedFile) → OneMade (IsVerdict rules paths records items)
one_verdict rules paths records items = record {
  value = own.value;
  holds = (counted, are_counted records classes, own.holds);
  only = λ other is.
      own.only other
      (subst (λ (cs : List Counted). IsJudged front (totals_by cs) rules other) (all_counted records classes is.0 is.1) is.2);
}
  where
    classes : List Analysed
    classes = first_of_each_id (changed_of items)

    counted : List Counted
    counted = counted_classes records items

    front : List Write
    front = map to_err (lines_of paths items)

    own : OneMade (IsJudged front (totals_by counted) rules)
    own = one_judged (totals_by counted) front rules

pub check_has_one : (rules : List Rule) (exec : Option Word) (paths : List Word) → HasOneAnswer (option_to_list exec ++ paths) (CheckAnswers rules exec paths)
check_has_one rules exec paths texts are = data_has_one (IsVerdict rules paths) (one_verdict rules paths) exec paths texts are

pub check_refuses : (rules : List Rule) (exec : Option Word) (paths : List Word) (texts : List (List ℕ)) (end : End) → CheckAnswers rules exec paths texts (stops end)
    → IsRefusal end
check_refuses rules exec paths texts end is = data_refuses (IsVerdict rules paths) exec texts end is
