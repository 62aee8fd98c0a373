use Rattle.std.proofs.Common.{◌∙◌, sym}
use Rattle.jc_programs.proofs.ArgumentLaws.{IsBase, by_bracket, by_class, by_closing, by_name_end, by_name, by_array, by_too_few, by_no_value, by_value, by_end}
use Rattle.jc_programs.proofs.arguments.takes.Goals as goal

pub returns-then-letter-eq59 : goal.returns-then-letter-eq59
returns-then-letter-eq59 c = by_name_end _ _ _ _ _ _ c.in-Some.ensures.cases.0 c.letters.invariant c.in-Name.is c.if-letter-eq59.true

pub letters-preserved-in-Name : goal.letters-preserved-in-Name
letters-preserved-in-Name c = by_name _ _ _ _ _ _ c.in-Some.ensures.cases.0 c.letters.invariant c.in-Name.is c.if-letter-eq59.false

pub letters-preserved-then-letter-eq91 : goal.letters-preserved-then-letter-eq91
letters-preserved-then-letter-eq91 c = by_bracket _ _ _ _ _ _ c.in-Some.ensures.cases.0 c.letters.invariant c.in-Nothing.is c.if-letter-eq91.true

pub letters-preserved-then-letter-eq76 : goal.letters-preserved-then-letter-eq76
letters-preserved-then-letter-eq76 c = by_class _ _ _ _ _ _ c.in-Some.ensures.cases.0 c.letters.invariant c.in-Nothing.is c.if-letter-eq76.true

pub returns-then-letter-eq41 : goal.returns-then-letter-eq41
returns-then-letter-eq41 c = c.is_empty.ensures ∙ by_closing _ _ _ _ _ _ c.in-Some.ensures.cases.0 c.letters.invariant c.in-Nothing.is c.if-letter-eq41.true

pub returns-in-Brackets : goal.returns-in-Brackets
returns-in-Brackets c =
    let is : IsBase c.in-Some.letter.now = record { no_bracket = c.if-letter-eq91.false; no_class = c.if-letter-eq76.false; no_end = c.if-letter-eq41.false } in
    by_array _ _ _ _ _ _ c.in-Some.ensures.cases.0 c.letters.invariant c.in-Nothing.is c.in-Brackets.is is

pub returns : goal.returns
returns c = c.is_empty-2.ensures ∙ by_end _ _ _ _ c.in_default.ensures.cases c.letters.invariant

pub returns-in_default-split_first : goal.returns-in_default-split_first
returns-in_default-split_first c =
    let is : IsBase c.in-Some.letter.now = record { no_bracket = c.if-letter-eq91.false; no_class = c.if-letter-eq76.false; no_end = c.if-letter-eq41.false } in
    by_too_few _ _ _ _ _ _ c.in-Some.ensures.cases.0 c.letters.invariant c.in-Nothing-reading.is is c.in_default-split_first.ensures.cases

pub returns-then-not-is_argument : goal.returns-then-not-is_argument
returns-then-not-is_argument c =
    let is : IsBase c.in-Some.letter.now = record { no_bracket = c.if-letter-eq91.false; no_class = c.if-letter-eq76.false; no_end = c.if-letter-eq41.false } in
    by_no_value _ _ _ _ _ _ c.in-Some.ensures.cases.0 c.letters.invariant c.in-Nothing-reading.is is
    c.in-Some-split_first.n.now c.in-Some-split_first.others.now c.in-Some-split_first.ensures.cases.0 (sym c.is_argument.ensures ∙ c.if-not-is_argument.true)

pub letters-preserved : goal.letters-preserved
letters-preserved c =
    let is : IsBase c.in-Some.letter.now = record { no_bracket = c.if-letter-eq91.false; no_class = c.if-letter-eq76.false; no_end = c.if-letter-eq41.false } in
    by_value _ _ _ _ _ _ c.in-Some.ensures.cases.0 c.letters.invariant c.in-Nothing-reading.is is
    c.in-Some-split_first.n.now c.in-Some-split_first.others.now c.in-Some-split_first.ensures.cases.0 (sym c.is_argument.ensures ∙ c.if-not-is_argument.false)
