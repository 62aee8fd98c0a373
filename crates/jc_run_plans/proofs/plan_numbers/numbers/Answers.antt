use Rattle.std.proofs.Common.{◌≡◌, ◌++◌, ◌∷◌, [], rules, sym, ap, ◌∙◌}
use Rattle.jc_run_plans.specs.PlanWords.{signed_in, words_of}
use Rattle.jc_run_plans.specs.Plans.{numbers_in}
use Rattle.jc_run_plans.proofs.PlanNumbersLaws.{all_of, all_first, all_next, all_stop, all_end}
use Rattle.jc_run_plans.proofs.plan_numbers.numbers.Goals as goal

pub words-init : goal.words-init
words-init c = rw c.new-numbers.ensures (all_first (numbers_in (words_of c.args.line.now)))

pub words-preserved : goal.words-preserved
words-preserved c =
    let pushed : c.push.new.self ≡ c.words.numbers ++ c.in-Some-signed.number ∷ [] = search rules in
    c.words.invariant
    ∙ all_next signed_in (words_of c.words.rest.now) (words_of c.in-Some.after.now) c.in-Some.word.now c.words.numbers c.in-Some-signed.number c.in-Some.ensures.words (sym c.in-Some-signed.ensures)
    ∙ ap (λ l. all_of l (numbers_in (words_of c.in-Some.after.now))) (sym pushed)

pub returns-in-None : goal.returns-in-None
returns-in-None c =
    c.words.invariant ∙ all_stop signed_in (words_of c.words.rest.now) (words_of c.in-Some.after.now) c.in-Some.word.now c.words.numbers c.in-Some.ensures.words (sym c.in-None.ensures)

pub returns : goal.returns
returns c = c.words.invariant ∙ all_end signed_in (words_of c.words.rest.now) c.words.numbers c.in_default.ensures.words
