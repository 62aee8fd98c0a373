use Rattle.std.proofs.Common.{◌≤◌, length, length-append, ◌∷◌, [], sym, ap, ◌∙◌, arith}
use Rattle.jc_run_plans.specs.PlanWords.{words_of}
use Rattle.jc_run_plans.specs.Plans.{thread_number, turns_in, few_turns}
use Rattle.jc_run_plans.proofs.PlanNumbersLaws.{all_of, all_first, all_next, all_stop, all_end, too_many, few_enough}
use Rattle.jc_run_plans.proofs.plan_numbers.turns.Goals as goal

pub words-init : goal.words-init
words-init c = rw c.new-turns.ensures (all_first (turns_in c.args.threads (words_of c.args.line.now)), omega arith)

pub words-preserved : goal.words-preserved
words-preserved c = (
  c.words.invariant.0
      ∙ all_next (thread_number c.args.threads) (words_of c.words.rest.now) (words_of c.in-Some.after.now) c.in-Some.word.now c.words.turns
      c.in-Some-thread_number.thread c.in-Some.ensures.words (sym c.in-Some-thread_number.ensures)
      ∙ ap (λ l. all_of l (turns_in c.args.threads (words_of c.in-Some.after.now))) (sym c.in_ok-push-in-Some-thread_number.ensures.ok),
  let n = length-append c.words.turns (c.in-Some-thread_number.thread ∷ []) in
      rw c.in_ok-push-in-Some-thread_number.ensures.ok (omega (arith, n, c.len.ensures, c.if-len.false)),
)

pub returns-then-len : goal.returns-then-len
returns-then-len c =
    let le : 1000000 ≤ length c.words.turns = omega (arith, c.len.ensures, c.if-len.true) in
    ap few_turns c.words.invariant.0 ∙ too_many (thread_number c.args.threads) (words_of c.words.rest.now) (words_of c.in-Some.after.now) c.in-Some.word.now c.words.turns c.in-Some.ensures.words le

pub returns-in-None : goal.returns-in-None
returns-in-None c =
    ap few_turns (c.words.invariant.0 ∙ all_stop (thread_number c.args.threads) (words_of c.words.rest.now) (words_of c.in-Some.after.now)
    c.in-Some.word.now c.words.turns c.in-Some.ensures.words (sym c.in-None.ensures))

pub returns : goal.returns
returns c =
    ap few_turns (c.words.invariant.0 ∙ all_end (thread_number c.args.threads) (words_of c.words.rest.now) c.words.turns c.in_default.ensures.words)
    ∙ few_enough c.words.turns c.words.invariant.1
