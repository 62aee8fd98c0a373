-- The numbers among the words are within their bounds.
use Rattle.std.proofs.Common.{◌≡◌, ℕ, ◌-◌, ◌≤◌, true, not, nat_eq, List, [], ◌∷◌, Option, None, Some, Result, Ok, Err, IfOk, sym, subst, arith}
use Rattle.std.proofs.lemmas.Bool.{and_parts}
use Rattle.std.proofs.lemmas.Bool.Decides.{nat_tests}
use Rattle.std.specs.List.{list_all}
use Rattle.jc_command_words.specs.Words.{Word}
use Rattle.jc_command_words.specs.Numbers.{is_decimal, one_more_digit, decimal_value, IsNumber}
use Rattle.jc_command_words.specs.Forms.{Call}
use Rattle.jc_command_words.specs.Commands.{Mode, plainly, dumping, monitored, Called, instrument, run, merge, report, exec_info, class_info, cover, cover_sample, refs, lines, check, IsWorkers, HasMode, IsCallOf, Means, by_call, by_sample}
use Rattle.jc_bytes.specs.declared.fail.Fail.{Fail}
use Rattle.jc_bytes.specs.Digits.{is_digit}
use Rattle.jc_command_words.specs.declared.command.Command.{Command}
use Rattle.jc_command_words.specs.declared.read.Usage.{Usage}
use Rattle.jc_command_words.specs.Outcome.{CommandRead}
use Rattle.jc_command_words.specs.Seen.{command_seen}
use Rattle.jc_command_words.proofs.NumberLaws.{grows}
use Rattle.jc_top.specs.Bounds.{IsBounded, IsBoundedMode}

-- a digit that isn't 0
digit_not_zero : (b : ℕ) → not (nat_eq b 48) ≡ true → is_digit b ≡ true → 1 ≤ b - 48
digit_not_zero b other digit = grind (arith, nat_tests)

positive : (text : Word) → is_decimal text ≡ true → 1 ≤ decimal_value text
positive [] h = absurd cc
positive (b ∷ bytes) h =
    let p = and_parts (not (nat_eq b 48)) (list_all is_digit (b ∷ bytes)) h in
    let d = and_parts (is_digit b) (list_all is_digit bytes) p.1 in
    let first = digit_not_zero b p.0 d.0 in
    let rest = grows (one_more_digit 0 b) bytes in
    omega (arith, first, rest)

within : (most : ℕ) (text : Word) (n : ℕ) → IsNumber most text n → (1 ≤ n) × (n ≤ most)
within most text n number = (let some = positive text number.decimal in omega (arith, some, number.value), number.small)

workers_within : (given : Option Word) (workers : ℕ) → IsWorkers given workers → (1 ≤ workers) × (workers ≤ 16)
workers_within None workers one = (omega (arith, one), omega (arith, one))
workers_within (Some text) workers number = within 16 text workers number

mode_bounded : (c : Call) (mode : Mode) → HasMode c mode → IsBoundedMode mode
mode_bounded c (plainly workers) has = workers_within _ workers has.3
mode_bounded c (dumping dir every workers) has = let number = has.2 in (within 256 number.0 every number.2, workers_within _ workers has.3)
mode_bounded c monitored has = tt

call_bounded : (c : Call) (command : Called) → IsCallOf c command → IsBounded command
call_bounded c (instrument dest files) is = tt
call_bounded c (run plan destfile mode files) is = mode_bounded c mode is.3
call_bounded c (merge destfile inputs) is = tt
call_bounded c (report csv name exec files) is = tt
call_bounded c (exec_info inputs) is = tt
call_bounded c (class_info files) is = tt
call_bounded c (cover dest plan destfile csv workers name files) is = workers_within _ workers is.5
call_bounded c (cover_sample methods) is = absurd is
call_bounded c (refs files) is = tt
call_bounded c (lines exec files) is = tt
call_bounded c (check rules exec files) is = tt

pub means_bounded : (words : List Word) (command : Called) → Means words command → IsBounded command
means_bounded words command (by_call c spelled stated is) = call_bounded c command is
means_bounded words command (by_sample joined value n spelled number same) = subst IsBounded (sym same) (within 1000 value n number)

pub read_bounded : (words : List Word) (r : Result Command (Fail Usage)) → CommandRead words r → IfOk r (λ command. IsBounded (command_seen command))
read_bounded words (Ok command) means = means_bounded words (command_seen command) means
read_bounded words (Err fail) read = tt
