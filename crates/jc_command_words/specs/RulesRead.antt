-- The rules that a text spells, decided part by part.
use Rattle.std.specs.Prelude.{ℕ, Bool, ◌==◌, List, [], ◌∷◌, ◌++◌, length, codes, Option, Some, None, nat_lt, if◌then◌else◌}
use Rattle.std.specs.List.{after_first, before_first, list_any, position_or_len, slice_split}
use Rattle.std.specs.Str.{bytes_eq}
use Rattle.jc_rules.specs.contracts.rule.CounterKindPartialEq.TheImpl as equal
use Rattle.jc_rules.specs.declared.rule.CounterKind.{CounterKind}
use Rattle.jc_rules.specs.declared.rule.CounterKind.TheVariants.{Instruction, Branch, Line, Complexity, Method, Class}
use Rattle.jc_rules.specs.declared.rule.Rule.{Rule}
use Rattle.jc_command_words.specs.Words.{Word}
use Rattle.jc_command_words.specs.Numbers.{number_up_to}

-- ---- one rule

abbrev pub kind_in : Word → Option CounterKind
kind_in text =
    if bytes_eq text (codes "instruction") then Some Instruction
    else if bytes_eq text (codes "branch") then Some Branch
    else if bytes_eq text (codes "line") then Some Line
    else if bytes_eq text (codes "complexity") then Some Complexity
    else if bytes_eq text (codes "method") then Some Method
    else if bytes_eq text (codes "class") then Some Class
    else None

-- a number from 0 to the most
abbrev pub whole_up_to : ℕ → Word → Option ℕ
whole_up_to most text = if bytes_eq text (codes "0") then Some 0 else number_up_to most text

-- what stands in front of the first such byte, and what stands behind it
abbrev pub cut_at : ℕ → Word → Option (Word × Word)
cut_at mark text =
    if nat_lt (position_or_len (λ b. b == mark) text) (length text) then
    Some (before_first (λ b. b == mark) text, after_first (λ b. b == mark) text) else None

abbrev pub rule_with : CounterKind → ℕ → Option ℕ → Option Rule
rule_with counter of None = None
rule_with counter of (Some least) = Some (record { counter = counter; least = least; of = of })

abbrev pub rule_of : CounterKind → Word → Option ℕ → Option Rule
rule_of counter least None = None
rule_of counter least (Some of) = rule_with counter of (whole_up_to of least)

-- behind the `=`
abbrev pub fraction_of : CounterKind → Option (Word × Word) → Option Rule
fraction_of counter None = None
fraction_of counter (Some parts) = rule_of counter parts.0 (number_up_to 1000000 parts.1)

abbrev pub rule_on : Option CounterKind → Word → Option Rule
rule_on None fraction = None
rule_on (Some counter) fraction = fraction_of counter (cut_at 47 fraction)

abbrev pub rule_by : Option (Word × Word) → Option Rule
rule_by None = None
rule_by (Some parts) = rule_on (kind_in parts.0) parts.1

abbrev pub rule_in : Word → Option Rule
rule_in text = rule_by (cut_at 61 text)

-- ---- rules

abbrev pub same_kind : CounterKind → CounterKind → Bool
same_kind = equal.ghosts.eq

-- rules with one more, if it is of another counter than each of them
abbrev pub with_rule : List Rule → Option Rule → Option (List Rule)
with_rule rules None = None
with_rule rules (Some rule) =
    if list_any (λ r. same_kind r.counter rule.counter) rules then None else Some (rules ++ rule ∷ [])

abbrev pub rules_on : (List Rule → Option (List Rule)) → Option (List Rule) → Option (List Rule)
rules_on more None = None
rules_on more (Some rules) = more rules

-- rules with those of texts behind them
abbrev pub rules_behind : List Rule → List Word → Option (List Rule)
rules_behind rules [] = Some rules
rules_behind rules (text ∷ texts) = rules_on (λ more. rules_behind more texts) (with_rule rules (rule_in text))

abbrev pub rules_of : Word → Option (List Rule)
rules_of text = rules_behind [] (slice_split (λ b. b == 44) text)
