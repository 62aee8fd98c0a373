-- The text of rules: `counter=A/B`, parted by commas.
use Rattle.std.specs.Prelude.{◌≡◌, ◌⊎◌, ℕ, List, [], ◌∷◌, ◌++◌, map, codes}
use Rattle.std.specs.List.{IsDistinct}
use Rattle.std.specs.Str.{bytes_eq}
use Rattle.jc_rules.specs.declared.rule.CounterKind.{CounterKind}
use Rattle.jc_rules.specs.declared.rule.CounterKind.TheVariants.{Instruction, Branch, Line, Complexity, Method, Class}
use Rattle.jc_rules.specs.declared.rule.Rule.{Rule}
use Rattle.jc_command_words.specs.Words.{Word}
use Rattle.jc_command_words.specs.Numbers.{IsNumber}

abbrev pub kind_text : CounterKind → Word
kind_text Instruction = codes "instruction"
kind_text Branch = codes "branch"
kind_text Line = codes "line"
kind_text Complexity = codes "complexity"
kind_text Method = codes "method"
kind_text Class = codes "class"

-- the text is the number, from 0 to the most
abbrev pub IsWhole : ℕ → Word → ℕ → Type 0
IsWhole most text n = ((text ≡ codes "0") × (n ≡ 0)) ⊎ IsNumber most text n

-- The text is what is counted, `=`, the fraction's A, `/` and its B: B is from 1 to 1,000,000, and A from 0 to B.
pub record IsRuleText (text : Word) (rule : Rule) : Type 0 where
  pub least : Word
  pub of : Word
  pub spelled : text ≡ kind_text rule.counter ++ 61 ∷ (least ++ 47 ∷ of)
  pub least_is : IsWhole rule.of least rule.least
  pub of_is : IsNumber 1000000 of rule.of

-- one or more texts of rules, with a comma between each and the next
abbrev pub AreRuleTexts : Word → List Rule → Type 0
AreRuleTexts text [] = ⊥
AreRuleTexts text (rule ∷ []) = IsRuleText text rule
AreRuleTexts text (rule ∷ next ∷ rules) =
    (first : Word) × (rest : Word) × (text ≡ first ++ 44 ∷ rest) × IsRuleText first rule × AreRuleTexts rest (next ∷ rules)

abbrev pub kinds_of : List Rule → List Word
kinds_of rules = map (λ rule. kind_text rule.counter) rules

-- the text is that of these rules, of which no two are of one counter
pub record AreRules (text : Word) (rules : List Rule) : Type 0 where
  pub texts : AreRuleTexts text rules
  pub apart : IsDistinct bytes_eq (kinds_of rules)
