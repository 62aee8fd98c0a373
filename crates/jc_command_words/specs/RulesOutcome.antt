-- What reading the text of rules gives.
use Rattle.std.specs.Prelude.{◌≡◌, ◌↔◌, List, Option, Some, Vec, option_map}
use Rattle.std.specs.declared.alloc.Global.{Global}
use Rattle.jc_rules.specs.declared.rule.Rule.{Rule}
use Rattle.jc_command_words.specs.Words.{Word}
use Rattle.jc_command_words.specs.RulesText.{AreRules}

abbrev pub rules_seen : Option (Vec Rule Global) → Option (List Rule)
rules_seen o = option_map (λ (rules : Vec Rule Global). rules.items) o

-- it gives rules exactly where the text is that of these rules
abbrev pub RulesRead : Word → Option (Vec Rule Global) → Type 0
RulesRead text o = (rules : List Rule) → AreRules text rules ↔ (rules_seen o ≡ Some rules)
