use Rattle.std.proofs.Common.{length}
use denote.Text.{Utf8}
use denote.Shadow.{shadow}
use Rattle.jc_command_words.proofs.RulesLaws.{Reads}
use Rattle.jc_command_words.proofs.rules.rules_of.Given as goal

-- what is left is text, and the rules of the text are these with those of what is left
abbrev pub invariant-reading : goal.invariant-reading
invariant-reading l = shadow (Utf8 l.rest) × Reads l.text l.rules.items l.rest

abbrev pub decreases-reading : goal.decreases-reading
decreases-reading l = length l.rest
