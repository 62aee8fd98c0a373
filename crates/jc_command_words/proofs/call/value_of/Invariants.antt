use Rattle.std.proofs.Common.{◌≡◌, map, drop}
use Rattle.jc_command_words.specs.Words.{value_of}
use Rattle.jc_command_words.specs.Looks.{used_view}
use Rattle.jc_command_words.proofs.call.value_of.Given as goal

-- the uses that are left decide
abbrev pub invariant-seeking : goal.invariant-seeking
invariant-seeking l = value_of (map used_view l.uses) l.name ≡ value_of (map used_view (drop l.used-index l.uses)) l.name
