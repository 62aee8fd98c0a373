use Rattle.std.proofs.Common.{◌≡◌, map}
use Rattle.clap.specs.Matches.{found_of, ids_left}
use Rattle.jc_command_words.specs.Words.{words_of}
use Rattle.jc_command_words.specs.Looks.{used_view}
use Rattle.jc_command_words.specs.Spelled.{options_found, spelled, with_values}
use Rattle.jc_command_words.proofs.ScanLaws.{prepend}
use Rattle.jc_command_words.proofs.scan.scan_found.Given as goal

-- the uses so far, and those that the words behind them spell
abbrev pub invariant-spelling : goal.invariant-spelling
invariant-spelling l =
    spelled (options_found (found_of l.found)) (words_of l.words)
    ≡ prepend (map used_view l.uses.items) (spelled (with_values (found_of l.found) (ids_left l.name-iterator)) (words_of l.rest))
