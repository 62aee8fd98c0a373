-- What reading words gives.
use Rattle.std.specs.Prelude.{⊤, List, Result, Ok, Err}
use Rattle.jc_bytes.specs.declared.fail.Fail.{Fail}
use Rattle.jc_bytes.specs.declared.fail.Fail.TheVariants as fails
use Rattle.jc_command_words.specs.declared.command.Command.{Command}
use Rattle.jc_command_words.specs.declared.read.Usage.{Usage}
use Rattle.jc_command_words.specs.Words.{Word}
use Rattle.jc_command_words.specs.Commands.{Means, NoForm}
use Rattle.jc_command_words.specs.Seen.{command_seen}

-- The words call the command, or, by Usage, call none. Memory can be wanted for any words.
abbrev pub CommandRead : List Word → Result Command (Fail Usage) → Type 0
CommandRead words (Ok command) = Means words (command_seen command)
CommandRead words (Err (fails.Said usage)) = NoForm words
CommandRead words (Err fails.Memory) = ⊤
