use Rattle.std.proofs.Common.{◌∙◌}
use Rattle.jc_command_words.specs.Words.{words_of}
use Rattle.jc_command_words.proofs.ReadLaws.{has_found, takes_them}
use Rattle.jc_command_words.proofs.reader.matches_of.Goals as goal

pub returns-in-Ok : goal.returns-in-Ok
returns-in-Ok c = has_found c.in_ok-command.command (words_of c.args.words.now) c.in-Ok.matches c.in_ok-command.ensures c.in-Ok.ensures.matches

pub returns : goal.returns
returns c = λ accepted.
    c.in_default.not-OutOfMemory (c.kind.ensures ∙ c.in-Err.ensures.passes (takes_them c.in_ok-command.command (words_of c.args.words.now) c.in_ok-command.ensures accepted))
