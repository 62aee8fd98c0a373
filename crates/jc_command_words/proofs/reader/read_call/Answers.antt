use Rattle.std.proofs.Common.{◌∙◌, ◌<◌, ◌^◌, ap, sym, subst, length, None, option_map, string_bytes}
use Rattle.std.proofs.lemmas.List.{length-map}
use Rattle.jc_command_words.specs.Words.{words_of}
use Rattle.jc_command_words.specs.Forms.{named}
use Rattle.jc_command_words.specs.Looks.{scan_view}
use Rattle.jc_command_words.specs.Reads.{HasFound, MatchesIf}
use Rattle.jc_command_words.proofs.ReadLaws.{are_accepted, no_subcommand, not_spelled, call_cut}
use Rattle.jc_command_words.proofs.reader.read_call.Goals as goal

pub returns-in_default : goal.returns-in_default
returns-in_default c = λ call taken.
    let W = words_of c.args.words.now in
    let short : length W < 2 ^ 32 = subst (λ n. n < 2 ^ 32) (sym (length-map c.args.words.now string_bytes)) c.requires in
    let none : MatchesIf W None = subst (MatchesIf W) c.in_default.is c.in_ok-matches.ensures in
    none (are_accepted W call short taken)

pub returns-in_default-subcommand : goal.returns-in_default-subcommand
returns-in_default-subcommand c = λ call taken.
    let W = words_of c.args.words.now in
    let short : length W < 2 ^ 32 = subst (λ n. n < 2 ^ 32) (sym (length-map c.args.words.now string_bytes)) c.requires in
    let has : HasFound W c.in-Some.matches = subst (MatchesIf W) c.in-Some.is c.in_ok-matches.ensures in
    no_subcommand W call short taken c.in-Some.matches c.subcommand.result has c.subcommand.ensures.rows c.in_default-subcommand.is

pub returns-in-Some-2 : goal.returns-in-Some-2
returns-in-Some-2 c =
    let W = words_of c.args.words.now in
    let short : length W < 2 ^ 32 = subst (λ n. n < 2 ^ 32) (sym (length-map c.args.words.now string_bytes)) c.requires in
    let has : HasFound W c.in-Some.matches = subst (MatchesIf W) c.in-Some.is c.in_ok-matches.ensures in
    call_cut W (string_bytes c.in-Some-split_first.first.now) (words_of c.in-Some-split_first.rest.now)
    (ap words_of c.in-Some-split_first.ensures.cases.0) short c.in-Some.matches c.subcommand.result has c.subcommand.ensures.rows
    (c.in-Some-subcommand.field-0-0, c.in-Some-subcommand.found) c.in-Some-subcommand.is
    c.in-Some-name_of.name (scan_view c.in-Some-2.words) (ap named (sym c.as_str.ensures.value) ∙ sym c.name_of.ensures ∙ c.in-Some-name_of.is)
    (sym c.in_ok-words.ensures ∙ ap (option_map scan_view) c.in-Some-2.is)

pub returns : goal.returns
returns c =
    let W = words_of c.args.words.now in
    let short : length W < 2 ^ 32 = subst (λ n. n < 2 ^ 32) (sym (length-map c.args.words.now string_bytes)) c.requires in
    let has : HasFound W c.in-Some.matches = subst (MatchesIf W) c.in-Some.is c.in_ok-matches.ensures in
    not_spelled W (string_bytes c.in-Some-split_first.first.now) (words_of c.in-Some-split_first.rest.now)
    (ap words_of c.in-Some-split_first.ensures.cases.0) short c.in-Some.matches c.subcommand.result has c.subcommand.ensures.rows
    (c.in-Some-subcommand.field-0-0, c.in-Some-subcommand.found) c.in-Some-subcommand.is
    (sym c.in_ok-words.ensures ∙ ap (option_map scan_view) c.in-None.is)
