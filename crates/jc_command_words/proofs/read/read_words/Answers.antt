use Rattle.std.proofs.Common.{◌∙◌, ◌<◌, ap, sym, subst, length, map, codes, option_map, arith, string_bytes}
use Rattle.std.proofs.lemmas.List.{length-map}
use Rattle.jc_command_words.specs.Words.{words_of, value_of}
use Rattle.jc_command_words.specs.Decide.{command_with, methods_in}
use Rattle.jc_command_words.specs.Looks.{call_seen, used_view}
use Rattle.jc_command_words.specs.Reads.{CallCut}
use Rattle.jc_command_words.specs.Seen.{command_seen}
use Rattle.jc_command_words.proofs.CommandLaws.{few_files}
use Rattle.jc_command_words.proofs.ReadLaws.{uncut, means_sample, no_sample_number, means_call, no_call, unstated}
use Rattle.jc_command_words.proofs.read.read_words.Goals as goal

pub returns-in_default-clause-read : goal.returns-in_default-clause-read
returns-in_default-clause-read c =
    uncut (words_of c.args.words.now) (subst (λ o. CallCut (words_of c.args.words.now) (option_map call_seen o)) c.in_default.is c.in_ok-call.ensures)

pub returns-in_default-methods_in-clause-read : goal.returns-in_default-methods_in-clause-read
returns-in_default-methods_in-clause-read c =
    no_sample_number (words_of c.args.words.now) (call_seen c.in-Some.call)
    (subst (λ o. CallCut (words_of c.args.words.now) (option_map call_seen o)) c.in-Some.is c.in_ok-call.ensures)
    (sym c.is_sample.ensures ∙ c.if-is_sample.true)
    (ap methods_in (sym (c.value_of.ensures ∙ ap (λ us. value_of (map used_view us) (codes "sample")) c.deref.ensures.value))
    ∙ sym c.methods_in.ensures ∙ c.in_default-methods_in.is)

pub returns-then-is_sample-clause-read : goal.returns-then-is_sample-clause-read
returns-then-is_sample-clause-read c =
    means_sample (words_of c.args.words.now) (call_seen c.in-Some.call)
    (subst (λ o. CallCut (words_of c.args.words.now) (option_map call_seen o)) c.in-Some.is c.in_ok-call.ensures)
    c.in-Some-methods_in.methods (sym c.is_sample.ensures ∙ c.if-is_sample.true)
    (ap methods_in (sym (c.value_of.ensures ∙ ap (λ us. value_of (map used_view us) (codes "sample")) c.deref.ensures.value))
    ∙ sym c.methods_in.ensures ∙ c.in-Some-methods_in.is)

pub returns-then-not-branch-clause-read : goal.returns-then-not-branch-clause-read
returns-then-not-branch-clause-read c =
    unstated (words_of c.args.words.now) (call_seen c.in-Some.call)
    (subst (λ o. CallCut (words_of c.args.words.now) (option_map call_seen o)) c.in-Some.is c.in_ok-call.ensures)
    (sym c.is_sample.ensures ∙ c.if-is_sample.false) (sym c.in_ok-is_stated.ensures ∙ c.if-not-branch.true)

pub returns-in-Some-2-clause-read : goal.returns-in-Some-2-clause-read
returns-in-Some-2-clause-read c =
    means_call (words_of c.args.words.now) (call_seen c.in-Some.call)
    (subst (λ o. CallCut (words_of c.args.words.now) (option_map call_seen o)) c.in-Some.is c.in_ok-call.ensures)
    (command_seen c.in-Some-2.command) (sym c.in_ok-is_stated.ensures ∙ c.if-not-branch.false)
    (ap (command_with c.in-Some.call.name) (sym c.in_ok-given.ensures) ∙ sym c.in_ok-command.ensures ∙ ap (option_map command_seen) c.in-Some-2.is)

pub returns-in-Some-2-clause-few : goal.returns-in-Some-2-clause-few
returns-in-Some-2-clause-few c =
    let means =
    means_call (words_of c.args.words.now) (call_seen c.in-Some.call)
    (subst (λ o. CallCut (words_of c.args.words.now) (option_map call_seen o)) c.in-Some.is c.in_ok-call.ensures)
    (command_seen c.in-Some-2.command) (sym c.in_ok-is_stated.ensures ∙ c.if-not-branch.false)
    (ap (command_with c.in-Some.call.name) (sym c.in_ok-given.ensures) ∙ sym c.in_ok-command.ensures ∙ ap (option_map command_seen) c.in-Some-2.is) in
    let few = few_files (words_of c.args.words.now) (command_seen c.in-Some-2.command) means in
    let short : length c.args.words.now < 4294967296 = omega (arith, c.if-words.false) in
    omega (arith, few, short, length-map c.args.words.now string_bytes)

pub returns-clause-read : goal.returns-clause-read
returns-clause-read c =
    no_call (words_of c.args.words.now) (call_seen c.in-Some.call)
    (subst (λ o. CallCut (words_of c.args.words.now) (option_map call_seen o)) c.in-Some.is c.in_ok-call.ensures)
    (sym c.is_sample.ensures ∙ c.if-is_sample.false) (sym c.in_ok-is_stated.ensures ∙ c.if-not-branch.false)
    (ap (command_with c.in-Some.call.name) (sym c.in_ok-given.ensures) ∙ sym c.in_ok-command.ensures ∙ ap (option_map command_seen) c.in-None.is)
