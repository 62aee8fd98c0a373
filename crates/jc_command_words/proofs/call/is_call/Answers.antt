use Rattle.std.proofs.Common.{◌∙◌, sym, string_bytes, List, ℕ, String}
use Rattle.std.specs.declared.alloc.Global.{Global}
use Rattle.jc_command_words.specs.Forms.{options_of}
use Rattle.jc_command_words.specs.Looks.{used_view}
use Rattle.jc_command_words.specs.Words.{words_of}
use Rattle.jc_command_words.proofs.FormLaws.{call_seen, unknown}
use Rattle.jc_command_words.proofs.call.is_call.Goals as goal

abbrev text_of_word : String Global → List ℕ
text_of_word = string_bytes

pub returns-then-not-all_known : goal.returns-then-not-all_known
returns-then-not-all_known c =
    let words = c.args.words.now in
    unknown used_view (λ o. o.now) text_of_word words.uses.items c.options_of.result.now (options_of c.args.name) words.dash (words_of words.files.now) c.options_of.ensures
    (rw (← c.as_slice-uses.ensures.value) (sym c.all_known.ensures ∙ c.if-not-all_known.true))

pub returns : goal.returns
returns c =
    let words = c.args.words.now in
    rw (c.once-once.ensures, c.are_valued-values.ensures, c.files_are_plain-files.ensures, c.is_empty.ensures, c.as_slice-uses.ensures.value)
    (call_seen used_view (λ o. o.now) text_of_word words.uses.items c.options_of.result.now (options_of c.args.name) words.dash words.files.now c.options_of.ensures
    (rw (← c.as_slice-uses.ensures.value) (sym c.all_known.ensures ∙ c.if-not-all_known.false)))
