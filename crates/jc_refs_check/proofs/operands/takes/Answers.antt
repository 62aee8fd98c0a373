use Rattle.std.proofs.Common.{sym, ◌∙◌, ap}
use Rattle.jc_refs_check.specs.declared.operands.Need.{Need}
use Rattle.jc_refs_check.specs.Classes.{name_at}
use Rattle.jc_refs_check.specs.KindNeeds.{need_takes}
use Rattle.jc_refs_check.proofs.KnownNeedLaws.{is_any_known, any_known_is, any_not, is_throwable_known, throwable_known_is, throwable_not, is_stream_known, stream_known_is, stream_not, is_text_known, text_known_is, text_not}
use Rattle.jc_refs_check.proofs.operands.takes.Goals as goal

pub returns-in-Array-matches : goal.returns-in-Array-matches
returns-in-Array-matches c =
    let names = c.args.classes.now.names in let name = name_at names c.args.class in
    ap is_any_known (sym c.in-Array-matches.is ∙ c.known_at-known.ensures) ∙ any_known_is name
    ∙ ap (λ (n : Need). need_takes names n name) (sym c.in-AnyArray.is)

pub returns-in_default : goal.returns-in_default
returns-in_default c =
    let names = c.args.classes.now.names in let name = name_at names c.args.class in
    sym (any_not c.known_at-known.result c.in_default.not-Array) ∙ ap is_any_known c.known_at-known.ensures ∙ any_known_is name
    ∙ ap (λ (n : Need). need_takes names n name) (sym c.in-AnyArray.is)

pub returns-in-Throwable-matches : goal.returns-in-Throwable-matches
returns-in-Throwable-matches c =
    let names = c.args.classes.now.names in let name = name_at names c.args.class in
    ap is_throwable_known (sym c.in-Throwable-matches.is ∙ c.known_at-known.ensures) ∙ throwable_known_is name
    ∙ ap (λ (n : Need). need_takes names n name) (sym c.in-Throwable.is)

pub returns-in_default-matches : goal.returns-in_default-matches
returns-in_default-matches c =
    let names = c.args.classes.now.names in let name = name_at names c.args.class in
    sym (throwable_not c.known_at-known.result c.in_default-matches.not-Throwable) ∙ ap is_throwable_known c.known_at-known.ensures ∙ throwable_known_is name
    ∙ ap (λ (n : Need). need_takes names n name) (sym c.in-Throwable.is)

pub returns-in-PrintStream-matches : goal.returns-in-PrintStream-matches
returns-in-PrintStream-matches c =
    let names = c.args.classes.now.names in let name = name_at names c.args.class in
    ap is_stream_known (sym c.in-PrintStream-matches.is ∙ c.known_at-known.ensures) ∙ stream_known_is name
    ∙ ap (λ (n : Need). need_takes names n name) (sym c.in-PrintStream.is)

pub returns-in_default-matches-2 : goal.returns-in_default-matches-2
returns-in_default-matches-2 c =
    let names = c.args.classes.now.names in let name = name_at names c.args.class in
    sym (stream_not c.known_at-known.result c.in_default-matches-2.not-PrintStream) ∙ ap is_stream_known c.known_at-known.ensures ∙ stream_known_is name
    ∙ ap (λ (n : Need). need_takes names n name) (sym c.in-PrintStream.is)

pub returns-in-Text-matches : goal.returns-in-Text-matches
returns-in-Text-matches c =
    let names = c.args.classes.now.names in let name = name_at names c.args.class in
    ap is_text_known (sym c.in-Text-matches.is ∙ c.known_at-known.ensures) ∙ text_known_is name
    ∙ ap (λ (n : Need). need_takes names n name) (sym c.in-Text.is)

pub returns-in_default-matches-3 : goal.returns-in_default-matches-3
returns-in_default-matches-3 c =
    let names = c.args.classes.now.names in let name = name_at names c.args.class in
    sym (text_not c.known_at-known.result c.in_default-matches-3.not-Text) ∙ ap is_text_known c.known_at-known.ensures ∙ text_known_is name
    ∙ ap (λ (n : Need). need_takes names n name) (sym c.in-Text.is)
