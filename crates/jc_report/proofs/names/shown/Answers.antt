use Rattle.std.proofs.Common.{◌∙◌, ap, string_bytes}
use Rattle.jc_report.proofs.SpelledLaws.{shown_text, shown_bytes}
use Rattle.jc_report.proofs.names.shown.Goals as goal

pub returns-in-Some : goal.returns-in-Some
returns-in-Some c =
    ap (λ v. v.items) c.into_bytes.ensures.value
    ∙ shown_text (λ text. string_bytes text) c.args.name.now c.in_ok-text.field-0 c.in-Some.text c.in-Some.is c.in_ok-text.ensures.text

pub returns-in_ok-from_slice-in-None : goal.returns-in_ok-from_slice-in-None
returns-in_ok-from_slice-in-None c =
    c.in_ok-from_slice-in-None.ensures.items
    ∙ shown_bytes (λ text. string_bytes text) c.args.name.now c.in_ok-text.field-0 c.in-None.is c.in_ok-text.ensures.text
