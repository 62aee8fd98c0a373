-- Each item of a table is read exactly where its form spells one.
use Rattle.jc_bytes.specs.Grammar.{Agrees}
use Rattle.jc_bytes.proofs.CountedLaws.{agrees_number}
use Rattle.jc_bytes.proofs.GrammarLaws.{agrees_nothing, agrees_followed}
use Rattle.jc_body.specs.CodeForm.{row, line_entry, var_entry}
use Rattle.jc_body.specs.CodeReading.{row_at, line_at, var_at}

pub row_agrees : Agrees row row_at
unfolding row_at
row_agrees =
    agrees_followed _ _ _ _ (agrees_number 2) (λ start.
    agrees_followed _ _ _ _ (agrees_number 2) (λ end.
    agrees_followed _ _ _ _ (agrees_number 2) (λ target.
    agrees_followed _ _ _ _ (agrees_number 2) (λ class.
    agrees_nothing (record { start = start; end = end; target = target; class = class })))))

pub line_agrees : Agrees line_entry line_at
unfolding line_at
line_agrees =
    agrees_followed _ _ _ _ (agrees_number 2) (λ start.
    agrees_followed _ _ _ _ (agrees_number 2) (λ line.
    agrees_nothing (record { start = start; line = line })))

pub var_agrees : Agrees var_entry var_at
unfolding var_at
var_agrees =
    agrees_followed _ _ _ _ (agrees_number 2) (λ start.
    agrees_followed _ _ _ _ (agrees_number 2) (λ length.
    agrees_followed _ _ _ _ (agrees_number 2) (λ name.
    agrees_followed _ _ _ _ (agrees_number 2) (λ desc.
    agrees_followed _ _ _ _ (agrees_number 2) (λ slot.
    agrees_nothing (record { start = start; length = length; name = name; desc = desc; slot = slot }))))))
