use Rattle.examples_methods.proofs.ReportExampleLaws.{zero_is_shown, pair_is_shown, half_is_shown, no_text_is_shown}
use Rattle.examples_methods.proofs.reports.worked_texts.Goals as goal

pub returns : goal.returns
returns c = record { zero = zero_is_shown; pair = pair_is_shown; half = half_is_shown; no_text = no_text_is_shown }
