use Rattle.std.proofs.Common.{◌≢◌, ℕ, ◌<◌, Some}
use Rattle.jc_pool.specs.Lookup.{utf8_of}
use Rattle.jc_instrument_code.proofs.texts.first_text.Given as goal

-- the text stands at none of the places so far
abbrev pub invariant-searching : goal.invariant-searching
invariant-searching l = (earlier : ℕ) → earlier < l.place → utf8_of l.pool earlier ≢ Some l.text
