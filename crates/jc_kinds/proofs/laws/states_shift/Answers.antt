use Rattle.jc_kinds.proofs.StateShiftLaws.{states_whole, states_shift}
use Rattle.jc_kinds.proofs.EntryShiftLaws.{fits_shift, entry_shifts}
use Rattle.jc_kinds.proofs.laws.states_shift.Goals as goal

pub returns : goal.returns
returns c = record { whole = states_whole; states = states_shift; fits = fits_shift; entry = entry_shifts }
