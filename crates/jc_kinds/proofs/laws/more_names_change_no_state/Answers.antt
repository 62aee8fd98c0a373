use Rattle.jc_kinds.proofs.GrowLaws.{states_stay}
use Rattle.jc_kinds.proofs.FitsLaws.{fits_decided}
use Rattle.jc_kinds.proofs.laws.more_names_change_no_state.Goals as goal

pub returns : goal.returns
returns c = record { stay = states_stay; fits = λ a b. ((fits_decided a b).to, (fits_decided a b).back) }
