use Rattle.jc_emit.specs.Emission.{emission}
use Rattle.jc_layout.proofs.LayableLaws.{all_formed, all_within, few_in, ready_layable}
use Rattle.jc_layout.proofs.laws.each_emission_can_be_laid.Goals as goal

pub returns : goal.returns
unfolding emission
returns c = λ b first giver states given well. ready_layable given.fetch giver (emission b first states given) (record {
  well_formed = all_formed b first given.fetch given.integer well.code;
  places = all_within b first given.fetch given.integer well.code;
  few = few_in b first states given well.code;
})
