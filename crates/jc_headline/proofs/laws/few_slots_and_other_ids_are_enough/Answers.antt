use Rattle.jc_headline.proofs.FewSlotsLaws.{not_refused}
use Rattle.jc_headline.proofs.laws.few_slots_and_other_ids_are_enough.Goals as goal

pub returns : goal.returns
returns c = λ originals written r few differ refusal. not_refused originals written few differ r refusal
