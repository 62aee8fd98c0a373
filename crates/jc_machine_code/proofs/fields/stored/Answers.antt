use Rattle.jc_machine_code.proofs.StoredLaws.{stored_says}
use Rattle.jc_machine_code.proofs.fields.stored.Goals as goal

pub returns : goal.returns
returns c = λ type d. rw c.stored_of.ensures (stored_says c.field_type.result type (c.field_type.ensures type d))
