use Rattle.jc_bytes.specs.Descriptor.{IsFieldDescriptor}
use Rattle.jc_pool.specs.Lookup.{Member}
use Rattle.jc_body.specs.FoundView.{computed}
use Rattle.jc_body.proofs.StandingLaws.{of_computed_there}
use Rattle.jc_body.proofs.standing.has_value_descriptor.Goals as goal

pub returns : goal.returns
returns c =
    let Fact : Member → Type 0 = λ m. IsFieldDescriptor m.desc in
    of_computed_there c.args.pool.now c.args.place (computed c.args.c.now) Fact c.has_field_descriptor.result c.has_field_descriptor.ensures c.requires
