use Rattle.jc_bytes.specs.Descriptor.{IsMethodDescriptor}
use Rattle.jc_pool.specs.Lookup.{Member, member}
use Rattle.jc_body.proofs.StandingLaws.{of_member_there}
use Rattle.jc_body.proofs.standing.has_method_descriptor.Goals as goal

pub returns : goal.returns
returns c =
    let Fact : Member → Type 0 = λ m. IsMethodDescriptor m.desc in
    of_member_there c.args.pool.now c.args.place (member c.args.m.now) Fact c.has_method_descriptor.result c.has_method_descriptor.ensures c.requires
